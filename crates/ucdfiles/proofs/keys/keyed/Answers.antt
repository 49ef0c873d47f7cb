use Rattle.std.proofs.Common.{◌≡◌, List, take, get_or, ap, sym, subst, ◌∙◌, arith}
use Rattle.std.proofs.lemmas.List.{take_more, take_all}
use Rattle.ucdfiles.specs.declared.sided_bracket.SidedBracket.{SidedBracket}
use Rattle.ucdfiles.specs.declared.sided_bracket.BracketSide.TheVariants.{Open}
use Rattle.ucdfiles.specs.declared.span.Span.{Span}
use Rattle.units.specs.declared.bracket.Bracket.{Bracket}
use Rattle.ucdfiles.specs.PairFiles.{bracket_with}
use Rattle.ucdfiles.specs.Keys.{AreKeyed, key_in, keyed_value}
use Rattle.ucdfiles.specs.Spans.{IsRising}
use Rattle.ucdfiles.proofs.Keyed.{AreKeyedSoFar, keyed-more}
use Rattle.ucdfiles.proofs.Rising.{rising-revalued}
use Rattle.ucdfiles.proofs.keys.keyed.Goals as goal

pub loop-span-preserved : goal.loop-span-preserved
loop-span-preserved c =
    let spans = c.args.spans.now in
    let i = c.loop-span.span-index in
    let d : Span SidedBracket = record { first = 0; last = 0; value = record { side = Open; keyed_by = 0 } } in
    let span : Span SidedBracket = get_or spans i d in
    let key : c.with_key.result ≡ bracket_with span.value.side (record { 0 = c.in_ok-number.number }) =
    c.with_key.ensures ∙ ap (λ n. bracket_with span.value.side (record { 0 = n })) c.new.ensures in
    rw (take_more spans i d c.loop-span-test.true, c.in_ok-push.ensures.items, key)
    (keyed-more c.loop-span.numbering c.number.new.self (take i spans) span c.loop-span.brackets.items
    c.in_ok-number.number c.loop-span.invariant c.in_ok-number.ensures.numbering c.in_ok-number.ensures.unchanged
    c.in_ok-number.ensures.number)

pub returns-clause-keyed : goal.returns-clause-keyed
returns-clause-keyed c =
    let spans = c.args.spans.now in
    let whole : take c.loop-span.span-index spans ≡ spans = take_all c.loop-span.span-index spans (omega arith) in
    let P : List (Span SidedBracket) → Type 0 =
    λ ss. AreKeyedSoFar c.loop-span.numbering ss c.loop-span.brackets.items in
    let h : AreKeyedSoFar c.loop-span.numbering spans c.loop-span.brackets.items =
    subst P whole c.loop-span.invariant in
    record { numbers = c.loop-span.numbering; numbering = h.numbering; numbered = h.numbered; keyed = h.keyed }

pub returns-clause-rising : goal.returns-clause-rising
returns-clause-rising c =
    let are : AreKeyed c.args.spans.now c.loop-span.brackets.items = returns-clause-keyed c in
    let P : List (Span Bracket) → Type 0 = λ bs. IsRising bs in
    subst P (sym are.keyed) (rising-revalued (keyed_value (key_in are.numbers)) (record {
      side = Open;
      keyed_by =
          0;
    }) c.args.spans.now c.requires)
