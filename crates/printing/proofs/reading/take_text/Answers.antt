use Rattle.std.proofs.Common.{◌∙◌, ◌+◌, ap, arith, map-id, subst, sym}
use Rattle.std.proofs.lemmas.Iterator.{YieldsList-from_chars}
use Rattle.std.proofs.lemmas.Iterator.Consumers.{YieldsList-turn, YieldsList-end}
use Rattle.std.proofs.lemmas.List.{length_push}
use Rattle.printing.specs.UnderWay.{PrintsOn}
use Rattle.printing.proofs.UnderWay.{chars_le, more_came, nothing_came}
use Rattle.printing.proofs.reading.take_text.Goals as goal

pub loop-character-init : goal.loop-character-init
loop-character-init g c = record {
  passed_in = omega arith;
  printed = nothing_came _ _;
}

pub take_character-requires-clause-small : goal.take_character-requires-clause-small
take_character-requires-clause-small g c =
    let l = c.loop-character in
    let t = YieldsList-turn (YieldsList-from_chars c.args.text.now c.utf8.text cc) l.yielded _ l.yielded_by _ _
    c.in-Some.character c.in-Some.is c.next.ensures.steps in
    omega (arith, t.0, l.invariant.passed_in, c.requires, chars_le c.args.text.now c.utf8.text)

pub loop-character-preserved : goal.loop-character-preserved
loop-character-preserved g c =
    let l = c.loop-character in
    record {
      passed_in = c.in_ok-take_character.ensures.passed_in ∙ ap (λ n. n + 1) l.invariant.passed_in ∙
          omega (arith, length_push l.yielded c.in-Some.character);
      printed = more_came _ _ _ _ _ _ _ _ l.invariant.printed c.in_ok-take_character.ensures.printed;
    }

pub returns-clause-passed_in : goal.returns-clause-passed_in
returns-clause-passed_in g c =
    let l = c.loop-character in
    let t = YieldsList-end (YieldsList-from_chars c.args.text.now c.utf8.text cc) l.yielded _ l.yielded_by _ _
    c.in-None.is c.next.ensures.steps in
    omega (arith, t.1, l.invariant.passed_in)

pub returns-clause-printed : goal.returns-clause-printed
returns-clause-printed g c =
    let l = c.loop-character in
    let t = YieldsList-end (YieldsList-from_chars c.args.text.now c.utf8.text cc) l.yielded _ l.yielded_by _ _
    c.in-None.is c.next.ensures.steps in
    subst (λ xs. PrintsOn xs (g.W.Write.contents c.args.w.now) (g.W.Write.contents l.w) c.args.begun.now l.begun)
    (sym (map-id l.yielded) ∙ t.0) l.invariant.printed
