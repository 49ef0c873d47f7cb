use Rattle.std.proofs.Common.{◌∙◌, ◌+◌, [], ◌∷◌, ◌++◌, ap, arith, subst, sym, take, take_all}
use Rattle.std.proofs.lemmas.List.{take_more}
use Rattle.std.proofs.lemmas.Result.{IfOk-weaker}
use Rattle.std.specs.Io.KnownBytes.{Appends}
use Rattle.printing.specs.Following.{printed_as}
use Rattle.printing.specs.UnderWay.{PrintsOn, printed_next}
use Rattle.printing.proofs.UnderWay.{all_came, more_came, nothing_came}
use Rattle.printing.proofs.print.print_each.Goals as goal

pub loop-k-init : goal.loop-k-init
loop-k-init g c = record {
  passed_in = c.requires.new;
  printed = nothing_came _ _;
}

pub loop-k-preserved : goal.loop-k-preserved
loop-k-preserved g c =
    let text = c.args.text.now in
    let k = c.loop-k.k in
    let next = take_more text k c.index-text-k.result (omega arith) ∙
    ap (λ x. take k text ++ x ∷ []) (sym c.index-text-k.is) in
    record {
      passed_in = c.in_ok-take_character.ensures.passed_in ∙ ap (λ n. n + 1) c.loop-k.invariant.passed_in;
      printed =
          subst (λ xs. PrintsOn xs (g.W.Write.contents c.args.w.now) (g.W.Write.contents c.take_character.new.w)
          c.args.begun.now c.take_character.new.begun) (sym next)
          (more_came _ _ _ _ _ _ _ _ c.loop-k.invariant.printed c.in_ok-take_character.ensures.printed);
    }

pub returns-clause-printed : goal.returns-clause-printed
returns-clause-printed g c =
    let settings = c.args.begun.now.settings in
    let text = c.args.text.now in
    let begun = c.loop-k.begun in
    let whole = take_all c.loop-k.k text (omega arith) in
    let came = subst (λ xs. PrintsOn xs (g.W.Write.contents c.args.w.now) (g.W.Write.contents c.loop-k.w)
    c.args.begun.now begun) whole c.loop-k.invariant.printed in
    IfOk-weaker c.print_last.result
    (λ _. Appends (g.W.Write.contents c.loop-k.w) (g.W.Write.contents c.print_last.new.w)
    (printed_next begun begun.paragraph.chars.items))
    (λ _. Appends (g.W.Write.contents c.args.w.now) (g.W.Write.contents c.print_last.new.w)
    (printed_as settings.form settings.tables.now text settings.direction))
    (λ _ last. all_came text _ _ c.args.begun.now begun c.requires.new came _ last)
    c.print_last.ensures.printed
