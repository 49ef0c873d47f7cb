use Rattle.std.proofs.Common.{◌∙◌, arith, eqb-true, subst, sym}
use Rattle.std.proofs.lemmas.List.{nil_from_length}
use Rattle.units.specs.Paragraphs.{SeparatorOnlyLast}
use Rattle.printing.proofs.UnderWay.{nothing_remaining, unended_only}
use Rattle.printing.proofs.paragraphs.print_last.Goals as goal

pub returns-then-is_empty-clause-printed : goal.returns-then-is_empty-clause-printed
returns-then-is_empty-clause-printed g c =
    let settings = c.args.begun.now.settings in
    let none = eqb-true _ _ (sym c.is_empty.ensures ∙ c.if-is_empty.true) in
    nothing_remaining settings.form _ settings.tables.now _ settings.direction _
    (nil_from_length _ (omega (arith, none)))

pub print_unfinished-requires-clause-one : goal.print_unfinished-requires-clause-one
print_unfinished-requires-clause-one g c =
    let begun = c.args.begun.now in
    subst SeparatorOnlyLast (sym begun.unfinished.units)
    (unended_only begun.settings.tables.now _ begun.unfinished.unended)
