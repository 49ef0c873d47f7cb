use Rattle.std.proofs.Common.{◌∙◌, ap, refl, subst, sym}
use Rattle.units.specs.Classes.{is_separator}
use Rattle.units.specs.Paragraphs.{SeparatorOnlyLast}
use Rattle.units.specs.declared.bracket.Unit.{Unit as BidiUnit}
use Rattle.printing.proofs.UnderWay.{last_came, none_came, unended_then, units_more}
use Rattle.printing.proofs.paragraphs.take_character.Goals as goal

pub print_unfinished-requires-clause-one : goal.print_unfinished-requires-clause-one
print_unfinished-requires-clause-one g c =
    let old = c.args.begun.now in
    let tables = old.settings.tables.now in
    let chars = old.paragraph.chars.items in
    let units = c.in_ok-add.ensures.units ∙
    units_more tables chars _ c.args.character _ old.unfinished.units c.requires.unit in
    subst SeparatorOnlyLast (sym units)
    (unended_then tables chars c.args.character old.unfinished.unended)

pub returns-in_ok-print_unfinished-clause-printed : goal.returns-in_ok-print_unfinished-clause-printed
returns-in_ok-print_unfinished-clause-printed g c =
    let ends = ap (λ (u : BidiUnit). is_separator u.class) (sym c.requires.unit) ∙ sym c.is_separator.ensures ∙
    c.if-is_separator.true in
    let printed = c.in_ok-print_unfinished.ensures in
    last_came c.args.character _ _ c.args.begun.now _ c.add.new.self refl c.in_ok-add.ensures.passed
    c.in_ok-add.ensures.chars ends printed.chars printed.passed printed.printed

pub returns-else-is_separator-clause-printed : goal.returns-else-is_separator-clause-printed
returns-else-is_separator-clause-printed g c =
    none_came _ _ c.args.begun.now _ refl c.in_ok-add.ensures.passed c.in_ok-add.ensures.chars
