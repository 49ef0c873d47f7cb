use Rattle.std.proofs.Common.{◌∙◌, List, arith, sym, subst}
use Rattle.std.specs.Prelude.{◌≡◌, false}
use Rattle.std.specs.List.{list_any}
use Rattle.units.specs.Classes.{classes_of}
use Rattle.units.specs.declared.bracket.Unit.{Unit as BidiUnit}
use Rattle.units.specs.declared.class.Class.TheVariants.{ON}
use Rattle.paragraph.specs.ClassSets.{is_class}
use Rattle.decoding.proofs.FourUnits.{no_brackets}
use Rattle.decoding.proofs.fours.write_known_brackets.Goals as goal

pub returns-else-has : goal.returns-else-has
returns-else-has c =
    let none = sym (c.has.ensures (classes_of c.args.units.now) c.requires.classes) ∙ c.if-has.false in
    c.requires.plain ∙ no_brackets c.args.borrowed.now c.args.codes.now c.requires.neutral
    (λ k lt. c.requires.scalars k (omega (arith, lt, c.requires.len)))
    (subst (λ (us : List BidiUnit). list_any (is_class ON) (classes_of us) ≡ false) c.requires.plain none)
