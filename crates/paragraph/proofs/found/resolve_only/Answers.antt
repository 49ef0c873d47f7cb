use Rattle.std.proofs.Common.{◌≡◌, List, arith, refl, subst, length, take}
use Rattle.units.specs.Classes.{class_at, classes_of}
use Rattle.units.specs.declared.class.Class.{Class}
use Rattle.resolve.specs.Resolved.{Resolves}
use Rattle.resolve.proofs.OwnClasses.{mark-own}
use Rattle.paragraph.proofs.Covering.{covered_by_one, is_in_all, length_of_one}
use Rattle.paragraph.proofs.found.resolve_only.Goals as goal

pub resolve_sequence-requires-clause-own : goal.resolve_sequence-requires-clause-own
resolve_sequence-requires-clause-own g c =
    λ e p h. c.requires.own p (is_in_all c.requires.apart c.get-sequence.ensures.value (omega arith) p h)

pub resolve_sequence-requires-clause-marks : goal.resolve_sequence-requires-clause-marks
resolve_sequence-requires-clause-marks g c = λ p h.
    mark-own (class_at c.args.para.now.before.now p) (class_at (classes_of c.args.para.now.units.now) p)
    (c.requires.own p (is_in_all c.requires.apart c.get-sequence.ensures.value (omega arith) p h))

pub returns-clause-levels : goal.returns-clause-levels
returns-clause-levels g c =
    let para = c.args.para.now in
    let same : take (length para.units.now) c.args.classes.now ≡ para.before.now = c.requires.copy in
    let P : List Class → Type 0 =
    λ classes. Resolves para.limits.brackets c.get-sequence.result para.units.now para.before.now classes
    c.resolve_sequence.new.classes c.args.levels.now c.resolve_sequence.new.levels in
    covered_by_one c.requires.apart c.get-sequence.ensures.value c.requires.one para.limits.brackets para.units.now
    para.before.now c.resolve_sequence.new.classes c.args.levels.now c.resolve_sequence.new.levels refl
    c.requires.fresh (subst P same c.resolve_sequence.ensures.resolved)

pub returns-clause-at_most : goal.returns-clause-at_most
returns-clause-at_most g c =
    omega (arith, length_of_one c.requires.apart c.get-sequence.ensures.value c.requires.one)
