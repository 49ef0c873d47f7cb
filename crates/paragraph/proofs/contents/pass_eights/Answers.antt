use Rattle.std.proofs.Common.{arith, subst, ℕ, ◌+◌, ◌≤◌, ◌≡◌, false, take, length, Option, IfSome}
use Rattle.std.specs.List.{list_any}
use Rattle.units.specs.Classes.{classes_of}
use Rattle.units.specs.declared.class.Class.TheVariants.{B}
use Rattle.paragraph.specs.ClassSets.{IsSetOf, is_class}
use Rattle.paragraph.specs.declared.class_set.ClassSet.{ClassSet}
use Rattle.paragraph.proofs.Scan.{goes_on_eight}
use Rattle.paragraph.proofs.contents.pass_eights.Goals as goal

pub loop-more-preserved : goal.loop-more-preserved
loop-more-preserved g c =
    let l = c.loop-more in
    let us = c.args.text.now in
    let p : ℕ = l.p in
    let block = c.pass_block.ensures in
    let P : Option ClassSet → Type 0 = λ o. IfSome o (λ _. p + 8 ≤ length us) in
    let Q : Option ClassSet → Type 0 = λ o. IfSome o (λ classes. IsSetOf classes (classes_of (take (p + 8) us))) in
    let R : Option ClassSet → Type 0 =
    λ o. IfSome o (λ _. list_any (is_class B) (classes_of (take (p + 8) us)) ≡ false) in
    let eight : p + 8 ≤ length us = subst P c.in-Some.is block.eight in
    record {
      later = omega (arith, l.invariant.later);
      front = record {
        within = omega (arith, eight);
        goes_on = goes_on_eight us p eight (subst R c.in-Some.is block.passed) l.invariant.front.goes_on;
        set = subst Q c.in-Some.is block.classes;
      };
      steps = omega (arith, c.add.ensures, l.invariant.steps);
    }
