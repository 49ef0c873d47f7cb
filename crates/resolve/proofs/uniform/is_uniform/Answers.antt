use Rattle.std.proofs.Common.{◌≡◌, List, ℕ, true, refl, subst, ap, sym, ◌∙◌}
use Rattle.std.specs.Prelude.{not}
use Rattle.std.specs.List.{All}
use Rattle.explicit.specs.Uniform.{stays_at}
use Rattle.units.specs.Classes.{classes_at}
use Rattle.resolve.specs.ClassSets.{holds}
use Rattle.units.specs.declared.class.Class.{Class}
use Rattle.resolve.proofs.UniformSequences.{stay_if_without, without_if_stay}
use Rattle.resolve.proofs.uniform.is_uniform.Goals as goal

pub returns-clause-uniform : goal.returns-clause-uniform
returns-clause-uniform g c =
    let set = c.leaving.result in
    let level : ℕ = c.args.s.now.level in
    let ps : List ℕ = c.as_slice-positions.result.now in
    let cs : List Class = c.args.classes.now in
    let is : (class : Class) → holds set class ≡ not (stays_at level class) =
    λ class. c.leaving.ensures class ∙ ap (λ n. not (stays_at n class)) c.level.ensures.value in
    let P : List ℕ → Type 0 = λ qs. All (λ class. stays_at level class ≡ true) (classes_at cs qs) in
    let same = c.as_slice-positions.ensures.value in
    let passed = c.pass_without.ensures in (
      λ t. (
        c.if-not-begins_in_its_direction.ensures.0 refl,
        subst P same (stay_if_without set level is ps cs c.pass_without.result passed.without passed.end t),
      ),
      λ u. without_if_stay set level is ps cs c.pass_without.result passed.without passed.end (subst P (sym same) u.1),
    )
