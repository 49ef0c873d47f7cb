use Rattle.std.proofs.Common.{◌≡◌, ◌<◌, ◌-◌, length, List, ℕ, true, subst, ap, sym, ◌∙◌, arith}
use Rattle.std.specs.Prelude.{not}
use Rattle.std.specs.List.{All}
use Rattle.std.proofs.lemmas.Bool.{both_ways}
use Rattle.explicit.specs.Uniform.{stays_at}
use Rattle.units.specs.Classes.{classes_at}
use Rattle.resolve.specs.ClassSets.{holds}
use Rattle.units.specs.declared.class.Class.{Class}
use Rattle.resolve.proofs.UniformSequences.{without_at}
use Rattle.resolve.proofs.uniform.may_be_uniform.Goals as goal

pub returns-then-holds : goal.returns-then-holds
returns-then-holds c = λ is.
    let level : ℕ = c.args.s.now.level in
    let ps : List ℕ = c.as_slice-positions.result.now in
    let cs : List Class = c.args.classes.now in
    let leaves : (class : Class) → holds c.leaving-leaving.result class ≡ not (stays_at level class) =
    λ class. c.leaving-leaving.ensures class ∙ ap (λ n. not (stays_at n class)) c.level.ensures.value in
    let P : List ℕ → Type 0 = λ qs. All (λ class. stays_at level class ≡ true) (classes_at cs qs) in
    let same = sym c.as_slice-positions.ensures.value in
    let some : 0 < length ps = subst (λ (qs : List ℕ). 0 < length qs) same c.requires.some in
    absurd (both_ways c.holds.result (c.holds.ensures ∙ without_at c.leaving-leaving.result level leaves ps cs 0 some
    (subst P same is.1)) c.if-holds.true)

pub returns : goal.returns
returns c = λ is.
    let level : ℕ = c.args.s.now.level in
    let ps : List ℕ = c.as_slice-positions.result.now in
    let cs : List Class = c.args.classes.now in
    let leaves : (class : Class) → holds c.leaving-leaving.result class ≡ not (stays_at level class) =
    λ class. c.leaving-leaving.ensures class ∙ ap (λ n. not (stays_at n class)) c.level.ensures.value in
    let P : List ℕ → Type 0 = λ qs. All (λ class. stays_at level class ≡ true) (classes_at cs qs) in
    let same = sym c.as_slice-positions.ensures.value in
    let some : 0 < length ps = subst (λ (qs : List ℕ). 0 < length qs) same c.requires.some in
    ap not (c.holds-2.ensures ∙ without_at c.leaving-leaving.result level leaves ps cs (length ps - 1) (omega arith)
    (subst P same is.1))
