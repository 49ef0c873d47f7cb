use Rattle.std.proofs.Common.{◌≡◌, ◌<◌, ◌-◌, ℕ, List, suc, length, slice_index, true, false, ap, ◌∙◌, sym, arith}
use Rattle.std.specs.Option.{is_some}
use Rattle.units.specs.Brackets.{strong_as, context_before}
use Rattle.units.specs.Classes.{class_at, classes_at}
use Rattle.units.specs.declared.class.Class.{Class}
use Rattle.resolve.proofs.Gathered.{class_at-classes_at}
use Rattle.resolve.proofs.LookingBack.{looked_back-all, looked_back-found}
use Rattle.resolve.proofs.PairInOrder.{context_before-found, context_before-passed}
use Rattle.resolve.proofs.pair_direction.Nearest.class_before.Goals as goal

-- what is known about the class before index k of the sequence, which has these positions
module _ (cs : List Class) (qs ps : List ℕ) (sos : Class) (k : ℕ) (same : qs ≡ ps) (some : 0 < k)
    (inside : k - 1 < length ps) where
  read_is : class_at cs (slice_index qs (k - 1)) ≡ class_at (classes_at cs ps) (k - 1)
  read_is = ap (λ (xs : List ℕ). class_at cs (slice_index xs (k - 1))) same ∙
      sym (class_at-classes_at cs ps (k - 1) inside)

  one : suc (k - 1) ≡ k
  one = omega arith

  nearest_is_previous : is_some (strong_as (class_at cs (slice_index qs (k - 1)))) ≡ true →
      class_at cs (slice_index qs (k - 1)) ≡ context_before (classes_at cs ps) sos k
  nearest_is_previous is =
      read_is
      ∙ sym (context_before-found (classes_at cs ps) sos (k - 1) (ap (λ d. is_some (strong_as d)) (sym read_is) ∙ is))
      ∙ ap (context_before (classes_at cs ps) sos) one

  passed_back : is_some (strong_as (class_at cs (slice_index qs (k - 1)))) ≡ false →
      context_before (classes_at cs ps) sos (k - 1) ≡ context_before (classes_at cs ps) sos k
  passed_back isnt =
      sym (context_before-passed (classes_at cs ps) sos (k - 1) (ap (λ d. is_some (strong_as d)) (sym read_is) ∙ isnt))
      ∙ ap (context_before (classes_at cs ps) sos) one

pub returns-then-is_some-clause-value : goal.returns-then-is_some-clause-value
returns-then-is_some-clause-value g c =
    let ps : List ℕ = c.args.s.now.positions in
    let cs : List Class = c.args.classes.now in
    let inside : c.loop-k.k - 1 < length c.args.s.now.positions =
    omega (arith, c.loop-k-test.true, c.requires.within, c.loop-k.auto.k) in
    let is = ap is_some (sym c.strong.ensures) ∙ sym c.is_some.ensures ∙ c.if-is_some.true in
    let some : 0 < c.loop-k.k = omega (arith, c.loop-k-test.true) in
    nearest_is_previous cs c.as_slice-positions.result.now ps c.args.s.now.sos c.loop-k.k
    c.as_slice-positions.ensures.value some inside is ∙ c.loop-k.invariant.0

pub loop-k-preserved : goal.loop-k-preserved
loop-k-preserved g c =
    let ps : List ℕ = c.args.s.now.positions in
    let cs : List Class = c.args.classes.now in
    let inside : c.loop-k.k - 1 < length c.args.s.now.positions =
    omega (arith, c.loop-k-test.true, c.requires.within, c.loop-k.auto.k) in
    let isnt = ap is_some (sym c.strong.ensures) ∙ sym c.is_some.ensures ∙ c.if-is_some.false in
    let some : 0 < c.loop-k.k = omega (arith, c.loop-k-test.true) in (
      passed_back cs c.as_slice-positions.result.now ps c.args.s.now.sos c.loop-k.k c.as_slice-positions.ensures.value
          some inside isnt ∙ c.loop-k.invariant.0,
      omega (arith, c.loop-k-test.true),
      omega (arith, c.tick.ensures, c.loop-k.invariant.2),
      omega (arith, c.tick.ensures, c.loop-k.invariant.3, c.loop-k-test.true),
      c.loop-k.invariant.4,
    )

pub returns-clause-value : goal.returns-clause-value
returns-clause-value g c =
    let same : c.args.self.now.index ≡ c.loop-k.k = omega (arith, c.loop-k.invariant.1, c.loop-k-test.false) in
    c.requires.nearest ∙
    ap (context_before (classes_at c.args.classes.now c.args.s.now.positions) c.args.s.now.sos) same ∙
    c.loop-k.invariant.0

pub returns-then-is_some-clause-at_least : goal.returns-then-is_some-clause-at_least
returns-then-is_some-clause-at_least g c =
    let ps : List ℕ = c.args.s.now.positions in
    let cs : List Class = c.args.classes.now in
    let k : ℕ = c.loop-k.k in
    let inside : c.loop-k.k - 1 < length c.args.s.now.positions =
    omega (arith, c.loop-k-test.true, c.requires.within, c.loop-k.auto.k) in
    let is = ap is_some (sym c.strong.ensures) ∙ sym c.is_some.ensures ∙ c.if-is_some.true in
    let some : 0 < c.loop-k.k = omega (arith, c.loop-k-test.true) in
    let below : c.loop-k.k - 1 < c.args.index = omega (arith, c.loop-k-test.true, c.loop-k.auto.k) in
    let here = read_is cs c.as_slice-positions.result.now ps c.args.s.now.sos k c.as_slice-positions.ensures.value some
    inside in
    omega (
      arith,
      looked_back-found (classes_at cs ps) c.args.self.now.index c.args.index (k - 1) below
          (ap (λ d. is_some (strong_as d)) (sym here) ∙ is),
      c.tick.ensures,
      c.loop-k.invariant.3,
    )

pub returns-clause-at_least : goal.returns-clause-at_least
returns-clause-at_least g c =
    omega (
      arith,
      looked_back-all (classes_at c.args.classes.now c.args.s.now.positions) c.args.self.now.index c.args.index,
      c.loop-k.invariant.1,
      c.loop-k.invariant.3,
      c.loop-k-test.false,
    )
