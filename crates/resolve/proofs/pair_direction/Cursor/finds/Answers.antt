use Rattle.std.proofs.Common.{◌≡◌, ◌<◌, ◌≤◌, ◌+◌, ◌-◌, ℕ, List, refl, length, slice_index, false, true, ap, ◌∙◌, sym, arith, inl, inr}
use Rattle.std.proofs.lemmas.Bool.{lt-ltb, le-ltb}
use Rattle.units.specs.Brackets.{strong_as, same_direction}
use Rattle.units.specs.Classes.{class_at, classes_at}
use Rattle.units.specs.declared.class.Class.{Class}
use Rattle.resolve.specs.Indices.{index_of}
use Rattle.resolve.proofs.Gathered.{length-classes_at, class_at-classes_at}
use Rattle.resolve.proofs.Indices.{index_before, index_not_before}
use Rattle.resolve.proofs.Insides.{looking_starts, looking_goes_on, looked_in_vain, class_in_pair, passed_inside-vain, passed_inside-found}
use Rattle.resolve.specs.declared.pair_direction.Cursor.{Cursor}
use Rattle.resolve.proofs.pair_direction.Cursor.finds.Goals as goal
use Rattle.resolve.proofs.pair_direction.Cursor.finds.Goals.{then-loop-self-test+else-not-counts_as, else-loop-self-test, then-self-pair, else-self-pair}

-- what is read at an index of the sequence
read_is : (qs ps : List ℕ) (k : ℕ) → qs ≡ ps → slice_index qs k ≡ slice_index ps k
read_is qs ps k e = ap (λ (xs : List ℕ). slice_index xs k) e

pub bounds-classes-positions : goal.bounds-classes-positions
bounds-classes-positions g c =
    let k : ℕ = c.loop-self.self.next in
    let inside : c.loop-self.self.next < length c.args.s.now.positions =
    omega (arith, c.loop-self.invariant.0.within, c.requires.within) in
    omega (
      arith,
      read_is c.as_slice-positions.result.now c.args.s.now.positions k c.as_slice-positions.ensures.value,
      c.as_slice-positions.ensures.rise.within k inside,
      c.requires.classes,
    )

pub loop-self-init : goal.loop-self-init
loop-self-init g c =
    let ps : List ℕ = c.args.s.now.positions in
    let long = ap length c.as_slice-positions.ensures.value in
    elim c.if-self-pair.branch [
      | then-self-pair w ↦ rw w.self-is (
        looking_starts (classes_at c.args.classes.now ps) c.args.pair.index (index_of ps c.args.pair.closer)
            (length ps - 1) (c.args.pair.index + 1) c.args.self.now
            (omega (arith, c.requires.order, c.requires.within)) c.requires.next c.requires.passed (inl (
              refl,
              w.if-self-pair.true,
            )),
        omega arith,
        omega (arith, w.if-self-pair.true),
        long,
      )
      | else-self-pair w ↦ rw w.self-is (
        looking_starts (classes_at c.args.classes.now ps) c.args.pair.index (index_of ps c.args.pair.closer)
            (length ps - 1) c.args.self.now.next c.args.self.now
            (omega (arith, c.requires.order, c.requires.within)) c.requires.next c.requires.passed (inr (
              refl,
              w.if-self-pair.false,
            )),
        omega arith,
        omega arith,
        long,
      )
    ]

pub loop-self-preserved : goal.loop-self-preserved
loop-self-preserved g c =
    let ps : List ℕ = c.args.s.now.positions in
    let k : ℕ = c.loop-self.self.next in
    let inside : c.loop-self.self.next < length c.args.s.now.positions =
    omega (arith, c.loop-self.invariant.0.within, c.requires.within) in
    let read = read_is c.as_slice-positions.result.now ps k c.as_slice-positions.ensures.value in
    let before : c.loop-self.self.next < index_of c.args.s.now.positions c.args.pair.closer =
    index_before ps c.args.s.now.extent c.as_slice-positions.ensures.rise k c.args.pair.closer inside c.requires.within
    (omega (arith, read, c.loop-self-test.true)) in
    let none : same_direction c.loop-self.self.direction (strong_as (class_at (classes_at c.args.classes.now ps) k)) ≡
    false =
    ap (λ d. same_direction c.loop-self.self.direction (strong_as d))
    (class_at-classes_at c.args.classes.now ps k inside ∙ ap (class_at c.args.classes.now) (sym read))
    ∙ sym c.counts_as.ensures ∙ c.if-not-counts_as.true in (
      looking_goes_on c.loop-self.invariant.0 (k + 1) refl (omega (arith, c.requires.within)) none,
      omega arith,
      omega arith,
      c.loop-self.invariant.3,
    )

pub loop-self-smaller : goal.loop-self-smaller
loop-self-smaller g c =
    let ps : List ℕ = c.args.s.now.positions in
    let k : ℕ = c.loop-self.self.next in
    let inside : c.loop-self.self.next < length c.args.s.now.positions =
    omega (arith, c.loop-self.invariant.0.within, c.requires.within) in
    let read = read_is c.as_slice-positions.result.now ps k c.as_slice-positions.ensures.value in
    omega (
      arith,
      index_before ps c.args.s.now.extent c.as_slice-positions.ensures.rise k c.args.pair.closer inside
          c.requires.within (omega (arith, read, c.loop-self-test.true)),
    )

pub returns-clause-value : goal.returns-clause-value
returns-clause-value g c =
    let ps : List ℕ = c.args.s.now.positions in
    let k : ℕ = c.loop-self.self.next in
    let long = length-classes_at c.args.classes.now ps in
    let inside : c.loop-self.self.next < length c.args.s.now.positions =
    omega (arith, c.loop-self.invariant.0.within, c.requires.within) in
    let read = read_is c.as_slice-positions.result.now ps k c.as_slice-positions.ensures.value in
    let le : index_of c.args.s.now.positions c.args.pair.closer ≤
    length (classes_at c.args.classes.now c.args.s.now.positions) = omega (arith, c.requires.within, long) in
    elim c.loop-self-test.branch [
      | then-loop-self-test+else-not-counts_as w ↦
          (let is : same_direction c.loop-self.self.direction
          (strong_as (class_at (classes_at c.args.classes.now ps) k)) ≡ true =
          ap (λ d. same_direction c.loop-self.self.direction (strong_as d))
          (class_at-classes_at c.args.classes.now ps k inside ∙ ap (class_at c.args.classes.now) (sym read))
          ∙ sym w.counts_as.ensures ∙ w.if-not-counts_as.false in
          let before : c.loop-self.self.next < index_of c.args.s.now.positions c.args.pair.closer =
          index_before ps c.args.s.now.extent c.as_slice-positions.ensures.rise k c.args.pair.closer inside
          c.requires.within (omega (arith, read, w.loop-self-test.true)) in
          lt-ltb (slice_index c.as_slice-positions.result.now k) c.args.pair.closer w.loop-self-test.true ∙
          class_in_pair c.loop-self.invariant.0 before le is)
      | else-loop-self-test w ↦
          (let past : index_of c.args.s.now.positions c.args.pair.closer ≤ c.loop-self.self.next =
          index_not_before ps c.args.s.now.extent c.as_slice-positions.ensures.rise k c.args.pair.closer inside
          c.requires.within (omega (arith, read, w.loop-self-test.false)) in
          le-ltb (slice_index c.as_slice-positions.result.now k) c.args.pair.closer w.loop-self-test.false ∙
          looked_in_vain c.loop-self.invariant.0 past le)
    ]

pub returns-clause-at_least : goal.returns-clause-at_least
returns-clause-at_least g c =
    let ps : List ℕ = c.args.s.now.positions in
    let cs : List Class = classes_at c.args.classes.now ps in
    let old : Cursor = c.args.self.now in
    let o : ℕ = c.args.pair.index in
    let d : ℕ = index_of ps c.args.pair.closer in
    let k : ℕ = c.loop-self.self.next in
    let long = length-classes_at c.args.classes.now ps in
    let inside : c.loop-self.self.next < length c.args.s.now.positions =
    omega (arith, c.loop-self.invariant.0.within, c.requires.within) in
    let read = read_is c.as_slice-positions.result.now ps k c.as_slice-positions.ensures.value in
    let low = c.loop-self.invariant.1 in
    let counted = c.loop-self.invariant.2 in
    elim c.loop-self-test.branch [
      | then-loop-self-test+else-not-counts_as w ↦
          (let is : same_direction c.loop-self.self.direction
          (strong_as (class_at (classes_at c.args.classes.now ps) k)) ≡ true =
          ap (λ d. same_direction c.loop-self.self.direction (strong_as d))
          (class_at-classes_at c.args.classes.now ps k inside ∙ ap (class_at c.args.classes.now) (sym read))
          ∙ sym w.counts_as.ensures ∙ w.if-not-counts_as.false in
          let same : same_direction c.args.self.now.direction (strong_as (class_at cs k)) ≡ true =
          ap (λ e. same_direction e (strong_as (class_at cs k))) (sym c.loop-self.invariant.0.direction) ∙ is in
          let before : c.loop-self.self.next < index_of c.args.s.now.positions c.args.pair.closer =
          index_before ps c.args.s.now.extent c.as_slice-positions.ensures.rise k c.args.pair.closer inside
          c.requires.within (omega (arith, read, w.loop-self-test.true)) in
          omega (arith, low, counted, passed_inside-found cs old o d k low before same))
      | else-loop-self-test w ↦
          (let past : index_of c.args.s.now.positions c.args.pair.closer ≤ c.loop-self.self.next =
          index_not_before ps c.args.s.now.extent c.as_slice-positions.ensures.rise k c.args.pair.closer inside
          c.requires.within (omega (arith, read, w.loop-self-test.false)) in
          omega (arith, low, counted, passed_inside-vain cs old o d k (omega (arith, c.requires.within, long)) past))
    ]
