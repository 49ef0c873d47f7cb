-- The number of runs of a line does not depend on how they are found.
use Rattle.std.proofs.Common.{◌≡◌, ◌≢◌, ℕ, ◌+◌, ◌-◌, ◌<◌, ◌≤◌, Bool, true, false, List, [], ◌∷◌, length, map, zero, suc, refl, sym, ◌∙◌, arith, subst, inl, inr}
use Rattle.std.specs.Prelude.{◌||◌, nat_eq}
use Rattle.std.proofs.Math.Bool.{or-true}
use Rattle.std.proofs.lemmas.Bool.{cases_lt, eq-eqb}
use Rattle.std.proofs.lemmas.Bool.Decides.{eqb_tells}
use Rattle.std.proofs.lemmas.Cmp.{nat_eq_equiv}
use Rattle.std.proofs.lemmas.List.{length-map}
use Rattle.std.proofs.lemmas.Map.Keys.{IsDistinct-cons}
use Rattle.std.proofs.lemmas.Map.Made.{length-le_from_is_member}
use Rattle.std.specs.List.{AllByRecursion, IsDistinct}
use Rattle.std.specs.Set.{is_member}
use Rattle.units.specs.Positions.{positions_from}
use Rattle.units.proofs.Positions.{length-positions_from}
use Rattle.visual.specs.VisualRuns.{Covers, IsLevelRun}
use Rattle.visual.specs.LineRuns.{AreRunsOf, HasAtMost, HasRuns, run_numbered}
use Rattle.visual.specs.declared.line.OrderedLine.{OrderedLine}
use Rattle.visual.specs.declared.runs.VisualRun.{VisualRun}
use Rattle.visual.proofs.Partition.{run_at, same_span}

-- the positions at which the runs begin
abbrev starts : List VisualRun → List ℕ
starts runs = map (λ run. run.start) runs

-- a number is among these exactly if one of the runs begins there
start_of : (runs : List VisualRun) (q : ℕ) → is_member nat_eq (starts runs) q ≡ true → (k : ℕ) × (k < length runs) ×
    ((run_numbered runs k).start ≡ q)
start_of [] q h = absurd (let z : false ≡ true = h in cc)
start_of (run ∷ runs) q h =
    elim (eqb_tells q run.start) [
      | inl t ↦ (0, omega arith, sym t.1)
      | inr t ↦
          let rest : is_member nat_eq (starts runs) q ≡ true =
          subst (λ (b : Bool). (b || is_member nat_eq (starts runs) q) ≡ true) t.0 h in
          let m = start_of runs q rest in
          (suc m.0, omega (arith, m.1), m.2)
    ]

is_start : (runs : List VisualRun) (k : ℕ) → k < length runs →
    is_member nat_eq (starts runs) (run_numbered runs k).start ≡ true
is_start [] k lt = absurd (omega arith)
is_start (run ∷ runs) zero lt =
    subst (λ (b : Bool). (b || is_member nat_eq (starts runs) run.start) ≡ true)
    (sym (eq-eqb run.start run.start refl)) refl
is_start (run ∷ runs) (suc k) lt =
    let q = (run_numbered runs k).start in
    let rest = is_start runs k (omega arith) in
    subst (λ (b : Bool). (nat_eq q run.start || b) ≡ true) (sym rest) (or-true (nat_eq q run.start))

-- none of them begins at this position
none_begins : (runs : List VisualRun) (q : ℕ) → ((k : ℕ) → k < length runs → (run_numbered runs k).start ≢ q) →
    AllByRecursion (λ (y : ℕ). nat_eq q y ≡ false) (starts runs)
none_begins [] q differ = tt
none_begins (run ∷ runs) q differ =
    let first : nat_eq q run.start ≡ false = elim (eqb_tells q run.start) [
      | inl t ↦ absurd (differ 0 (omega arith) (sym t.1))
      | inr t ↦ t.0
    ] in
    (first, none_begins runs q (λ k lt. differ (suc k) (omega (arith, lt))))

none_distinct : IsDistinct nat_eq []
unfolding IsDistinct
none_distinct = tt

distinct : (runs : List VisualRun) →
    ((i j : ℕ) → i < j → j < length runs → (run_numbered runs i).start ≢ (run_numbered runs j).start) →
    IsDistinct nat_eq (starts runs)
distinct [] differ = none_distinct
distinct (run ∷ runs) differ =
    IsDistinct-cons nat_eq run.start (starts runs)
    (none_begins runs run.start (λ k lt e. differ 0 (suc k) (omega arith) (omega (arith, lt)) (sym e)))
    (distinct runs (λ i j lt within. differ (suc i) (suc j) (omega (arith, lt)) (omega (arith, within))))

-- two runs that share a position begin at the same position
same_start : (line : OrderedLine) (run other : VisualRun) (p : ℕ) → IsLevelRun line run → IsLevelRun line other →
    Covers run p → Covers other p → run.start ≡ other.start
same_start line run other p r o c d =
    let a : Covers other run.start = same_span line run other p run.start r o c d (omega arith, r.some) in
    let b : Covers run other.start = same_span line other run p other.start o r d c (omega arith, o.some) in
    omega (arith, a.0, b.0)

pub level_run : (line : OrderedLine) (runs : List VisualRun) (k : ℕ) → AreRunsOf line runs → k < length runs →
    IsLevelRun line (run_numbered runs k)
level_run line runs k are lt =
    let t = run_at line 0 runs (length line.order.now) k are.stand lt in
    t.2.level

starts_apart : (line : OrderedLine) (runs : List VisualRun) → AreRunsOf line runs → (i j : ℕ) → i < j →
    j < length runs → (run_numbered runs i).start ≢ (run_numbered runs j).start
starts_apart line runs are i j lt within same =
    let a = level_run line runs i are (omega (arith, lt, within)) in
    let b = level_run line runs j are within in
    are.apart i j (run_numbered runs i).start lt within (omega arith, a.some) (
      omega (arith, same),
      omega (arith, same, b.some),
    )

no_more : (line : OrderedLine) (runs others : List VisualRun) → AreRunsOf line runs → AreRunsOf line others →
    length runs ≤ length others
no_more line runs others are too =
    let other : (q : ℕ) → is_member nat_eq (starts runs) q ≡ true → is_member nat_eq (starts others) q ≡ true = λ q h.
    let m = start_of runs q h in
    let r = level_run line runs m.0 are m.1 in
    let c : Covers (run_numbered runs m.0) q = (omega (arith, m.2), omega (arith, m.2, r.some)) in
    let t = too.covered q (omega (arith, r.from, c.0)) (omega (arith, r.within, c.1)) in
    let o = level_run line others t.0 too t.1 in
    let same : (run_numbered others t.0).start ≡ q =
    sym (same_start line (run_numbered runs m.0) (run_numbered others t.0) q r o c t.2) ∙ m.2 in
    subst (λ (n : ℕ). is_member nat_eq (starts others) n ≡ true) same (is_start others t.0 t.1) in
    let few = length-le_from_is_member nat_eq_equiv (starts runs) (starts others)
    (distinct runs (starts_apart line runs are)) other in
    omega (
      arith,
      few,
      length-map runs (λ (run : VisualRun). run.start),
      length-map others (λ (run : VisualRun). run.start),
    )

-- two lists of all runs of a line have the same length
pub same_count : (line : OrderedLine) (runs others : List VisualRun) → AreRunsOf line runs → AreRunsOf line others →
    length runs ≡ length others
same_count line runs others are too = omega (arith, no_more line runs others are too, no_more line others runs too are)

-- a line has no other number of runs
pub at_most : (line : OrderedLine) (count most : ℕ) → HasRuns line count → count ≤ most → HasAtMost line most
at_most line count most has le runs are = omega (arith, le, has.counted, same_count line runs has.runs are has.are)

-- the position is one of these
is_position : (start count q : ℕ) → start ≤ q → q < start + count →
    is_member nat_eq (positions_from start count) q ≡ true
is_position start zero q le lt = absurd (omega (arith, le, lt))
is_position start (suc count) q le lt =
    let others = positions_from (start + 1) count in
    elim (cases_lt start q) [
      | inl below ↦
          let rest : is_member nat_eq others q ≡ true =
          is_position (start + 1) count q (omega (arith, below)) (omega (arith, lt)) in
          subst (λ (b : Bool). (nat_eq q start || b) ≡ true) (sym rest) (or-true (nat_eq q start))
      | inr above ↦ subst (λ (b : Bool). (b || is_member nat_eq others q) ≡ true)
          (sym (eq-eqb q start (omega (arith, above, le)))) refl
    ]

-- a line has no more runs than positions
pub few_runs : (line : OrderedLine) → HasAtMost line (line.end - line.start)
few_runs line runs are =
    let positions = positions_from line.start (line.end - line.start) in
    let other : (q : ℕ) → is_member nat_eq (starts runs) q ≡ true → is_member nat_eq positions q ≡ true = λ q h.
    let m = start_of runs q h in
    let r = level_run line runs m.0 are m.1 in
    is_position line.start (line.end - line.start) q (omega (arith, m.2, r.from)) (omega (
      arith,
      m.2,
      r.from,
      r.some,
      r.within,
    )) in
    let few = length-le_from_is_member nat_eq_equiv (starts runs) positions (distinct runs (starts_apart line runs are))
    other in
    omega (
      arith,
      few,
      length-map runs (λ (run : VisualRun). run.start),
      length-positions_from line.start (line.end - line.start),
    )
