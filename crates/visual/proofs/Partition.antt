-- Runs side by side on a line have each of its positions once.
use Rattle.std.proofs.Common.{◌≡◌, ℕ, ◌+◌, ◌-◌, ◌<◌, ◌≤◌, ◌⊎◌, Option, Some, None, List, [], ◌∷◌, length, zero, suc, refl, sym, ap, ◌∙◌, inl, inr, arith}
use Rattle.std.specs.Prelude.{IsSome, slice_index, slice_index_or}
use Rattle.std.proofs.lemmas.Bool.{cases_lt}
use Rattle.visual.specs.EffectiveLevelRanges.{next_remaining}
use Rattle.visual.specs.Spans.{AllRemoved}
use Rattle.visual.specs.VisualRuns.{Covers, IsInOrder, IsLevelRun, IsRunAt, level_in}
use Rattle.visual.specs.LineRuns.{AreRunsOf, IsRemovedRun, JoinTheLast, AreSideBySide, run_numbered}
use Rattle.visual.specs.declared.line.OrderedLine.{OrderedLine}
use Rattle.visual.specs.declared.runs.VisualRun.{VisualRun}
use Rattle.visual.proofs.EffectiveLevels.{effective-own, effective-end, effective-through}
use Rattle.visual.proofs.InOrder.{place_of, remaining_at, left_at, some_from_level}
use Rattle.visual.proofs.LevelRuns.{next_is, removed_after}
use Rattle.visual.proofs.LineRuns.{para_of}

-- if all positions from one of a run to another position have its level, the run has that position too
extends : (line : OrderedLine) (run : VisualRun) (a b : ℕ) → IsLevelRun line run → Covers run a → line.start ≤ b →
    b < line.end → ((p : ℕ) → ((a ≤ p) × (p ≤ b)) ⊎ ((b ≤ p) × (p ≤ a)) → level_in line p ≡ run.level) → Covers run b
extends line run a b r c low high same =
    elim (cases_lt b run.start) [
      | inl l ↦ absurd (r.begins (omega arith) (same (run.start - 1) (inr (omega arith, omega (arith, c.0)))))
      | inr l ↦ elim (cases_lt b run.end) [
        | inl m ↦ (l, m)
        | inr m ↦ absurd (r.ends (omega arith) (same run.end (inl (omega (arith, c.1), m))))
      ]
    ]

-- two runs that share a position have the same positions
pub same_span : (line : OrderedLine) (run other : VisualRun) (p x : ℕ) → IsLevelRun line run → IsLevelRun line other →
    Covers run p → Covers other p → Covers run x → Covers other x
same_span line run other p x r o c d h =
    extends line other p x o d (omega (arith, r.from, h.0)) (omega (arith, r.within, h.1)) (λ q w.
    let inside : Covers run q = elim w [
      | inl t ↦ (omega (arith, t.0, c.0), omega (arith, t.1, h.1))
      | inr t ↦ (omega (arith, t.0, h.0), omega (arith, t.1, c.1))
    ] in
    r.level q inside.0 inside.1 ∙ sym (r.level p c.0 c.1) ∙ o.level p d.0 d.1)

-- one of the runs has the position at a place
pub stand_at : (line : OrderedLine) (from : ℕ) (runs : List VisualRun) (to i : ℕ) → AreSideBySide line from runs to →
    from ≤ i → i < to → (k : ℕ) × (k < length runs) × Covers (run_numbered runs k) (slice_index line.order.now i) ×
    IsLevelRun line (run_numbered runs k)
stand_at line from [] to i s a b = absurd (omega (arith, s))
stand_at line from (run ∷ runs) to i s a b =
    elim (cases_lt i (from + run.shown)) [
      | inl l ↦ (0, omega arith, s.0.represents.own i a l, s.0.level)
      | inr l ↦
          let t = stand_at line (from + run.shown) runs to i s.1 l b in
          (suc t.0, omega (arith, t.1), t.2, t.3)
    ]

-- the place of a run
pub run_at : (line : OrderedLine) (from : ℕ) (runs : List VisualRun) (to k : ℕ) → AreSideBySide line from runs to →
    k < length runs → (place : ℕ) × (from ≤ place) × IsRunAt line place (run_numbered runs k)
run_at line from [] to k s lt = absurd (omega arith)
run_at line from (run ∷ runs) to zero s lt = (from, omega arith, s.0)
run_at line from (run ∷ runs) to (suc k) s lt =
    let t = run_at line (from + run.shown) runs to k s.1 (omega arith) in
    (t.0, omega (arith, t.1), t.2)

-- two runs with their places
pub record StandApart (line : OrderedLine) (run other : VisualRun) : Type 0 where
  pub place : ℕ
  pub following : ℕ
  pub first : IsRunAt line place run
  pub second : IsRunAt line following other
  pub apart : place + run.shown ≤ following

stand_apart : (line : OrderedLine) (from : ℕ) (runs : List VisualRun) (to i j : ℕ) → AreSideBySide line from runs to →
    i < j → j < length runs → StandApart line (run_numbered runs i) (run_numbered runs j)
stand_apart line from [] to i j s lt within = absurd (omega arith)
stand_apart line from (run ∷ runs) to i zero s lt within = absurd (omega arith)
stand_apart line from (run ∷ runs) to zero (suc j) s lt within =
    let t = run_at line (from + run.shown) runs to j s.1 (omega arith) in
    record { place = from; following = t.0; first = s.0; second = t.2; apart = t.1 }
stand_apart line from (run ∷ runs) to (suc i) (suc j) s lt within =
    stand_apart line (from + run.shown) runs to i j s.1 (omega arith) (omega arith)

some_at : (line : OrderedLine) (i : ℕ) → IsInOrder line → i < length line.order.now →
    IsSome (slice_index_or line.levels.now (slice_index line.order.now i) None)
some_at line i o lt =
    let r = remaining_at line.levels.now line.start line.end line.order.now i o lt in
    some_from_level (slice_index_or line.levels.now (slice_index line.order.now i) None) r.level r.has

-- if two runs share a position, neither of them shows any
none_shown : (line : OrderedLine) (run other : VisualRun) (p : ℕ) → IsInOrder line → StandApart line run other →
    Covers run p → Covers other p → (run.shown ≡ 0) × (other.shown ≡ 0)
none_shown line run other p o s c d =
    let first : run.shown ≡ 0 = elim (cases_lt 0 run.shown) [
      | inl l ↦
          let x = slice_index line.order.now s.place in
          let in_run : Covers run x = s.first.represents.own s.place (omega arith) (omega arith) in
          let in_other : Covers other x = same_span line run other p x s.first.level s.second.level c d in_run in
          let m = s.second.represents.all x in_other (some_at line s.place o (omega (arith, s.first.represents.inside)))
          in
          let t = left_at line.levels.now line.start line.end line.order.now s.place m.0 o (omega (arith, m.1, s.apart))
          (omega (arith, m.2, s.second.represents.inside)) in
          absurd (t.apart (sym m.3))
      | inr l ↦ omega arith
    ] in
    let second : other.shown ≡ 0 = elim (cases_lt 0 other.shown) [
      | inl l ↦
          let x = slice_index line.order.now s.following in
          let in_other : Covers other x = s.second.represents.own s.following (omega arith) (omega arith) in
          let in_run : Covers run x = same_span line other run p x s.second.level s.first.level d c in_other in
          let m = s.first.represents.all x in_run (some_at line s.following o (omega (
            arith,
            s.second.represents.inside,
          ))) in
          absurd (omega (arith, m.1, m.2, first))
      | inr l ↦ omega arith
    ] in
    (first, second)

-- at most one of the runs shows nothing
abbrev pub OneEmpty : List VisualRun → Type 0
OneEmpty runs =
    (i j : ℕ) → i < j → j < length runs → (run_numbered runs i).shown ≡ 0 → (run_numbered runs j).shown ≡ 0 → ⊥

-- removed positions at the end of the line belong to the run before them, or one of these runs is theirs
abbrev pub EndIsCovered : OrderedLine → List VisualRun → Type 0
EndIsCovered line runs = JoinTheLast line ⊎ ((k : ℕ) × (k < length runs) × IsRemovedRun line (run_numbered runs k))

at_para : (line : OrderedLine) (p : ℕ) → p ≤ line.end → AllRemoved line.levels.now p line.end →
    level_in line p ≡ para_of line
at_para line p le gone = effective-through line.levels.now (para_of line) line.end p line.end le (omega arith) gone ∙
    effective-end line.levels.now (para_of line) line.end

covered_end : (line : OrderedLine) (runs : List VisualRun) (p : ℕ) → IsInOrder line →
    AreSideBySide line 0 runs (length line.order.now) → EndIsCovered line runs → line.start ≤ p → p < line.end →
    AllRemoved line.levels.now p line.end → (k : ℕ) × (k < length runs) × Covers (run_numbered runs k) p
covered_end line runs p o s e low high gone =
    elim e [
      | inl join ↦
          let t = join p low high gone in
          let q = t.0 in
          let place = place_of line.levels.now line.start line.end line.order.now q (para_of line) o t.1 (omega (
            arith,
            t.2,
          )) t.3 in
          let at = stand_at line 0 runs (length line.order.now) place.at s (omega arith) place.inside in
          let run = run_numbered runs at.0 in
          let c : Covers run q = (omega (arith, at.2.0, place.is), omega (arith, at.2.1, place.is)) in
          let own : level_in line q ≡ para_of line =
          effective-own line.levels.now (para_of line) line.end q (para_of line) (omega (arith, t.2)) t.3 in
          let level : para_of line ≡ run.level = sym own ∙ at.3.level q c.0 c.1 in (
            at.0,
            at.1,
            extends line run q p at.3 c low high (λ x w. elim w [
              | inl u ↦ elim (cases_lt q x) [
                | inl l ↦ at_para line x (omega (arith, u.1)) (λ d a b. t.4 d (omega arith) b) ∙ level
                | inr l ↦ let same : x ≡ q = omega (arith, u.0) in ap (level_in line) same ∙ own ∙ level
              ]
              | inr u ↦ absurd (omega (arith, u.0, u.1, t.2))
            ]),
          )
      | inr t ↦
          let run = run_numbered runs t.0 in
          let r = t.2.represents.level in
          let c : Covers run (line.end - 1) = (omega (arith, r.some, t.2.end), omega (arith, t.2.end)) in
          let last : level_in line (line.end - 1) ≡ para_of line =
          at_para line (line.end - 1) (omega arith) (λ d a b. gone d (omega arith) b) in
          let level : para_of line ≡ run.level = sym last ∙ r.level (line.end - 1) c.0 c.1 in (
            t.0,
            t.1,
            extends line run (line.end - 1) p r c low high (λ x w. elim w [
              | inl u ↦ at_para line x (omega (arith, u.1)) (λ d a b. gone d (omega (arith, u.0)) b) ∙ level
              | inr u ↦ at_para line x (omega (arith, u.1)) (λ d a b. gone d (omega (arith, u.0)) b) ∙ level
            ]),
          )
    ]

covered_by : (line : OrderedLine) (runs : List VisualRun) (p : ℕ) (next : Option ℕ) →
    next_remaining line.levels.now line.end p ≡ next → IsInOrder line →
    AreSideBySide line 0 runs (length line.order.now) → EndIsCovered line runs → line.start ≤ p → p < line.end →
    (k : ℕ) × (k < length runs) × Covers (run_numbered runs k) p
covered_by line runs p (Some q) is o s e low high =
    let n = next_is line.levels.now line.end p q is in
    let place = place_of line.levels.now line.start line.end line.order.now q n.level o (omega (
      arith,
      n.from,
    )) n.within n.has in
    let at = stand_at line 0 runs (length line.order.now) place.at s (omega arith) place.inside in
    let run = run_numbered runs at.0 in
    let c : Covers run q = (omega (arith, at.2.0, place.is), omega (arith, at.2.1, place.is)) in (
      at.0,
      at.1,
      extends line run q p at.3 c low high (λ x w.
          let x_low : p ≤ x = elim w [ inl u ↦ omega (arith, u.0, n.from) | inr u ↦ u.0 ] in
          let x_high : x ≤ q = elim w [ inl u ↦ omega (arith, u.1, n.from) | inr u ↦ u.1 ] in
          effective-through line.levels.now (para_of line) line.end x q x_high (omega (arith, n.within)) (λ d a b.
          n.before d (omega arith) b) ∙ at.3.level q c.0 c.1),
    )
covered_by line runs p None is o s e low high =
    covered_end line runs p o s e low high (removed_after line.levels.now line.end p is)

-- runs with these properties are those of the line
pub are_runs : (line : OrderedLine) (runs : List VisualRun) → IsInOrder line →
    AreSideBySide line 0 runs (length line.order.now) → OneEmpty runs → EndIsCovered line runs → AreRunsOf line runs
are_runs line runs o s one e =
    record {
      stand = s;
      covered = λ p low high. covered_by line runs p (next_remaining line.levels.now line.end p) refl o s e low high;
      apart = λ i j p lt within c d.
          let t = stand_apart line 0 runs (length line.order.now) i j s lt within in
          let z = none_shown line (run_numbered runs i) (run_numbered runs j) p o t c d in
          one i j lt within z.0 z.1;
    }
