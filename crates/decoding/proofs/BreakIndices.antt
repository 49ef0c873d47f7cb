-- Breaks at offsets are breaks at characters.
use Rattle.std.proofs.Common.{◌≡◌, ℕ, ◌+◌, ◌-◌, ◌<◌, ◌≤◌, List, [], ◌∷◌, length, zero, suc, sym, ap, ◌∙◌, inl, inr, subst, arith, rules}
use Rattle.std.specs.Prelude.{slice_index, Result, Ok, Err, MatchResult, IsOk}
use Rattle.std.proofs.lemmas.Bool.{cases_lt}
use Rattle.std.proofs.lemmas.List.{get_or-map, length-map}
use Rattle.lines.specs.LineBreaks.{AreBreaks, IsFirstBreakFault, IsInside}
use Rattle.lines.specs.declared.breaks.BreakFault.{BreakFault}
use Rattle.lines.specs.declared.breaks.BreakFault.TheVariants.{OutOfRange, NotRising}
use Rattle.decoding.specs.Offsets.{Spelled, AreStarts, code_units}
use Rattle.decoding.specs.Starts.{AreIndicesOf, AreOffsets}
use Rattle.decoding.proofs.OffsetLemmas.{offset-end}

-- breaks that meet `AreBreaks` have no fault
pub no_fault : (at : List ℕ) (len : ℕ) (fault : BreakFault) → AreBreaks at len → IsFirstBreakFault at len fault → ⊥
no_fault at len (OutOfRange index) right (inside, _, wrong) =
    let ok : IsInside at len index = right.inside index inside in
    elim wrong [ inl e ↦ omega (arith, e, ok.after_start) | inr le ↦ omega (arith, le, ok.before_end) ]
no_fault at len (NotRising index) right (inside, _, _, later, wrong) =
    omega (arith, wrong, right.rising index inside later)

-- a result that cannot be an error is ok
pub ok_unless : {T E : Type 0} (P : T → Type 0) (Q : E → Type 0) (r : Result T E) → MatchResult r P Q →
    ((e : E) → Q e → ⊥) → IsOk r
ok_unless P Q (Ok x) m none = search rules
ok_unless P Q (Err e) m none = absurd (none e m)

-- breaks rise by at least one, so there are no more of them than code units
breaks_above : (at : List ℕ) (len i : ℕ) → AreBreaks at len → i < length at → i < slice_index at i
breaks_above at len zero right lt = (right.inside 0 lt).after_start
breaks_above at len (suc i) right lt =
    let below : i < slice_index at i = breaks_above at len i right (omega (arith, lt)) in
    let rise : slice_index at i < slice_index at (suc i) =
    subst (λ (k : ℕ). slice_index at k < slice_index at (suc i)) {x = suc i - 1} {y =
    i} (omega arith) (right.rising (suc i) lt (omega arith)) in
    omega (arith, below, rise)

pub few_breaks : (at : List ℕ) (len : ℕ) → AreBreaks at len → length at ≤ len
few_breaks [] len right = omega arith
few_breaks (x ∷ xs) len right =
    let last : length xs < slice_index (x ∷ xs) (length xs) =
    breaks_above (x ∷ xs) len (length xs) right (omega arith) in
    omega (arith, last, (right.inside (length xs) (omega arith)).before_end)

-- the break with the index i is the offset with the i-th of the character indices
value_at : (starts breaks indices : List ℕ) (i : ℕ) → AreIndicesOf starts breaks indices → i < length indices →
    slice_index starts (slice_index indices i) ≡ slice_index breaks i
value_at starts breaks indices i f lt = sym (get_or-map (slice_index starts) indices i 0 0 lt) ∙
    ap (λ xs. slice_index xs i) f.found

-- indices have the order of their offsets
index_before : (starts : List ℕ) (n j k : ℕ) → AreOffsets n starts → j ≤ n →
    slice_index starts j < slice_index starts k → j < k
index_before starts n j k o le lt = elim (cases_lt j k) [
  | inl below ↦ below
  | inr above ↦ elim (cases_lt k j) [
    | inl under ↦ absurd (omega (arith, lt, o.rising k j under le))
    | inr same ↦ absurd (omega (arith, lt, ap (slice_index starts) {x = j} {y = k} (omega (arith, above, same))))
  ]
]

-- breaks at offsets are breaks at the characters with these indices
pub breaks_of_indices : (starts breaks indices : List ℕ) (n : ℕ) → AreOffsets n starts → length starts ≡ n + 1 →
    AreBreaks breaks (slice_index starts n) → AreIndicesOf starts breaks indices → AreBreaks indices n
breaks_of_indices starts breaks indices n o whole right f =
    let same : length indices ≡ length breaks = sym (length-map indices (slice_index starts)) ∙ ap length f.found in
    let within : (i : ℕ) → i < length indices → slice_index indices i ≤ n =
    λ i lt. omega (arith, f.inside i 0 lt, whole) in
    record {
      inside = λ i lt.
          let ok : IsInside breaks (slice_index starts n) i = right.inside i (omega (arith, lt, same)) in
          let is = value_at starts breaks indices i f lt in
          record {
            after_start = index_before starts n 0 (slice_index indices i) o (omega arith) (omega (
              arith,
              o.first,
              is,
              ok.after_start,
            ));
            before_end = index_before starts n (slice_index indices i) n o (within i lt) (omega (
              arith,
              is,
              ok.before_end,
            ));
          };
      rising = λ i lt later. index_before starts n (slice_index indices (i - 1)) (slice_index indices i) o
          (within (i - 1) (omega (arith, lt)))
          (omega (
            arith,
            value_at starts breaks indices i f lt,
            value_at starts breaks indices (i - 1) f (omega (arith, lt)),
            right.rising i (omega (arith, lt, same)) later,
          ));
    }

-- the last offset is the number of code units
pub last_start : (text : List Spelled) (starts : List ℕ) → AreStarts text starts →
    slice_index starts (length text) ≡ code_units text
last_start text starts at = at (length text) (omega arith) ∙ offset-end text
