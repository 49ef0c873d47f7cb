-- The heads and the column, filled from the first position on.
use Rattle.std.specs.Prelude.{Option, Some, ℕ, zero, suc, Bool, true, false, ◌+◌, ◌-◌, ◌<◌, ◌≤◌, ◌≡◌, List, [], ◌∷◌, ◌++◌, length, IfSome}
use Rattle.std.proofs.Common.{arith, ap, sym, subst, take, refl, ◌∙◌, inl, inr}
use Rattle.std.specs.List.{list_any}
use Rattle.std.proofs.lemmas.Bool.{cases_eq, cond-true, cond-false}
use Rattle.std.proofs.lemmas.List.{length_push, length-take-le}
use Rattle.units.specs.Positions.{positions_from, same_position}
use Rattle.units.specs.Runs.{LeveledView, size_of, remains, last_remaining, begins_sequence, sequence_from, successor}
use Rattle.explicit.specs.Leveled.{IsLeveled}
use Rattle.sequences.specs.declared.heads.Head.{Head}
use Rattle.sequences.specs.Blocks.{AreJoined}
use Rattle.sequences.specs.Links.{is_joined}
use Rattle.sequences.specs.Heads.{IsMarked, head_at, heads_from, firsts_before, column_before}
use Rattle.explicit.specs.Leveled.{IsNested}
use Rattle.sequences.proofs.Nearest.{any_from}
use Rattle.sequences.proofs.Once.{begins_once, leads_to_remaining, same_from}
use Rattle.sequences.proofs.Column.{heads_push, heads_same, column_push, column_same, column_room}

-- the sequences that begin before k are stored
pub record Stored (t : LeveledView) (k : ℕ) (heads : List Head) (column : List ℕ) : Type 0 where
  pub heads_are : heads ≡ heads_from t 0 (firsts_before t k)
  pub few : length heads ≤ k
  pub column_is : column ≡ column_before t k

-- and the pass knows the last remaining position before k
pub record HeadPass (t : LeveledView) (k : ℕ) (heads : List Head) (column : List ℕ) (last : Option ℕ) : Type 0 where
  pub stored : Stored t k heads column
  pub last_is : last ≡ last_remaining t k
  pub last_within : IfSome last (λ q. q < k)

module _ {t : LeveledView} {k : ℕ} {heads : List Head} {column : List ℕ} (w : Stored t k heads column) where
  pub stored_room : IsLeveled t → IsNested t → k < size_of t → begins_sequence t k ≡ true →
      length column + length (sequence_from t k) ≤ size_of t
  stored_room h n l b = omega (arith, ap length w.column_is, column_room t h n k l b)

  pub stored_push : (new : List Head) (h : Head) (more : List ℕ) (start : ℕ) → begins_sequence t k ≡ true →
      h ≡ head_at t k start → start ≡ length column →
      new ≡ heads ++ h ∷ [] → more ≡ column ++ sequence_from t k → Stored t (k + 1) new more
  stored_push new h more start b e s n m = grind (arith, heads_push, length_push, column_push)

  pub stored_same : (new : List Head) (more : List ℕ) → begins_sequence t k ≡ false → new ≡ heads → more ≡ column →
      Stored t (k + 1) new more
  stored_same new more b n m = grind (arith, heads_same, column_same)

-- the fronts of two columns
module _ (t : LeveledView) (k count end : ℕ) (heads : List Head) (column : List ℕ)
    (w : Stored t k (take count heads) (take end column)) (c : count ≤ length heads) (e : end ≤ length column) where
  pub stored_count : count ≡ length (heads_from t 0 (firsts_before t k))
  stored_count = sym (length-take-le count heads c) ∙ ap length w.heads_are

  pub stored_few : count ≤ k
  stored_few = omega (arith, w.few, length-take-le count heads c)

  pub stored_end : end ≡ length (column_before t k)
  stored_end = sym (length-take-le end column e) ∙ ap length w.column_is

module _ {t : LeveledView} {k : ℕ} {heads : List Head} {column : List ℕ} {last : Option ℕ}
    (w : HeadPass t k heads column last)
    {new : List Head} {more : List ℕ} (d : Stored t (k + 1) new more) where
  pub head_pass_same : remains t k ≡ false → HeadPass t (k + 1) new more last
  head_pass_same r = grind (arith, cond-false)

-- each position is linked to the one right after it, from the first to the last
abbrev pub IsRun : LeveledView → ℕ → ℕ → Type 0
IsRun t first last = (p : ℕ) → first ≤ p → p < last → successor t p ≡ Some (p + 1)

module _ (t : LeveledView) (h : IsLeveled t) (n : IsNested t) (first last : ℕ) (run : IsRun t first last) where
  -- no sequence begins after the first of them
  stored_run : (count k : ℕ) → k + count ≡ last → first ≤ k → (heads : List Head) (column : List ℕ) →
      Stored t (k + 1) heads column → Stored t (last + 1) heads column
  stored_run zero k e low heads column w = let same : k ≡ last = omega (arith, e) in let P : ℕ → Type 0 =
      λ j. Stored t (j + 1) heads column in subst P same w
  stored_run (suc count) k e low heads column w =
      let led : successor t k ≡ Some (k + 1) = run k low (omega (arith, e)) in
      stored_run count (k + 1) (omega (arith, e)) (omega arith) heads column
      (stored_same w heads column (begins_once t h n (k + 1) k led) refl refl)

  pub stored_past : first ≤ last → (heads : List Head) (column : List ℕ) → Stored t (first + 1) heads column →
      Stored t (last + 1) heads column
  stored_past low = stored_run (last - first) first (omega arith) (omega arith)

  -- all of them remain
  run_remains : (count k : ℕ) → k + count ≡ last → first ≤ k → remains t k ≡ true → remains t last ≡ true
  run_remains zero k e low r = let same : k ≡ last = omega (arith, e) in let P : ℕ → Type 0 = λ j. remains t j ≡ true in
      subst P same r
  run_remains (suc count) k e low r =
      let led : successor t k ≡ Some (k + 1) = run k low (omega (arith, e)) in
      let P : Option ℕ → Type 0 = λ o. IfSome o (λ y. remains t y ≡ true) in
      run_remains count (k + 1) (omega (arith, e)) (omega arith) (subst P led (leads_to_remaining t h n k))

  pub last_remains : first ≤ last → remains t first ≡ true → remains t last ≡ true
  last_remains low = run_remains (last - first) first (omega arith) (omega arith)

-- the pass after the last position of a sequence's stretch
pub head_pass_at : (t : LeveledView) (k : ℕ) (heads : List Head) (column : List ℕ) → Stored t (k + 1) heads column →
    remains t k ≡ true → HeadPass t (k + 1) heads column (Some k)
head_pass_at t k heads column d r =
    let one : k + 1 ≡ suc k = omega arith in
    record {
      stored = d;
      last_is = sym (ap (last_remaining t) one ∙ cond-true (remains t k) (Some k) (last_remaining t k) r);
      last_within = omega arith;
    }

-- or after a removed position
pub head_pass_next : {t : LeveledView} {p : ℕ} {heads : List Head} {column : List ℕ} {last : Option ℕ} →
    HeadPass t p heads column last → begins_sequence t p ≡ false → remains t p ≡ false →
    HeadPass t (p + 1) heads column last
head_pass_next w b r = head_pass_same w (stored_same w.stored _ _ b refl refl) r

-- or after several positions that others lead to
module _ (t : LeveledView) (h : IsLeveled t) (n : IsNested t) (joined : List Bool) (marks : IsMarked t joined)
    (end : ℕ) (within : end ≤ size_of t) where
  led_there : (q : ℕ) → q < size_of t → is_joined joined q ≡ true →
      list_any (λ p. same_position (successor t p) (Some q)) (positions_from 0 (size_of t)) ≡ true
  led_there q l j = sym (marks q l) ∙ j

  joined_free : (q : ℕ) → q < size_of t → is_joined joined q ≡ true → begins_sequence t q ≡ false
  joined_free q l j = let led = any_from _ 0 (size_of t) (led_there q l j) in
      begins_once t h n q led.0 (same_from (successor t led.0) q led.1)

  joined_remains : (q : ℕ) → q < size_of t → is_joined joined q ≡ true → remains t q ≡ true
  joined_remains q l j =
      let led = any_from _ 0 (size_of t) (led_there q l j) in
      let P : Option ℕ → Type 0 = λ o. IfSome o (λ y. remains t y ≡ true) in
      subst P (same_from (successor t led.0) q led.1) (leads_to_remaining t h n led.0)

  stored_joined : (count k : ℕ) → k + count ≡ end → AreJoined joined k end → (heads : List Head) (column : List ℕ) →
      Stored t k heads column → Stored t end heads column
  stored_joined zero k e on heads column w =
      let same : k ≡ end = omega (arith, e) in
      let P : ℕ → Type 0 = λ j. Stored t j heads column in subst P same w
  stored_joined (suc count) k e on heads column w =
      let here : is_joined joined k ≡ true = on k (omega arith) (omega (arith, e)) in
      stored_joined count (k + 1) (omega (arith, e)) (λ q low high. on q (omega arith) high) heads column
      (stored_same w heads column (joined_free k (omega (arith, e)) here) refl refl)

  -- p itself remains, and no sequence begins there
  pub head_pass_joined : (p : ℕ) → p < end → remains t p ≡ true → begins_sequence t p ≡ false →
      AreJoined joined (p + 1) end → (heads : List Head) (column : List ℕ) → Stored t p heads column →
      HeadPass t end heads column (Some (end - 1))
  head_pass_joined p before r b on heads column w =
      let last : ℕ = end - 1 in
      let next : end ≡ last + 1 = omega arith in
      let stored : Stored t end heads column =
      stored_joined (end - (p + 1)) (p + 1) (omega arith) on heads column (stored_same w heads column b refl refl) in
      let S : ℕ → Type 0 = λ k. Stored t k heads column in
      let H : ℕ → Type 0 = λ k. HeadPass t k heads column (Some last) in
      let there : remains t last ≡ true = elim (cases_eq last p) [
        | inl same ↦ ap (remains t) same ∙ r
        | inr other ↦ joined_remains last (omega arith) (on last (omega arith) (omega arith))
      ] in
      subst H (sym next) (head_pass_at t last heads column (subst S next stored) there)
