-- Properties of each position of a sequence: its level, its successor.
use Rattle.std.specs.Prelude.{Option, Some, None, ℕ, zero, suc, true, ◌+◌, ◌<◌, ◌≤◌, ◌≡◌, List, filter, length, unwrap_or, Contains, IfSome, is_some, slice_get, slice_index, refl}
use Rattle.std.specs.Option.{option_map}
use Rattle.std.proofs.Common.{arith, ap, sym, ◌∙◌, subst, inl, inr}
use Rattle.std.proofs.lemmas.Bool.{and_parts, false≢true}
use Rattle.std.proofs.lemmas.List.Elements.{All-get_or, filter_passes}
use Rattle.std.proofs.lemmas.Option.{get_or_from_slice_get, slice_get-map, slice_get_within}
use Rattle.units.specs.Positions.{positions_from}
use Rattle.units.specs.Runs.{LeveledView, SequenceView, begins_sequence, followed, level_of, level_or_base, remains, sequence_at, sequence_from, sequences_of, size_of, successor}
use Rattle.explicit.specs.Leveled.{IsLeveled, IsNested}
use Rattle.sequences.proofs.Forward.{successor_later}
use Rattle.sequences.proofs.Joined.{successor_cases}
use Rattle.sequences.proofs.Links.{followed_chain, followed-steps}
use Rattle.sequences.proofs.Once.{remains_within}

-- a property of the sequence from each first position is one of each sequence
module _ (t : LeveledView) (P : SequenceView → Type 0) (each : (x : ℕ) → begins_sequence t x ≡ true →
    P (sequence_at t x)) where
  abbrev firsts : List ℕ
  firsts = filter (begins_sequence t) (positions_from 0 (size_of t))

  at_first : (j : ℕ) (s : SequenceView) (first : Option ℕ) → slice_get firsts j ≡ first →
      option_map (sequence_at t) first ≡ Some s → P s
  at_first j s None found is = absurd cc
  at_first j s (Some x) found is =
      let Begins : ℕ → Type 0 = λ y. begins_sequence t y ≡ true in
      let same : sequence_at t x ≡ s = cc in
      let within : j < length firsts = slice_get_within firsts j x found in
      let begins : Begins x =
      subst Begins (get_or_from_slice_get firsts j x x found)
      (All-get_or Begins firsts j x within (filter_passes (begins_sequence t) (positions_from 0 (size_of t)))) in
      subst P same (each x begins)

  pub of_each : (j : ℕ) (s : SequenceView) → slice_get (sequences_of t) j ≡ Some s → P s
  of_each j s found = at_first j s (slice_get firsts j) refl (sym (slice_get-map (sequence_at t) firsts j) ∙ found)

first_remains : (t : LeveledView) (x : ℕ) → begins_sequence t x ≡ true → remains t x ≡ true
first_remains t x begins = (and_parts _ _ begins).0

-- if there is a level, the base is not used
level_is : (found : Option ℕ) (base : ℕ) → is_some found ≡ true → found ≡ Some (unwrap_or found base)
level_is None base e = absurd (false≢true e)
level_is (Some level) base e = refl

successor_level : (t : LeveledView) → IsNested t → (p q : ℕ) → successor t p ≡ Some q → level_of t p ≡ level_of t q
successor_level t nested p q e =
    elim (successor_cases t p q e) [ inl adjacent ↦ adjacent.level | inr match ↦ nested.same_level p q match.matches ]

module _ (t : LeveledView) (nested : IsNested t) (level : Option ℕ) where
  next_level : (x : ℕ) (next : Option ℕ) → successor t x ≡ next → level_of t x ≡ level →
      IfSome next (λ y. level_of t y ≡ level)
  next_level x None e is = tt
  next_level x (Some y) e is = sym (successor_level t nested x y e) ∙ is

  followed_level : (most : ℕ) (from : Option ℕ) → IfSome from (λ x. level_of t x ≡ level) → (p : ℕ) →
      Contains (followed (successor t) most from) p → level_of t p ≡ level
  followed_level zero from is p (k, within, e) = absurd (omega (arith, within))
  followed_level (suc most) None is p (k, within, e) = absurd (omega (arith, within))
  followed_level (suc most) (Some x) is p (zero, within, e) = ap (level_of t) (sym e) ∙ is
  followed_level (suc most) (Some x) is p (suc k, within, e) =
      followed_level most (successor t x) (next_level x (successor t x) refl is) p (k, omega (arith, within), e)

-- BD13: each position of a sequence has the sequence's level
pub levels_along : (t : LeveledView) → IsNested t → (j p : ℕ) (s : SequenceView) →
    slice_get (sequences_of t) j ≡ Some s → Contains s.positions p → level_of t p ≡ Some s.level
levels_along t nested j p s found c =
    of_each t (λ s. (q : ℕ) → Contains s.positions q → level_of t q ≡ Some s.level)
    (λ x begins q d.
    followed_level t nested (Some (level_or_base t (Some x))) (size_of t) (Some x)
    (level_is (level_of t x) t.base (first_remains t x begins)) q d)
    j s found p c

-- BD13: each position of a sequence leads to the next one in it, and the last one to none
pub successors_along : (t : LeveledView) → IsLeveled t → (j k : ℕ) (s : SequenceView) →
    slice_get (sequences_of t) j ≡ Some s → k < length s.positions →
    successor t (slice_index s.positions k) ≡ slice_get s.positions (k + 1)
successors_along t leveled j k s found within =
    of_each t (λ s. (i : ℕ) → i < length s.positions →
    successor t (slice_index s.positions i) ≡ slice_get s.positions (i + 1))
    (λ x begins i l. followed_chain (successor t) (size_of t) (successor_later t leveled) x
    (remains_within t x (first_remains t x begins)) i l)
    j s found k within

-- more steps than positions change nothing
pub enough_steps : (t : LeveledView) (p most : ℕ) → IsLeveled t → p < size_of t → size_of t ≤ most →
    followed (successor t) most (Some p) ≡ sequence_from t p
enough_steps t p most leveled within more =
    followed-steps (successor t) (size_of t) (successor_later t leveled) most (size_of t) (Some p) (
      within,
      omega arith,
    ) (within, omega arith)
