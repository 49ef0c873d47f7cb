-- N0 where something that is no bracket occurs after the item at k.
use Rattle.std.specs.Prelude.{Option, Some, None, ℕ, zero, suc, ◌+◌, ◌-◌, ◌<◌, Bool, false, ◌≡◌, List, [], ◌∷◌, length, fold, if◌then◌else◌, slice_range, refl}
use Rattle.std.specs.Option.{option_map}
use Rattle.std.proofs.Common.{arith, ap, sym, subst, ◌∙◌, ◌⊎◌, inl, inr}
use Rattle.std.proofs.lemmas.Bool.{cases_lt, cond-false}
use Rattle.std.proofs.lemmas.List.{get_or_past}
use Rattle.units.specs.Brackets.{strong_as, same_direction, opposite, occurs_in, context_before, direction_of_pair, follows_bracket, given_to, with_direction, after_pair, after_paired}
use Rattle.units.specs.Classes.{class_at, is_nonspacing}
use Rattle.units.specs.Positions.{positions_from}
use Rattle.units.specs.declared.class.Class.{Class}
use Rattle.units.specs.declared.class.Class.TheVariants.{L}
use Rattle.units.proofs.Lengths.{length-after_pair}
use Rattle.compress.specs.Spread.{put}
use Rattle.compress.proofs.Following.{follows_bracket-below, follows_bracket-past}
use Rattle.compress.proofs.Given.{Counts, found-moved, context-moved, given_at, length-given_to}
use Rattle.compress.proofs.Skip.{skip, skip_less, skip_at_most, skip_next, length-put}

-- the direction of a pair, by what is found
abbrev dir_by : Class → Class → Bool → Bool → Option Class
dir_by embedding context one other =
    if one then Some embedding
    else if other
    then (if same_direction (opposite embedding) (strong_as context) then Some (opposite embedding) else Some embedding)
    else None

-- a class that no bracket is given to stays
given_keeps : (before : List Class) (b : ℕ) (d : Class) (cs : List Class) (j : ℕ) → follows_bracket before b j ≡ false → class_at (given_to before b d cs) j ≡ class_at cs j
given_keeps before b d cs j apart =
    elim (cases_lt j (length cs)) [
      | inl h ↦ given_at before b d cs j h ∙ cond-false (follows_bracket before b j) d (class_at cs j) apart
      | inr h ↦ get_or_past (given_to before b d cs) j L (omega (arith, length-given_to before b d cs)) ∙ sym (get_or_past cs j L h)
    ]

with_keeps : (before cs : List Class) (o c : ℕ) (m : Option Class) (j : ℕ) → follows_bracket before o j ≡ false → follows_bracket before c j ≡ false → class_at (with_direction before cs o c m) j ≡ class_at cs j
with_keeps before cs o c None j first second = refl
with_keeps before cs o c (Some d) j first second = given_keeps before c d (given_to before o d cs) j second ∙ given_keeps before o d cs j first

pub pair_keeps : (embedding sos : Class) (before cs : List Class) (o : ℕ) (closer : Option ℕ) (j : ℕ) → follows_bracket before o j ≡ false →
    ((c : ℕ) → closer ≡ Some c → follows_bracket before c j ≡ false) → class_at (after_pair embedding sos before cs o closer) j ≡ class_at cs j
pair_keeps embedding sos before cs o None j first second = refl
pair_keeps embedding sos before cs o (Some c) j first second =
    with_keeps before cs o c (direction_of_pair embedding (context_before cs sos o) (slice_range cs (o + 1) c)) j first (second c refl)

-- a bracket elsewhere gives nothing to what is no mark
pub apart_from : (before : List Class) (b j : ℕ) → (b ≡ j → ⊥) → is_nonspacing (class_at before j) ≡ false → follows_bracket before b j ≡ false
apart_from before b j apart base =
    elim (cases_lt j b) [
      | inl below ↦ follows_bracket-below before b j below
      | inr le ↦ (let lt : b < j = (elim (cases_lt b j) [
        | inl h ↦ h
        | inr h ↦ absurd (apart (omega arith))
      ]) in follows_bracket-past before b j lt base j (omega arith))
    ]

-- x is what the item that was put in has become, by the classes of the others; these are in a state before each opener
module _ (embedding sos : Class) (before new : List Class) (closer moved : ℕ → Option ℕ) (k n : ℕ) (inside : k < n)
    (X : List Class → Class) (State : ℕ → List Class → Type 0)
    (gives : (o c b : ℕ) → closer o ≡ Some c → (b ≡ o) ⊎ (b ≡ c) → (d : Class) (cs : List Class) → length cs ≡ n →
    given_to new (skip k b) d (put k (X cs) cs) ≡ put k (X (given_to before b d cs)) (given_to before b d cs))
    (counts : (o : ℕ) (cs : List Class) → State o cs → Counts k (X cs) cs)
    (unseen : (o c : ℕ) (cs : List Class) → State o cs → closer o ≡ Some c → o ≡ k → strong_as (X cs) ≡ None)
    (goes_on : (o : ℕ) (cs : List Class) → State o cs → State (suc o) (after_pair embedding sos before cs o (closer o)))
    (moves : (o : ℕ) → moved (skip k o) ≡ option_map (skip k) (closer o))
    (never : moved (suc k) ≡ None) where
  with_moved : (o c : ℕ) → closer o ≡ Some c → (cs : List Class) → length cs ≡ n → (m : Option Class) →
      with_direction new (put k (X cs) cs) (skip k o) (skip k c) m ≡ put k (X (with_direction before cs o c m)) (with_direction before cs o c m)
  with_moved o c e cs long None = refl
  with_moved o c e cs long (Some d) =
      ap (given_to new (skip k c) d) (gives o c o e (inl refl) d cs long)
      ∙ gives o c c e (inr refl) d (given_to before o d cs) (length-given_to before o d cs ∙ long)

  pair_moved : (o : ℕ) (cs : List Class) → State o cs → length cs ≡ n → (r : Option ℕ) → closer o ≡ r →
      after_pair embedding sos new (put k (X cs) cs) (skip k o) (option_map (skip k) r) ≡ put k (X (after_pair embedding sos before cs o r)) (after_pair embedding sos before cs o r)
  pair_moved o cs state long None e = refl
  pair_moved o cs state long (Some c) e =
      let now : List Class = put k (X cs) cs in
      let counts_now : Counts k (X cs) cs = counts o cs state in
      let within : k < length cs = omega arith in
      let found : (d : Class) → occurs_in (slice_range now (skip k o + 1) (skip k c)) d ≡ occurs_in (slice_range cs (o + 1) c) d =
      λ d. found-moved k (X cs) d cs counts_now o c (unseen o c cs state e) in
      let one : Bool = occurs_in (slice_range now (skip k o + 1) (skip k c)) embedding in
      let context : Class = context_before now sos (skip k o) in
      let same : direction_of_pair embedding (context_before now sos (skip k o)) (slice_range now (skip k o + 1) (skip k c))
      ≡ direction_of_pair embedding (context_before cs sos o) (slice_range cs (o + 1) c) =
      ap (λ (a : Class). dir_by embedding a (occurs_in (slice_range now (skip k o + 1) (skip k c)) embedding) (occurs_in (slice_range now (skip k o + 1) (skip k c)) (opposite embedding))) (context-moved k (X cs) cs sos within counts_now o)
      ∙ ap (λ (b : Bool). dir_by embedding (context_before cs sos o) b (occurs_in (slice_range now (skip k o + 1) (skip k c)) (opposite embedding))) (found embedding)
      ∙ ap (λ (b : Bool). dir_by embedding (context_before cs sos o) (occurs_in (slice_range cs (o + 1) c) embedding) b) (found (opposite embedding)) in
      ap (with_direction new now (skip k o) (skip k c)) same
      ∙ with_moved o c e cs long (direction_of_pair embedding (context_before cs sos o) (slice_range cs (o + 1) c))

  abbrev old_turn : List Class → ℕ → List Class
  old_turn now o = after_pair embedding sos before now o (closer o)

  abbrev new_turn : List Class → ℕ → List Class
  new_turn now o = after_pair embedding sos new now o (moved o)

  turns_moved : (count a more : ℕ) (cs : List Class) → State a cs → length cs ≡ n → skip k a + more ≡ skip k (a + count) →
      fold new_turn (put k (X cs) cs) (positions_from (skip k a) more) ≡ put k (X (fold old_turn cs (positions_from a count))) (fold old_turn cs (positions_from a count))
  turns_moved zero a more cs state long e =
      let z : a + 0 ≡ a = omega arith in
      let none : more ≡ 0 = omega (arith, ap (skip k) z) in
      ap (λ m. fold new_turn (put k (X cs) cs) (positions_from (skip k a) m)) none
  turns_moved (suc count) a zero cs state long e = absurd (omega (arith, skip_less k a (a + suc count) (omega arith)))
  turns_moved (suc count) a (suc more) cs state long e =
      let next : List Class = after_pair embedding sos before cs a (closer a) in
      let state' : State (suc a) next = goes_on a cs state in
      let long' : length next ≡ n = length-after_pair embedding sos before cs a (closer a) ∙ long in
      let one : a + 1 ≡ suc a = omega arith in
      let on : (a + 1) + count ≡ a + suc count = omega arith in
      let later : State (a + 1) next = subst (λ (o : ℕ). State o next) (sym one) state' in
      let here : new_turn (put k (X cs) cs) (skip k a) ≡ put k (X next) next =
      ap (after_pair embedding sos new (put k (X cs) cs) (skip k a)) (moves a) ∙ pair_moved a cs state long (closer a) refl in
      let step : (rest : ℕ) → skip k (a + 1) + rest ≡ skip k (a + suc count) →
      fold new_turn (put k (X next) next) (positions_from (skip k a + 1) more) ≡ fold new_turn (put k (X next) next) (positions_from (skip k (a + 1)) rest) →
      fold new_turn (put k (X cs) cs) (positions_from (skip k a) (suc more)) ≡ put k (X (fold old_turn next (positions_from (a + 1) count))) (fold old_turn next (positions_from (a + 1) count)) =
      λ rest h d.
      ap (λ (now : List Class). fold new_turn now (positions_from (skip k a + 1) more)) here ∙ d
      ∙ turns_moved count (a + 1) rest next later long' (h ∙ ap (skip k) (sym on)) in
      elim (skip_next k a) [
        | inl h ↦
            (let m : skip k a + 1 ≡ skip k (a + 1) = omega (arith, ap (skip k) one) in
            step more (omega (arith, m)) (ap (λ s. fold new_turn (put k (X next) next) (positions_from s more)) m))
        | inr (h, (i, j)) ↦
            (let p : skip k (a + 1) ≡ suc (suc k) = ap (skip k) one ∙ h in
            let reach = skip_at_most k (a + 1) (a + suc count) (omega arith) in
            let m : skip k a + 1 ≡ suc k = omega arith in
            let some : more ≡ suc (more - 1) = omega arith in
            let q : suc k + 1 ≡ skip k (a + 1) = omega arith in
            let idle : new_turn (put k (X next) next) (suc k) ≡ put k (X next) next = ap (after_pair embedding sos new (put k (X next) next) (suc k)) never in
            step (more - 1) (omega arith)
            (ap (λ s. fold new_turn (put k (X next) next) (positions_from s more)) m
            ∙ ap (λ c. fold new_turn (put k (X next) next) (positions_from (suc k) c)) some
            ∙ ap (λ (now : List Class). fold new_turn now (positions_from (suc k + 1) (more - 1))) idle
            ∙ ap (λ s. fold new_turn (put k (X next) next) (positions_from s (more - 1))) q))
      ]

  pub after_paired-moved : (cs : List Class) → State 0 cs → length cs ≡ n →
      after_paired embedding sos new moved (put k (X cs) cs) ≡ put k (X (after_paired embedding sos before closer cs)) (after_paired embedding sos before closer cs)
  unfolding after_paired
  after_paired-moved cs state long =
      let z : 0 + length cs ≡ length cs = omega arith in
      turns_moved (length cs) 0 (length (put k (X cs) cs)) cs state long (omega (arith, length-put k (X cs) cs, ap (skip k) z))

-- what no bracket is and no mark stays
module _ (embedding sos : Class) (before : List Class) (closer : ℕ → Option ℕ) (j : ℕ) (base : is_nonspacing (class_at before j) ≡ false)
    (apart : (o c : ℕ) → closer o ≡ Some c → (o ≡ j → ⊥) × (c ≡ j → ⊥)) where
  turn_keeps : (cs : List Class) (o : ℕ) (r : Option ℕ) → closer o ≡ r → class_at (after_pair embedding sos before cs o r) j ≡ class_at cs j
  turn_keeps cs o None e = refl
  turn_keeps cs o (Some c) e =
      pair_keeps embedding sos before cs o (Some c) j (apart_from before o j (apart o c e).0 base)
      (λ d h. let same : closer o ≡ Some d = e ∙ h in apart_from before d j (apart o d same).1 base)

  pub turn_stays : (cs : List Class) (o : ℕ) → class_at (after_pair embedding sos before cs o (closer o)) j ≡ class_at cs j
  turn_stays cs o = turn_keeps cs o (closer o) refl

  turns_stay : (os : List ℕ) (cs : List Class) → class_at (fold (λ now o. after_pair embedding sos before now o (closer o)) cs os) j ≡ class_at cs j
  turns_stay [] cs = refl
  turns_stay (o ∷ os) cs = turns_stay os (after_pair embedding sos before cs o (closer o)) ∙ turn_stays cs o

  pub paired_stays : (cs : List Class) → class_at (after_paired embedding sos before closer cs) j ≡ class_at cs j
  unfolding after_paired
  paired_stays cs = turns_stay (positions_from 0 (length cs)) cs
