-- A direction that a bracket takes with the marks that follow it.
use Rattle.std.proofs.Common.{◌≡◌, ◌≢◌, ℕ, zero, suc, ◌+◌, ◌-◌, ◌<◌, ◌≤◌, Bool, true, false, ◌&&◌, ◌||◌, List, [], ◌∷◌, ◌++◌, length, set, ltb, cond, refl, sym, ap, ◌∙◌, arith, inl, inr}
use Rattle.std.specs.List.{list_all}
use Rattle.std.proofs.lemmas.Bool.{cases_lt, eq-eqb, ne_eqb, lt-ltb, le-ltb, and_left, and_right}
use Rattle.std.proofs.lemmas.List.{get_or-set_same, get_or-set_other, length-set}
use Rattle.std.proofs.lemmas.List.Folds.{list_all-append}
use Rattle.units.specs.Classes.{class_at}
use Rattle.units.specs.Positions.{positions_from}
use Rattle.units.specs.Classes.{is_nonspacing}
use Rattle.units.specs.Brackets.{follows_bracket, given_to}
use Rattle.units.specs.declared.class.Class.{Class}
use Rattle.units.specs.declared.class.Class.TheVariants.{L}
use Rattle.units.proofs.Lengths.{length-at_each}
use Rattle.resolve.proofs.BracketSteps.{and-true}
use Rattle.resolve.proofs.AtEach.{class_at-at_each, same_classes}
use Rattle.units.proofs.Positions.{positions_from-next}

abbrev marks : List Class → ℕ → ℕ → Bool
marks before b j = list_all (λ i. is_nonspacing (class_at before i)) (positions_from (b + 1) (j - b))

follows_bracket-from : (before : List Class) (b j : ℕ) → b ≤ j → follows_bracket before b j ≡ marks before b j
follows_bracket-from before b j le = grind (arith, eq-eqb, ne_eqb, lt-ltb)

pub follows_bracket-below : (before : List Class) (b j : ℕ) → j < b → follows_bracket before b j ≡ false
follows_bracket-below before b j lt = grind (arith, ne_eqb, le-ltb)

pub follows_bracket-same : (before : List Class) (b : ℕ) → follows_bracket before b b ≡ true
follows_bracket-same before b = ap (λ t. t || (ltb b b && marks before b b)) (eq-eqb b b refl)

pub follows_bracket-more : (before : List Class) (b j : ℕ) → b ≤ j →
    follows_bracket before b (suc j) ≡ (follows_bracket before b j && is_nonspacing (class_at before (suc j)))
follows_bracket-more before b j le =
    let n : suc j - b ≡ suc (j - b) = omega arith in
    let e : b + 1 + (j - b) ≡ suc j = omega arith in
    let mark : ℕ → Bool = λ i. is_nonspacing (class_at before i) in
    follows_bracket-from before b (suc j) (omega arith)
    ∙ ap (λ m. list_all mark (positions_from (b + 1) m)) n
    ∙ ap (list_all mark) (positions_from-next (b + 1) (j - b) ∙ ap (λ p. positions_from (b + 1) (j - b) ++ p ∷ []) e)
    ∙ list_all-append mark (positions_from (b + 1) (j - b)) (suc j ∷ [])
    ∙ ap (λ t. marks before b j && t) (and-true (mark (suc j)) true refl)
    ∙ ap (λ t. t && mark (suc j)) (sym (follows_bracket-from before b j le))

-- no mark follows across a class that is no mark
pub follows_bracket-past : (before : List Class) (b k : ℕ) → b < k → is_nonspacing (class_at before k) ≡ false →
    (j : ℕ) → k ≤ j → follows_bracket before b j ≡ false
follows_bracket-past before b k lt ends zero le = absurd (omega arith)
follows_bracket-past before b k lt ends (suc j) le =
    grind (arith, follows_bracket-more, and_right, and_left, follows_bracket-past before b k lt ends j)

-- the positions from b on and below k have the direction, and no other position has changed
pub record IsGiving (before : List Class) (b : ℕ) (direction : Class) (old now : List Class) (k : ℕ) : Type 0 where
  pub begun : b < k
  pub long : length now ≡ length old
  pub follows : (j : ℕ) → b ≤ j → j < k → follows_bracket before b j ≡ true
  pub taken : (j : ℕ) → b ≤ j → j < k → class_at now j ≡ direction
  pub same_below : (j : ℕ) → j < b → class_at now j ≡ class_at old j
  pub same_above : (j : ℕ) → k ≤ j → class_at now j ≡ class_at old j

pub giving_starts : (before : List Class) (b : ℕ) (direction : Class) (old : List Class) → b < length old →
    IsGiving before b direction old (set old b direction) (b + 1)
giving_starts before b direction old lt =
    grind (arith, length-set, follows_bracket-same, get_or-set_same, get_or-set_other)

pub giving_goes_on : (before : List Class) (b : ℕ) (direction : Class) (old now : List Class) (k : ℕ) →
    IsGiving before b direction old now k → k < length old → is_nonspacing (class_at before k) ≡ true
    → IsGiving before b direction old (set now k direction) (k + 1)
giving_goes_on before b direction old now zero g lt mark = absurd (omega (arith, g.begun))
giving_goes_on before b direction old now (suc k) g lt mark =
    let within : suc k < length now = omega (arith, g.long) in
    let begun = g.begun in
    record {
      begun = omega (arith, g.begun);
      long = length-set now (suc k) direction ∙ g.long;
      follows = λ j ge below. elim (cases_lt j (suc k)) [
        | inl earlier ↦ g.follows j ge earlier
        | inr here ↦
            (let e : j ≡ suc k = omega arith in
            ap (follows_bracket before b) e
            ∙ follows_bracket-more before b k (omega arith)
            ∙ ap (λ t. t && is_nonspacing (class_at before (suc k))) (g.follows k (omega arith) (omega arith))
            ∙ mark)
      ];
      taken = λ j ge below. elim (cases_lt j (suc k)) [
        | inl earlier ↦ get_or-set_other now (suc k) j direction L (let apart : j ≢ suc k = omega arith in apart) ∙
            g.taken j ge earlier
        | inr here ↦ (let e : j ≡ suc k = omega arith in ap (class_at (set now (suc k) direction)) e ∙
            get_or-set_same now (suc k) direction L within)
      ];
      same_below = λ j below. get_or-set_other now (suc k) j direction L (let apart : j ≢ suc k = omega arith in
          apart) ∙ g.same_below j below;
      same_above = λ j above. get_or-set_other now (suc k) j direction L (let apart : j ≢ suc k = omega arith in
          apart) ∙ g.same_above j (omega arith);
    }

-- from k on no mark follows the bracket
pub giving_ends : (before : List Class) (b : ℕ) (direction : Class) (old now : List Class) (k : ℕ) →
    IsGiving before b direction old now k
    → ((j : ℕ) → k ≤ j → j < length old → follows_bracket before b j ≡ false) → now ≡ given_to before b direction old
giving_ends before b direction old now k g past =
    let f : ℕ → Class = λ j. cond (follows_bracket before b j) direction (class_at old j) in
    same_classes now (given_to before b direction old) (g.long ∙ sym (length-at_each f old))
    (λ j lt.
    let within : j < length old = omega (arith, g.long) in
    let at_j = class_at-at_each f old j within in
    elim (cases_lt j b) [
      | inl below ↦ g.same_below j below ∙
          sym (at_j ∙ ap (λ t. cond t direction (class_at old j)) (follows_bracket-below before b j below))
      | inr from ↦ elim (cases_lt j k) [
        | inl earlier ↦ g.taken j from earlier ∙
            sym (at_j ∙ ap (λ t. cond t direction (class_at old j)) (g.follows j from earlier))
        | inr later ↦ g.same_above j later ∙
            sym (at_j ∙ ap (λ t. cond t direction (class_at old j)) (past j later within))
      ]
    ])
