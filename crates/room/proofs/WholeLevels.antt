-- The levels of all characters, one after another.
use Rattle.std.proofs.Common.{◌≡◌, ◌∙◌, ◌≢◌, ℕ, suc, ◌+◌, ◌-◌, ◌<◌, ◌≤◌, Bool, true, false, List, ap, arith, get_or, inl, inr, length, refl, set, subst, sym}
use Rattle.std.specs.Prelude.{◌==◌, if◌then◌else◌, slice_index}
use Rattle.std.proofs.lemmas.Bool.{cases_lt}
use Rattle.std.proofs.lemmas.List.{get_or-map, get_or-set_other, get_or-set_same, length-map}
use Rattle.units.specs.Classes.{class_at, classes_of}
use Rattle.units.specs.declared.bracket.Bracket.TheVariants.{No}
use Rattle.units.specs.declared.bracket.Unit.{Unit as BidiUnit}
use Rattle.units.specs.declared.class.Class.{Class}
use Rattle.units.specs.declared.class.Class.TheVariants.{L}
use Rattle.lines.specs.Spaces.{resets_before}
use Rattle.lines.proofs.LineEnd.{resets_at, resets_at-suc}
use Rattle.room.specs.Rooms.{RoomOf}
use Rattle.room.specs.WholeLevels.{trails, whole_level}

-- the positions from this one on are marked with 1 if only white space comes from them on, else with 0
abbrev pub AreMarkedFrom : List Class → ℕ → List ℕ → Type 0
AreMarkedFrom own from marks = (k : ℕ) → from ≤ k → k < length own →
    slice_index marks k ≡ (if trails own k then 1 else 0)

-- these are the levels of the first n characters
abbrev pub AreWholeUpTo : RoomOf → ℕ → List ℕ → Type 0
AreWholeUpTo room n levels = (k : ℕ) → k < n → slice_index levels k ≡ whole_level room (slice_index levels (k - 1)) k

-- the result of a read past the end
abbrev pub no_unit : BidiUnit
no_unit = record { class = L; bracket = No }

-- L1: at the end only white space follows
pub trails_end : (own : List Class) (n : ℕ) → length own ≡ n → true ≡ trails own n
trails_end own n len = sym (ap (λ (m : ℕ). resets_at own n m) {x = length own - n} {y = 0} (omega (arith, len)))

-- L1: whether only white space follows from a position on depends on its class and on the next position
pub trails_before : (us : List BidiUnit) (k : ℕ) (trailing : Bool) → k < length us →
    trailing ≡ trails (classes_of us) (k + 1)
    → resets_before (get_or us k no_unit).class trailing ≡ trails (classes_of us) k
trails_before us k trailing lt next =
    let own : List Class = classes_of us in
    let count = length own - (k + 1) in
    let here : class_at own k ≡ (get_or us k no_unit).class =
    get_or-map (λ (x : BidiUnit). x.class) us k no_unit L lt in
    let len : length own ≡ length us = length-map us (λ (x : BidiUnit). x.class) in
    ap (resets_before (get_or us k no_unit).class) next ∙
    ap (λ (c : Class). resets_before c (resets_at own (k + 1) count)) (sym here) ∙ sym (resets_at-suc own k count)
    ∙ ap (λ (m : ℕ). resets_at own k m) {x = suc count} {y = length own - k} (omega (arith, len, lt))

-- one mark more
pub marked_more : (own : List Class) (k : ℕ) (trailing : Bool) (mark : ℕ) (marks : List ℕ) → k < length marks →
    mark ≡ (if trailing then 1 else 0) → trailing ≡ trails own k
    → AreMarkedFrom own (k + 1) marks → AreMarkedFrom own k (set marks k mark)
marked_more own k trailing mark marks lt is does are = λ q from low. elim (cases_lt k q) [
  | inl above ↦ let other : q ≢ k = omega (arith, above) in get_or-set_other marks k q mark 0 other ∙
      are q (omega (arith, above)) low
  | inr under ↦
      let same : k ≡ q = omega (arith, under, from) in
      subst (λ (n : ℕ). slice_index (set marks k mark) n ≡ (if trails own n then 1 else 0)) same
      (get_or-set_same marks k mark 0 lt ∙ is ∙ ap (λ (b : Bool). if b then 1 else 0) does)
]

-- what a mark means
pub mark_says : (b : Bool) (mark : ℕ) → mark ≡ (if b then 1 else 0) → (mark == 1) ≡ b
mark_says true mark is = ap (λ (m : ℕ). m == 1) is
mark_says false mark is = ap (λ (m : ℕ). m == 1) is

-- one level more
pub whole_more : (room : RoomOf) (k before value : ℕ) (levels : List ℕ) → k < length levels →
    value ≡ whole_level room before k → (0 < k → before ≡ slice_index levels (k - 1))
    → AreWholeUpTo room k levels → AreWholeUpTo room (k + 1) (set levels k value)
whole_more room k before value levels inside is last are = λ q lt.
    let after = set levels k value in
    let unchanged : (j : ℕ) → j < k → slice_index after j ≡ slice_index levels j = λ j low. let other : j ≢ k =
    omega (arith, low) in get_or-set_other levels k j value 0 other in
    let here : slice_index after k ≡ value = get_or-set_same levels k value 0 inside in
    let first : k ≡ 0 → whole_level room before k ≡ whole_level room (slice_index after (k - 1)) k =
    λ none. subst (λ (n : ℕ). whole_level room before n ≡ whole_level room (slice_index after (n - 1)) n) {x = 0} {y =
    k} (sym none) refl in
    let at : slice_index after k ≡ whole_level room (slice_index after (k - 1)) k = elim (cases_lt 0 k) [
      | inl some ↦ here ∙ is ∙ ap (λ (b : ℕ). whole_level room b k) (last some ∙
          sym (unchanged (k - 1) (omega (arith, some))))
      | inr none ↦ here ∙ is ∙ first (omega (arith, none))
    ] in
    elim (cases_lt q k) [
      | inl below ↦ elim (cases_lt 0 q) [
        | inl some ↦ unchanged q below ∙ are q below ∙
            ap (λ (b : ℕ). whole_level room b q) (sym (unchanged (q - 1) (omega (arith, below, some))))
        | inr none ↦ unchanged q below ∙ are q below ∙
            ap (λ (b : ℕ). whole_level room b q) (sym (unchanged (q - 1) (omega (arith, below, none))))
      ]
      | inr above ↦ subst (λ (n : ℕ). slice_index after n ≡ whole_level room (slice_index after (n - 1)) n) {x = k} {y =
          q} (omega (arith, above, lt)) at
    ]
