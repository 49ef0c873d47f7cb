-- Paragraphs of level 0 without R, AL, AN, RLE, RLO and RLI: their resolved levels are their explicit ones.
use Rattle.std.specs.Prelude.{Option, Some, None, ℕ, suc, ◌<◌, ◌≤◌, ◌%◌, ◌≡◌, Bool, true, false, not, ◌&&◌, if◌then◌else◌, max, nat_le, List, [], ◌∷◌, length, map, Contains, IfSome, slice_get, slice_index, unwrap_or, refl}
use Rattle.std.specs.List.{All, flat_map, list_any}
use Rattle.std.specs.Option.{option_map, option_map_or}
use Rattle.std.proofs.Common.{arith, ap, sym, ◌∙◌, get_or, subst, inl, inr}
use Rattle.std.proofs.lemmas.Bool.{and_parts, cases_Bool, cases_lt, cond-true, cond-false}
use Rattle.std.proofs.lemmas.List.{get_or-map, get_or_past, length-map, ext_get_or}
use Rattle.std.proofs.lemmas.List.Elements.{All-from_get_or, All-map}
use Rattle.std.proofs.lemmas.Option.{none-some}
use Rattle.units.specs.Classes.{class_at, classes_at, classes_of, is_initiator, is_removed, is_right_to_left, is_separator}
use Rattle.units.specs.Explicit.{State, entered, explicit_at, explicit_of, next_even, override_of, wanted_level, wants_odd}
use Rattle.units.specs.Isolates.{begins_right_to_left, first_strong, para_level_of}
use Rattle.units.specs.Layout.{current_of, levels_in, levels_of_sequence, resolved_levels, value_beside}
use Rattle.units.specs.Limits.{LimitsOf}
use Rattle.units.specs.Paragraphs.{SeparatorOnlyLast}
use Rattle.units.specs.Positions.{positions_of}
use Rattle.units.specs.Runs.{LeveledView, SequenceView, direction_of, last_remaining, leveled_of, level_of, level_or_base, remains, sequences_of, size_of, sos_at}
use Rattle.units.specs.declared.bracket.Unit.{Unit as BidiUnit}
use Rattle.units.specs.declared.class.Class.{Class}
use Rattle.units.specs.declared.class.Class.TheVariants.{L, R, AL, BN, RLE, RLO, LRO, RLI, FSI}
use Rattle.units.specs.declared.level.Direction.{Direction}
use Rattle.units.specs.declared.level.Direction.TheVariants.{Auto, Ltr, Rtl, AutoRtl}
use Rattle.units.proofs.Lengths.{length-levels_of_sequence}
use Rattle.units.proofs.Options.{is_some_false}
use Rattle.units.proofs.Positions.{length-positions_from, get_or-positions_from}
use Rattle.explicit.specs.IdleRules.{HasNone}
use Rattle.explicit.specs.StatusStacks.{state_within, leveled_in}
use Rattle.explicit.specs.Uniform.{may_rise_at_even, stays_at}
use Rattle.explicit.proofs.Holders.Open.{holders}
use Rattle.explicit.proofs.LevelsComputed.Alone.{begins_left_to_right}
use Rattle.explicit.proofs.LevelsComputed.ExplicitAt.{explicit-leveled_in}
use Rattle.explicit.proofs.LevelsComputed.InsideIsolates.{nested}
use Rattle.explicit.proofs.LevelsComputed.Leveled.{get_or-of_positions, length-of_positions, leveled, level-read, size-is}
use Rattle.explicit.proofs.Staying.{levels_of_sequence-uniform}
use Rattle.resolve.proofs.Gathered.{contains_index}
use Rattle.sequences.specs.Once.{times}
use Rattle.sequences.proofs.AlongSequences.{of_each, levels_along}
use Rattle.sequences.proofs.Once.{sequences_hold_once, times-append}
use Rattle.paragraph.specs.Covering.{positions_in}
use Rattle.paragraph.specs.LeftToRight.{KeepsExplicitLevels, begins_at_zero, keeps_explicit, may_leave}
use Rattle.paragraph.specs.Contents.{has_none, keeps_level}
use Rattle.paragraph.proofs.ClassKinds.{none_where_not_any}
use Rattle.paragraph.proofs.FlatLevels.{none_from}
use Rattle.paragraph.proofs.UniformLevels.{not_flat}
use Rattle.paragraph.proofs.ComputedBeside.{found-append, found-append_some, zip_none, zip_some}
use Rattle.paragraph.proofs.Covering.{unfound}

-- inside initiators: an even level, and no class is overridden but by L
pub record IsEvenState (s : State) : Type 0 where
  pub even : s.level % 2 ≡ 0
  pub own : IfSome s.override (λ c. c ≡ L)

chosen : (b : Bool) (x y : State) → IsEvenState x → IsEvenState y → IsEvenState (if b then x else y)
chosen true x y hx hy = hx
chosen false x y hx hy = hy

even_level : (level : ℕ) → level % 2 ≡ 0 → next_even level % 2 ≡ 0
even_level level e = omega arith

pub not_right_to_left : (c : Class) → may_leave c ≡ false → is_right_to_left c ≡ false
not_right_to_left R h = absurd cc
not_right_to_left AL h = absurd cc
not_right_to_left _ h = refl

pub none_right_to_left : (cs : List Class) → HasNone may_leave cs → HasNone is_right_to_left cs
none_right_to_left cs none = λ k d lt. not_right_to_left (get_or cs k d) (none k d lt)

-- P2, P3
pub level_zero : (cs : List Class) → HasNone may_leave cs → (direction : Direction) →
    begins_at_zero direction ≡ true → para_level_of cs direction ≡ 0
unfolding para_level_of
level_zero cs none Auto e = rw (begins_left_to_right cs (none_right_to_left cs none) (first_strong cs None)) refl
level_zero cs none Ltr e = refl
level_zero cs none Rtl e = absurd cc
level_zero cs none AutoRtl e = absurd cc

-- what the classes of a paragraph show that keeps its explicit levels
pub record IsKeeping (direction : Direction) (cs : List Class) : Type 0 where
  pub begins : begins_at_zero direction ≡ true
  pub initiator : list_any is_initiator cs ≡ true
  pub none : HasNone may_leave cs

pub keeping : (direction : Direction) (cs : List Class) → keeps_explicit direction cs ≡ true → IsKeeping direction cs
keeping direction cs keeps =
    let parts = and_parts (begins_at_zero direction && list_any is_initiator cs) (has_none may_leave cs) keeps in
    let first = and_parts (begins_at_zero direction) (list_any is_initiator cs) parts.0 in
    record { begins = first.0; initiator = first.1; none = none_from may_leave cs parts.1 }

-- it isn't flat
pub keeping_not_level : (direction : Direction) (cs : List Class) (level : ℕ) → IsKeeping direction cs →
    keeps_level level cs ≡ false
keeping_not_level direction cs level k =
    not_flat cs level (sym (none_where_not_any is_initiator cs) ∙ ap not k.initiator)

low_at_even : (c : Class) → may_leave c ≡ false → may_rise_at_even c ≡ false
low_at_even RLE h = refl
low_at_even RLO h = refl
low_at_even RLI h = refl
low_at_even _ h = h

override_is : (c : Class) → may_leave c ≡ false → IfSome (override_of c) (λ o. o ≡ L)
override_is RLO h = absurd cc
override_is LRO h = refl
override_is _ h = tt

asks_even : (cs : List Class) (q : ℕ) (c : Class) → may_leave c ≡ false →
    begins_right_to_left cs (first_strong cs (Some q)) ≡ false → wants_odd cs q c ≡ false
asks_even cs q RLE h f = absurd cc
asks_even cs q RLO h f = absurd cc
asks_even cs q RLI h f = absurd cc
asks_even cs q FSI h f = f
asks_even cs q _ h f = refl

-- X1 to X9: the position is removed, or has an even level, and a class that stays at that level
abbrev pub IsLow : Option (ℕ × Class) → Type 0
IsLow leveled = IfSome leveled (λ x. (x.0 % 2 ≡ 0) × (stays_at x.0 x.1 ≡ true))

stays : (level : ℕ) (c : Class) → level % 2 ≡ 0 → is_removed c ≡ false → may_rise_at_even c ≡ false →
    stays_at level c ≡ true
stays level c even remains low = grind arith

stays_by : (level : ℕ) (override : Option Class) (own : Class) → level % 2 ≡ 0 → IfSome override (λ c. c ≡ L) →
    is_removed own ≡ false → may_rise_at_even own ≡ false → IsLow (Some (level, unwrap_or override own))
stays_by level None own even is remains low = (even, stays level own even remains low)
stays_by level (Some c) own even is remains low = (even, rw is (stays level L even refl refl))

low_inside : (s : State) (own : Class) → IsEvenState s → may_leave own ≡ false → IsLow (leveled_in s 0 own)
low_inside s own even h =
    elim (cases_Bool (is_removed own)) [
      | inl removed ↦ rw removed tt
      | inr remains ↦ elim (cases_Bool (is_separator own)) [
        | inl separator ↦ rw (remains, separator) (refl, stays 0 own refl remains (low_at_even own h))
        | inr other ↦
            rw (remains, other) (stays_by s.level s.override own even.even even.own remains (low_at_even own h))
      ]
    ]

module _ (depth : ℕ) (cs : List Class) (none : HasNone may_leave cs) where
  class_stays : (p : ℕ) → may_leave (class_at cs p) ≡ false
  class_stays p =
      elim (cases_lt p (length cs)) [
        | inl inside ↦ none p L inside
        | inr past ↦ ap may_leave (get_or_past cs p L past)
      ]

  asks : (q : ℕ) → wants_odd cs q (class_at cs q) ≡ false
  asks q = asks_even cs q (class_at cs q) (class_stays q)
      (begins_left_to_right cs (none_right_to_left cs none) (first_strong cs (Some q)))

  wanted_even : (level q : ℕ) → level % 2 ≡ 0 → wanted_level cs level q % 2 ≡ 0
  wanted_even level q even = rw (asks q) (even_level level even)

  entered_even : (s : State) (q : ℕ) → IsEvenState s → IsEvenState (entered depth cs s q)
  unfolding entered
  entered_even s q even =
      chosen (s.sound && nat_le (wanted_level cs s.level q) depth)
      (record { level = wanted_level cs s.level q; override = override_of (class_at cs q); sound = true })
      (record { level = s.level; override = s.override; sound = false })
      (record { even = wanted_even s.level q even.even; own = override_is (class_at cs q) (class_stays q) })
      (record { even = even.even; own = even.own })

  within_even : (qs : List ℕ) → IsEvenState (state_within depth cs 0 qs)
  within_even [] = record { even = refl; own = tt }
  within_even (q ∷ qs) = entered_even (state_within depth cs 0 qs) q (within_even qs)

  pub explicit_low : (p : ℕ) → IsLow (explicit_at depth cs 0 p)
  explicit_low p =
      subst IsLow (explicit-leveled_in depth cs 0 p)
      (low_inside (state_within depth cs 0 (holders cs p)) (class_at cs p) (within_even (holders cs p)) (class_stays p))

-- the level of a position that remains, and its current class
low_level : (leveled : Option (ℕ × Class)) → IsLow leveled → IfSome (option_map (λ x. x.0) leveled) (λ l. l % 2 ≡ 0)
low_level None h = tt
low_level (Some x) h = h.0

low_class : (leveled : Option (ℕ × Class)) (level : ℕ) → IsLow leveled → option_map (λ x. x.0) leveled ≡ Some level →
    stays_at level (option_map_or (λ x. x.1) leveled BN) ≡ true
low_class None level h e = absurd cc
low_class (Some x) level h e = let same : x.0 ≡ level = cc in subst (λ l. stays_at l x.1 ≡ true) same h.1

base_even : (found : Option ℕ) → IfSome found (λ l. l % 2 ≡ 0) → unwrap_or found 0 % 2 ≡ 0
base_even None h = refl
base_even (Some l) h = h

higher_even : (a b : ℕ) → a % 2 ≡ 0 → b % 2 ≡ 0 → max a b % 2 ≡ 0
higher_even a b ha hb = elim (cases_lt a b) [
  | inl less ↦ let e : max a b ≡ b = omega arith in ap (λ n. n % 2) e ∙ hb
  | inr more ↦ let e : max a b ≡ a = omega arith in ap (λ n. n % 2) e ∙ ha
]

direction_even : (a b : ℕ) → a % 2 ≡ 0 → b % 2 ≡ 0 → direction_of a ≡ direction_of b
direction_even a b ha hb = rw (ha, hb) refl

module _ (limits : LimitsOf) (deep : limits.depth ≤ 125) (us : List BidiUnit) (only : SeparatorOnlyLast us)
    (none : HasNone may_leave (classes_of us)) where
  abbrev here : LeveledView
  here = leveled_of limits.depth (classes_of us) 0

  abbrev current : List Class
  current = current_of (explicit_of limits.depth (classes_of us) 0)

  size : size_of here ≡ length (classes_of us)
  size = size-is limits.depth (classes_of us) 0

  even_at : (p : ℕ) → IfSome (level_of here p) (λ l. l % 2 ≡ 0)
  even_at p =
      let P : Option ℕ → Type 0 = λ o. IfSome o (λ l. l % 2 ≡ 0) in
      elim (cases_lt p (length (classes_of us))) [
        | inl inside ↦
            subst P (sym (level-read limits.depth (classes_of us) 0 p inside))
            (low_level (explicit_at limits.depth (classes_of us) 0 p)
            (explicit_low limits.depth (classes_of us) none p))
        | inr past ↦ subst P (sym (get_or_past here.levels p None (omega (arith, size)))) tt
      ]

  even_or_base : (o : Option ℕ) → level_or_base here o % 2 ≡ 0
  even_or_base None = refl
  even_or_base (Some p) = base_even (level_of here p) (even_at p)

  -- X10: each sequence begins in the direction of its level
  begins : (x : ℕ) → sos_at here x ≡ direction_of (level_or_base here (Some x))
  begins x =
      let level : ℕ = level_or_base here (Some x) in
      let before : ℕ = level_or_base here (last_remaining here x) in
      direction_even (max level before) level
      (higher_even level before (even_or_base (Some x)) (even_or_base (last_remaining here x))) (even_or_base (Some x))

  class_is : (p : ℕ) → p < length (classes_of us) →
      class_at current p ≡ option_map_or (λ x. x.1) (explicit_at limits.depth (classes_of us) 0 p) BN
  class_is p inside =
      let n : length (explicit_of limits.depth (classes_of us) 0) ≡ length (classes_of us) =
      length-of_positions (classes_of us) (explicit_at limits.depth (classes_of us) 0) in
      get_or-map (λ place. option_map_or (λ x. x.1) place BN) (explicit_of limits.depth (classes_of us) 0) p None L
      (omega (arith, n))
      ∙ ap (λ place. option_map_or (λ x. x.1) place BN)
      (get_or-of_positions (classes_of us) (explicit_at limits.depth (classes_of us) 0) p None inside)

  stays_here : (p level : ℕ) → level_of here p ≡ Some level → stays_at level (class_at current p) ≡ true
  stays_here p level at =
      elim (cases_lt p (length (classes_of us))) [
        | inl inside ↦
            rw (class_is p inside)
            (low_class (explicit_at limits.depth (classes_of us) 0 p) level
            (explicit_low limits.depth (classes_of us) none p)
            (sym (level-read limits.depth (classes_of us) 0 p inside) ∙ at))
        | inr past ↦ absurd (none-some level
            (sym (get_or_past here.levels p None (omega (arith, size))) ∙ at))
      ]

  -- W1 to I2: each position of a sequence has its level
  abbrev GivesItsLevel : SequenceView → Type 0
  GivesItsLevel s = (p : ℕ) → 0 < times s.positions p →
      value_beside (levels_in limits.brackets us current s) p ≡ level_of here p

  gives_its_level : (j : ℕ) (s : SequenceView) → slice_get (sequences_of here) j ≡ Some s → GivesItsLevel s
  gives_its_level j s found p some =
      let at : (q : ℕ) → Contains s.positions q → level_of here q ≡ Some s.level =
      λ q c. levels_along here (nested limits.depth us 0 only) j q s found c in
      let before : List Class = classes_at current s.positions in
      let sos : s.sos ≡ direction_of s.level =
      of_each here (λ r. r.sos ≡ direction_of r.level) (λ x first. begins x) j s found in
      let stay : All (λ c. stays_at s.level c ≡ true) before =
      All-map (λ c. stays_at s.level c ≡ true) (class_at current) s.positions
      (All-from_get_or (λ q. stays_at s.level (class_at current q) ≡ true)
      s.positions 0
      (λ k lt.
      stays_here (get_or s.positions k 0) s.level
      (at (get_or s.positions k 0) (contains_index s.positions k lt)))) in
      let values : List ℕ = levels_of_sequence limits.brackets s us before in
      let are : values ≡ map (λ (c : Class). s.level) before =
      levels_of_sequence-uniform limits.brackets s us before (sos, stay) in
      let n : length before ≡ length s.positions = length-map s.positions (class_at current) in
      let long : length values ≡ length s.positions =
      ap length are ∙ length-map before (λ (c : Class). s.level) ∙ n in
      let w = zip_some s.positions values p long some 0 in
      let value : get_or values w.0 0 ≡ s.level =
      ap (λ (vs : List ℕ). get_or vs w.0 0) are
      ∙ get_or-map (λ (c : Class). s.level) before w.0 L 0 (omega (arith, w.1, n)) in
      w.3 ∙ ap Some value ∙ sym (at p (subst (Contains s.positions) w.2 (contains_index s.positions w.0 w.1)))

  -- of several sequences, the one that has the position gives it its level
  level_beside : (all : List SequenceView) →
      ((j : ℕ) (s : SequenceView) → slice_get all j ≡ Some s → GivesItsLevel s) → (p : ℕ) →
      0 < times (positions_in all) p →
      value_beside (flat_map (levels_in limits.brackets us current) all) p ≡ level_of here p
  level_beside [] each p some = absurd (omega (arith, some))
  level_beside (s ∷ all) each p some =
      let later : List (ℕ × ℕ) = flat_map (levels_in limits.brackets us current) all in
      let values : List ℕ = levels_of_sequence limits.brackets s us (classes_at current s.positions) in
      let t = times-append s.positions (positions_in all) p in
      elim (cases_lt 0 (times s.positions p)) [
        | inl own ↦
            (let long : length values ≡ length s.positions =
            length-levels_of_sequence limits.brackets s us (classes_at current s.positions) ∙
            length-map s.positions (class_at current) in
            let w = zip_some s.positions values p long own 0 in
            found-append_some (levels_in limits.brackets us current s) later p (get_or values w.0 0) w.3
            ∙ sym w.3 ∙ each 0 s refl p own)
        | inr other ↦
            found-append (levels_in limits.brackets us current s) later p (zip_none s.positions values p (omega arith))
            ∙ level_beside all (λ j r found. each (suc j) r found) p (omega arith)
      ]

  stored : (p : ℕ) → p < length us → times (positions_in (sequences_of here)) p ≡ (if remains here p then 1 else 0)
  stored p within =
      sequences_hold_once here (leveled limits.depth (classes_of us) 0 deep (omega arith))
      (nested limits.depth us 0 only) p
      (omega (arith, size, within, length-map us (λ (u : BidiUnit). u.class)))

  value_at : (p : ℕ) → p < length us →
      value_beside (flat_map (levels_in limits.brackets us current) (sequences_of here)) p ≡ level_of here p
  value_at p within =
      elim (cases_Bool (remains here p)) [
        | inl here_remains ↦ level_beside (sequences_of here) gives_its_level p (omega (
          arith,
          stored p within,
          cond-true {A = ℕ} (remains here p) 1 0 here_remains,
        ))
        | inr gone ↦
            unfound limits.brackets us current (sequences_of here) p (stored p within ∙
            cond-false {A = ℕ} (remains here p) 1 0 gone)
            ∙ sym (is_some_false (level_of here p) gone)
      ]

  pub keeps_explicit_levels : KeepsExplicitLevels limits us
  unfolding resolved_levels
  keeps_explicit_levels =
      let value : ℕ → Option ℕ =
      value_beside (flat_map (levels_in limits.brackets us current) (sequences_of here)) in
      let m : length (positions_of us) ≡ length us = length-positions_from 0 (length us) in
      let k : length (map value (positions_of us)) ≡ length (positions_of us) = length-map (positions_of us) value in
      let n : length here.levels ≡ length us = size ∙ length-map us (λ (u : BidiUnit). u.class) in
      ext_get_or None (map value (positions_of us)) here.levels (omega arith)
      (λ i h.
      let at : slice_index (positions_of us) i ≡ i =
      omega (arith, get_or-positions_from 0 (length us) i 0 (omega arith)) in
      get_or-map value (positions_of us) i 0 None (omega arith) ∙ ap value at ∙ value_at i (omega arith))
