-- The lemmas by the units alone: which unit may be dropped after the one at k, and which may replace another there.
use Rattle.std.specs.Prelude.{ℕ, zero, suc, ◌<◌, true, false, ◌≡◌, List, [], ◌∷◌, length, slice_index_or, refl}
use Rattle.std.proofs.Common.{arith, ap, sym, ◌∙◌, inl, inr}
use Rattle.units.specs.Brackets.{acting_bracket, acting_brackets, bracket_at, bracket_pairs_of, closer_of}
use Rattle.units.specs.Classes.{class_at, classes_of, is_neutral, is_nonspacing, is_strong}
use Rattle.units.specs.Layout.{no_unit}
use Rattle.units.specs.Neutral.{side_of}
use Rattle.units.specs.Runs.{SequenceView, direction_of}
use Rattle.units.specs.Weak.{by_w2, by_w3, after_weak}
use Rattle.units.specs.declared.bracket.Bracket.TheVariants.{No}
use Rattle.units.specs.declared.bracket.Unit.{Unit as BidiUnit}
use Rattle.units.specs.declared.class.Class.{Class}
use Rattle.units.specs.declared.class.Class.TheVariants.{L, R, AL, EN, AN, CS, ET, NSM, ON, WS, S}
use Rattle.units.proofs.Lengths.{length-after_weak, length-after_paired, length-classes_of}
use Rattle.compress.specs.Spread.{put, twice, may_repeat, is_space, is_quiet, is_firm, is_still, is_apart, is_no_number}
use Rattle.resolve.specs.ThroughW3.{preceding_of}
use Rattle.compress.proofs.Bracketed.{unit_levels, after_n0, acting_no, weak_quiet, apart_on, unit_repeat_drops, unit_space_drops, unit_mark_drops}
use Rattle.compress.proofs.Neutrals.{OneSide}
use Rattle.compress.proofs.Paired.{paired_stays}
use Rattle.compress.proofs.Replacing.{is_separator_class, is_close, known_past, separator_is_neutral, separator_ends, terminator_is_neutral, number_is_letter, separator_joins_en, separator_joins_an, terminator_joins}
use Rattle.compress.proofs.Skip.{skip, skip_high, length-put, at-put}
use Rattle.compress.proofs.Sound.{pairs_sound, no_pair_at}
use Rattle.compress.proofs.Spreading.{Drops}
use Rattle.compress.proofs.Swapping.{unit_swaps}

-- the unit at an index
abbrev pub unit_at : List BidiUnit → ℕ → BidiUnit
unit_at us k = slice_index_or us k no_unit

pub class_of-unit : (us : List BidiUnit) (k : ℕ) → class_at (classes_of us) k ≡ (unit_at us k).class
class_of-unit [] k = refl
class_of-unit (u ∷ us) zero = refl
class_of-unit (u ∷ us) (suc k) = class_of-unit us k

-- what is no bracket doesn't act as one
bare_acts : (us : List BidiUnit) (cs : List Class) (k : ℕ) → (unit_at us k).bracket ≡ No → bracket_at (acting_brackets us cs) k ≡ No
bare_acts [] cs k e = refl
bare_acts (u ∷ us) [] k e = refl
bare_acts (u ∷ us) (c ∷ cs) zero e = ap (acting_bracket c u.class) e ∙ acting_no c u.class
bare_acts (u ∷ us) (c ∷ cs) (suc k) e = bare_acts us cs k e

letter_quiet : (c : Class) → is_strong c ≡ true → is_quiet c ≡ true
letter_quiet L h = refl
letter_quiet R h = refl
letter_quiet AL h = refl
letter_quiet c h = cc

space_is_quiet : (c : Class) → is_space c ≡ true → is_quiet c ≡ true
space_is_quiet S h = refl
space_is_quiet WS h = refl
space_is_quiet ON h = refl
space_is_quiet c h = cc

space_w3 : (c : Class) → is_space c ≡ true → is_neutral (by_w3 c) ≡ true
space_w3 S h = refl
space_w3 WS h = refl
space_w3 ON h = refl
space_w3 c h = cc

letter_w3 : (c : Class) → is_strong c ≡ true → (side_of (by_w3 c) ≡ by_w3 c) × (is_neutral (by_w3 c) ≡ false)
letter_w3 L h = (refl, refl)
letter_w3 R h = (refl, refl)
letter_w3 AL h = (refl, refl)
letter_w3 c h = cc

letter_no_on : (c : Class) → is_strong c ≡ true → by_w3 c ≡ ON → ⊥
letter_no_on L h e = cc
letter_no_on R h e = cc
letter_no_on AL h e = cc
letter_no_on c h e = cc

letter_base : (c : Class) → is_strong c ≡ true → is_nonspacing c ≡ false
letter_base NSM h = cc
letter_base c h = refl

direction_side : (level : ℕ) → (side_of (direction_of level) ≡ direction_of level) × (is_neutral (direction_of level) ≡ false)
direction_side level = (one level, other level) where
  one : (level : ℕ) → side_of (direction_of level) ≡ direction_of level
  one level = grind arith

  other : (level : ℕ) → is_neutral (direction_of level) ≡ false
  other level = grind arith

module _ (most : ℕ) (s : SequenceView) (us : List BidiUnit) (k : ℕ) (inside : k < length us) where
  abbrev F : List BidiUnit → List ℕ
  F = unit_levels most s

  abbrev c : Class
  c = (unit_at us k).class

  abbrev next : Class
  next = (unit_at us (suc k)).class

  c_is : class_at (classes_of us) k ≡ (unit_at us k).class
  c_is = class_of-unit us k

  next_is : class_at (classes_of us) (suc k) ≡ (unit_at us (suc k)).class
  next_is = class_of-unit us (suc k)

  abbrev weak : List Class
  weak = after_weak s.sos (classes_of us)

  -- a letter or a neutral that is no bracket is after N0 what W3 made of it
  quiet_n0 : (j : ℕ) → is_quiet (unit_at us j).class ≡ true → (bracket_at (acting_brackets us weak) j ≡ No) → class_at (after_n0 most s us weak) j ≡ by_w3 (unit_at us j).class
  quiet_n0 j quiet none =
      let e = class_of-unit us j in
      let q : is_quiet (class_at (classes_of us) j) ≡ true = ap is_quiet e ∙ quiet in
      let base : is_nonspacing (class_at (classes_of us) j) ≡ false = quiet_is_base (class_at (classes_of us) j) q in
      paired_stays (direction_of s.level) s.sos (classes_of us) (closer_of (bracket_pairs_of most (acting_brackets us weak))) j base (λ o c f. no_pair_at us weak j none o c (pairs_sound most us weak o c f)) weak
      ∙ weak_quiet s.sos (classes_of us) j q ∙ ap by_w3 e where
        quiet_is_base : (c : Class) → is_quiet c ≡ true → is_nonspacing c ≡ false
        quiet_is_base NSM h = cc
        quiet_is_base c h = refl

  letter_n0 : (j : ℕ) → is_strong (unit_at us j).class ≡ true → class_at (after_n0 most s us weak) j ≡ by_w3 (unit_at us j).class
  letter_n0 j letter =
      let e = class_of-unit us j in
      let l : is_strong (class_at (classes_of us) j) ≡ true = ap is_strong e ∙ letter in
      let q : is_quiet (class_at (classes_of us) j) ≡ true = letter_quiet (class_at (classes_of us) j) l in
      let w : class_at weak j ≡ by_w3 (class_at (classes_of us) j) = weak_quiet s.sos (classes_of us) j q in
      paired_stays (direction_of s.level) s.sos (classes_of us) (closer_of (bracket_pairs_of most (acting_brackets us weak))) j (letter_base (class_at (classes_of us) j) l)
      (apart_on most s us k inside j (λ f. letter_no_on (class_at (classes_of us) j) l (sym w ∙ f))) weak
      ∙ w ∙ ap by_w3 e

  module _ (u : BidiUnit) where
    -- (b) a mark after a letter, number, terminator or neutral, be it a bracket or not
    pub mark_lemma : u.class ≡ NSM → may_repeat (unit_at us k).class ≡ true → Drops (unit_levels most s) k u us
    mark_lemma mark takes = unit_mark_drops most s us k inside u mark (ap may_repeat c_is ∙ takes)

    module _ (u_bare : u.bracket ≡ No) (k_bare : (unit_at us k).bracket ≡ No) where
      none : bracket_at (acting_brackets us weak) k ≡ No
      none = bare_acts us weak k k_bare

      -- a class that repeats the one before it
      pub repeat_lemma : u.class ≡ (unit_at us k).class → may_repeat u.class ≡ true → Drops (unit_levels most s) k u us
      repeat_lemma e h = unit_repeat_drops most s us k inside u (e ∙ sym c_is) h none u_bare

      module _ (space : is_space u.class ≡ true) (no_mark : is_nonspacing (unit_at us (suc k)).class ≡ false) where
        no_mark_next : is_nonspacing (class_at (classes_of us) (suc k)) ≡ false
        no_mark_next = ap is_nonspacing next_is ∙ no_mark

        -- (c) a neutral after a neutral
        pub neutral_lemma : is_space (unit_at us k).class ≡ true → Drops (unit_levels most s) k u us
        neutral_lemma after =
            let q : is_quiet (unit_at us k).class ≡ true = space_is_quiet (unit_at us k).class after in
            unit_space_drops most s us k inside u space u_bare (ap is_quiet c_is ∙ q) none no_mark_next
            (inl (ap is_neutral (quiet_n0 k q none) ∙ space_w3 (unit_at us k).class after))

        -- (c) a neutral after a letter of the embedding direction
        pub directed_lemma : is_strong (unit_at us k).class ≡ true → by_w3 (unit_at us k).class ≡ direction_of s.level → Drops (unit_levels most s) k u us
        directed_lemma letter direction =
            unit_space_drops most s us k inside u space u_bare (ap is_quiet c_is ∙ letter_quiet (unit_at us k).class letter) none no_mark_next
            (inr (inr (letter_n0 k letter ∙ direction, direction_side s.level)))

        -- (c) a neutral between letters of one direction
        pub between_lemma : is_strong (unit_at us k).class ≡ true → suc k < length us → is_strong (unit_at us (suc k)).class ≡ true → by_w3 (unit_at us k).class ≡ by_w3 (unit_at us (suc k)).class →
            Drops (unit_levels most s) k u us
        between_lemma letter more following direction =
            let here = letter_n0 k letter in
            let there = letter_n0 (suc k) following in
            let l = letter_w3 (unit_at us k).class letter in
            let m = letter_w3 (unit_at us (suc k)).class following in
            let sides : OneSide (by_w3 (unit_at us k).class) (by_w3 (unit_at us (suc k)).class) = record { own = l.0; letter = l.1; next = m.1; agrees = m.0 ∙ sym direction } in
            let at_both : OneSide (class_at (after_n0 most s us weak) k) (class_at (after_n0 most s us weak) (suc k)) =
            rw (here, there) sides in
            unit_space_drops most s us k inside u space u_bare (ap is_quiet c_is ∙ letter_quiet (unit_at us k).class letter) none no_mark_next
            (inr (inl (long, at_both))) where
              long : suc k < length (after_n0 most s us weak)
              long = omega (arith, length-after_paired (direction_of s.level) s.sos (classes_of us) (closer_of (bracket_pairs_of most (acting_brackets us weak))) weak, length-after_weak s.sos (classes_of us), length-classes_of us)

    -- what may replace another
    module _ (v : BidiUnit) (u_bare : u.bracket ≡ No) (v_bare : v.bracket ≡ No) where
      abbrev Replaces : Type 0
      Replaces = unit_levels most s (put k u us) ≡ unit_levels most s (put k v us)

      swaps : is_nonspacing u.class ≡ false → is_nonspacing v.class ≡ false → after_weak s.sos (put k u.class (classes_of us)) ≡ after_weak s.sos (put k v.class (classes_of us)) → Replaces
      swaps a b e = unit_swaps most s us k u v u_bare v_bare (a ∙ sym b) e

      abbrev is : Class → Class → Type 0
      is a b = (u.class ≡ a) × (v.class ≡ b)

      swaps_to : (a b : Class) → is_nonspacing a ≡ false → is_nonspacing b ≡ false → (u.class ≡ a) → (v.class ≡ b) →
          after_weak s.sos (put k a (classes_of us)) ≡ after_weak s.sos (put k b (classes_of us)) → Replaces
      swaps_to a b m n e f w =
          swaps (ap is_nonspacing e ∙ m) (ap is_nonspacing f ∙ n)
          (ap (λ (x : Class). after_weak s.sos (put k x (classes_of us))) e ∙ w ∙ ap (λ (x : Class). after_weak s.sos (put k x (classes_of us))) (sym f))

      -- (d) CS or ES after a letter or a neutral is a neutral
      pub separator_lemma : is_separator_class u.class ≡ true → v.class ≡ ON → is_quiet (unit_at us k).class ≡ true → Replaces
      separator_lemma h f quiet =
          swaps_to u.class ON (separator_base u.class h) refl refl f
          (separator_is_neutral s.sos k u.class (classes_of us) h (ap is_quiet c_is ∙ quiet)) where
            separator_base : (c : Class) → is_separator_class c ≡ true → is_nonspacing c ≡ false
            separator_base NSM h = cc
            separator_base c h = refl

      -- (d) CS or ES after a letter, number or neutral is a neutral before what is no number and no mark
      pub separator_end_lemma : is_separator_class u.class ≡ true → v.class ≡ ON → is_firm (unit_at us k).class ≡ true → is_no_number (unit_at us (suc k)).class ≡ true → Replaces
      separator_end_lemma h f firm next_no =
          swaps_to u.class ON (separator_base u.class h) refl refl f
          (separator_ends s.sos k u.class (classes_of us) h (ap is_firm c_is ∙ firm) (ap is_no_number next_is ∙ next_no)) where
            separator_base : (c : Class) → is_separator_class c ≡ true → is_nonspacing c ≡ false
            separator_base NSM h = cc
            separator_base c h = refl

      -- (d) ET after a letter or a neutral is a neutral before a letter, a neutral or AN
      pub terminator_lemma : u.class ≡ ET → v.class ≡ ON → is_quiet (unit_at us k).class ≡ true → is_still (unit_at us (suc k)).class ≡ true → Replaces
      terminator_lemma e f quiet still =
          swaps_to ET ON refl refl e f (terminator_is_neutral s.sos k (classes_of us) (ap is_quiet c_is ∙ quiet) (ap is_still next_is ∙ still))

      -- (e) EN after a letter or a neutral, with L the last strong class, is an L before no mark, separator or terminator
      pub number_lemma : u.class ≡ EN → v.class ≡ L → is_quiet (unit_at us k).class ≡ true → (known_past (preceding_of s.sos) k (classes_of us)).strong ≡ L → is_apart (unit_at us (suc k)).class ≡ true → Replaces
      number_lemma e f quiet strong apart =
          swaps_to EN L refl refl e f (number_is_letter s.sos k (classes_of us) (ap is_quiet c_is ∙ quiet) strong (ap is_apart next_is ∙ apart))

      -- one CS between two EN is an EN
      pub comma_lemma : u.class ≡ CS → v.class ≡ EN → (unit_at us k).class ≡ EN → (unit_at us (suc k)).class ≡ EN → Replaces
      comma_lemma e f here there = swaps_to CS EN refl refl e f (separator_joins_en s.sos k (classes_of us) (record { here = c_is ∙ here; next = next_is ∙ there }))

      -- and between two AN an AN
      pub arabic_comma_lemma : u.class ≡ CS → v.class ≡ AN → (unit_at us k).class ≡ AN → (unit_at us (suc k)).class ≡ AN → Replaces
      arabic_comma_lemma e f here there = swaps_to CS AN refl refl e f (separator_joins_an s.sos k (classes_of us) (record { here = c_is ∙ here; next = next_is ∙ there }))

      -- ET after an EN that is none after AL, before no mark and no separator, is an EN
      pub percent_lemma : u.class ≡ ET → v.class ≡ EN → (unit_at us k).class ≡ EN → by_w2 (known_past (preceding_of s.sos) k (classes_of us)).strong EN ≡ EN → is_close (unit_at us (suc k)).class ≡ true → Replaces
      percent_lemma e f here stays close = swaps_to ET EN refl refl e f (terminator_joins s.sos k (classes_of us) (c_is ∙ here) stays (ap is_close next_is ∙ close))

-- what may be dropped may be dropped before a mark too
put-put : {A : Type 0} (k : ℕ) (u m : A) (us : List A) → put k u (put k m us) ≡ put (suc k) m (put k u us)
put-put k u m [] = refl
put-put zero u m (v ∷ us) = refl
put-put (suc k) u m (v ∷ us) = ap (λ ws. v ∷ ws) (put-put k u m us)

twice-twice : {A : Type 0} (k : ℕ) (xs : List A) → twice (suc k) (twice k xs) ≡ twice k (twice k xs)
twice-twice k [] = refl
twice-twice zero (x ∷ xs) = refl
twice-twice (suc k) (x ∷ xs) = ap (λ ys. x ∷ ys) (twice-twice k xs)

unit-put : (k : ℕ) (u : BidiUnit) (us : List BidiUnit) → k < length us → unit_at (put k u us) (suc k) ≡ u
unit-put k u us h = at-put k u us no_unit h

pub before_mark_lemma : (most : ℕ) (s : SequenceView) (us : List BidiUnit) (k : ℕ) → k < length us → (u m : BidiUnit) → m.class ≡ NSM → may_repeat u.class ≡ true → may_repeat (unit_at us k).class ≡ true →
    Drops (unit_levels most s) k u us → Drops (unit_levels most s) k u (put k m us)
before_mark_lemma most s us k inside u m mark may here drops =
    let F : List BidiUnit → List ℕ = unit_levels most s in
    let n = length-put k u us in
    let far : suc k < length (put k u us) = omega (arith, length-put k u us, long_put k us inside) in
    let after : may_repeat (unit_at (put k u us) (suc k)).class ≡ true = ap (λ (w : BidiUnit). may_repeat w.class) (unit-put k u us inside) ∙ may in
    ap F (put-put k u m us)
    ∙ mark_lemma most s (put k u us) (suc k) far m mark after
    ∙ ap (twice (suc k)) drops ∙ twice-twice k (F us)
    ∙ ap (twice k) (sym (mark_lemma most s us k inside m mark here)) where
      long_put : (k : ℕ) (us : List BidiUnit) → k < length us → skip k (length us) ≡ suc (length us)
      long_put k us h = skip_high k (length us) h
