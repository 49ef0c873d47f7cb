-- No level of a layout is above 126.
use Rattle.std.proofs.Common.{◌≡◌, ℕ, ◌≤◌, ◌==◌, inl, inr, take, Bool, true, false, cond, Option, Some, None, List, [], ◌∷◌, length, map, filter, unwrap_or, slice_index_or, sym, arith, subst}
use Rattle.std.specs.Prelude.{IfSome, find, nat_eq, count_by}
use Rattle.std.proofs.lemmas.Bool.{cases_lt}
use Rattle.std.proofs.lemmas.Bool.Decides.{nat_tests}
use Rattle.std.proofs.lemmas.List.{get_or_past}
use Rattle.std.specs.List.{All, flat_map, zip}
use Rattle.std.specs.Option.{option_map}
use Rattle.std.proofs.lemmas.List.Elements.{All-nil, All-cons, All-head, All-tail, All-append, All-map, All-weaker}
use Rattle.units.specs.Classes.{classes_of, classes_at, is_separator}
use Rattle.units.specs.Explicit.{explicit_of}
use Rattle.units.specs.Implicit.{rise_at_even, rise_at_odd, implicit_level}
use Rattle.units.specs.Isolates.{para_level_of}
use Rattle.units.specs.Layout.{value_beside, levels_in, after_rules, resolved_levels, text_levels, para_levels_of, layout_of, current_of}
use Rattle.units.specs.Limits.{LimitsOf}
use Rattle.units.specs.Paragraphs.{paragraphs_of}
use Rattle.units.specs.Positions.{positions_of}
use Rattle.units.specs.Reordering.{after_resets, reset_to, para_level_at, is_reset}
use Rattle.units.specs.Runs.{LeveledView, SequenceView, leveled_of, level_of, sequence_at, sequences_of, begins_sequence}
use Rattle.units.specs.declared.bracket.Unit.{Unit as BidiUnit}
use Rattle.units.specs.declared.class.Class.{Class}
use Rattle.units.specs.declared.class.Class.TheVariants.{L, R, EN, AN}
use Rattle.units.specs.declared.level.Direction.{Direction}
use Rattle.explicit.specs.Leveled.{IsLeveled}
use Rattle.explicit.proofs.LevelsComputed.Leveled.{leveled}
use Rattle.lines.proofs.RemovedLevels.{para_level-low}
use Rattle.rows.proofs.Items.{all-of-every}

-- a level is at most 126, if there is one
abbrev pub IsLevel : Option ℕ → Type 0
IsLevel level = IfSome level (λ n. n ≤ 126)

-- the level of a position is at most 126
abbrev IsLow : ℕ × ℕ → Type 0
IsLow found = found.1 ≤ 126

rise-even : (c : Class) → rise_at_even c ≤ 2
rise-even R = omega arith
rise-even AN = omega arith
rise-even EN = omega arith
rise-even _ = omega arith

rise-odd : (c : Class) → rise_at_odd c ≤ 1
rise-odd L = omega arith
rise-odd AN = omega arith
rise-odd EN = omega arith
rise-odd _ = omega arith

raised : (level : ℕ) (c : Class) → level ≤ 125 → implicit_level level c ≤ 126
raised level c within = let e = rise-even c in let o = rise-odd c in grind (arith, nat_tests)

low-zip : (ps : List ℕ) (level : ℕ) (cs : List Class) → level ≤ 125 → All IsLow (zip ps (map (implicit_level level) cs))
low-zip [] level cs within = All-nil IsLow
low-zip (p ∷ ps) level [] within = All-nil IsLow
low-zip (p ∷ ps) level (c ∷ cs) within =
    All-cons IsLow (p, implicit_level level c) (zip ps (map (implicit_level level) cs)) (raised level c within)
    (low-zip ps level cs within)

-- what is true of all elements of each piece is true of all elements of the joined list
module _ {A B : Type 0} (P : B → Type 0) (f : A → List B) where
  pub All-flat_map : (xs : List A) → All (λ x. All P (f x)) xs → All P (flat_map f xs)
  All-flat_map [] each = All-nil P
  All-flat_map (x ∷ xs) each =
      All-append P (f x) (flat_map f xs) (All-head (λ y. All P (f y)) x xs each)
      (All-flat_map xs (All-tail (λ y. All P (f y)) x xs each))

found-low : (found : List (ℕ × ℕ)) (p : ℕ) → All IsLow found → IsLevel (value_beside found p)
found-low [] p low = tt
found-low (x ∷ found) p low =
    elim (nat_eq x.0 p) as (λ b.
    IsLevel (option_map (λ (y : ℕ × ℕ). y.1) (cond b (Some x) (find (λ (y : ℕ × ℕ). y.0 == p) found)))) [
      | true ↦ All-head IsLow x found low
      | false ↦ found-low found p (All-tail IsLow x found low)
    ]

level-or : (o : Option ℕ) (base : ℕ) → IfSome o (λ l. l ≤ 125) → base ≤ 1 → unwrap_or o base ≤ 125
level-or None base h low = omega arith
level-or (Some l) base h low = h

-- X10: the level of a sequence is at most 125
abbrev IsShallow : SequenceView → Type 0
IsShallow s = s.level ≤ 125

sequences-shallow : (t : LeveledView) → IsLeveled t → All IsShallow (sequences_of t)
sequences-shallow t leveled =
    All-map IsShallow (sequence_at t) (filter (begins_sequence t) (positions_of t.levels))
    (all-of-every (λ p. IsShallow (sequence_at t p)) (λ p.
    level-or (level_of t p) t.base (leveled.levels_within p) leveled.base_within)
    (filter (begins_sequence t) (positions_of t.levels)))

resolved-low : (limits : LimitsOf) (us : List BidiUnit) (para : ℕ) → limits.depth ≤ 125 → para ≤ 1 →
    All IsLevel (resolved_levels limits us para)
unfolding resolved_levels
resolved-low limits us para deep low =
    let cs = classes_of us in
    let current = current_of (explicit_of limits.depth cs para) in
    let sequences = sequences_of (leveled_of limits.depth cs para) in
    let found : List (ℕ × ℕ) = flat_map (levels_in limits.brackets us current) sequences in
    let each : All (λ s. All IsLow (levels_in limits.brackets us current s)) sequences =
    All-weaker IsShallow (λ s. All IsLow (levels_in limits.brackets us current s))
    (λ s shallow. low-zip s.positions s.level (after_rules limits.brackets s us (classes_at current s.positions))
    shallow) sequences
    (sequences-shallow (leveled_of limits.depth cs para) (leveled limits.depth cs para deep low)) in
    All-map IsLevel (value_beside found) (positions_of us)
    (all-of-every (λ p. IsLevel (value_beside found p)) (λ p.
    found-low found p (All-flat_map IsLow (levels_in limits.brackets us current) sequences each)) (positions_of us))

text-low : (limits : LimitsOf) (text : List BidiUnit) (direction : Direction) → limits.depth ≤ 125 →
    All IsLevel (text_levels limits text direction)
text-low limits text direction deep =
    let resolved : List BidiUnit → List (Option ℕ) =
    λ us. resolved_levels limits us (para_level_of (classes_of us) direction) in
    All-flat_map IsLevel resolved (paragraphs_of text)
    (all-of-every (λ us. All IsLevel (resolved us)) (λ us.
    resolved-low limits us (para_level_of (classes_of us) direction) deep
    (para_level-low (classes_of us) direction)) (paragraphs_of text))

paras-low : (text : List BidiUnit) (direction : Direction) (k : ℕ) →
    slice_index_or (para_levels_of text direction) k 0 ≤ 126
paras-low text direction k =
    elim (cases_lt k (length (para_levels_of text direction))) [
      | inl lt ↦ (
          let low : All (λ n. n ≤ 1) (para_levels_of text direction) =
          All-map (λ n. n ≤ 1) (λ us. para_level_of (classes_of us) direction) (paragraphs_of text)
          (all-of-every (λ us. para_level_of (classes_of us) direction ≤ 1) (λ us.
          para_level-low (classes_of us) direction) (paragraphs_of text)) in
          let here : slice_index_or (para_levels_of text direction) k 0 ≤ 1 = low k 0 lt in
          omega arith)
      | inr past ↦ (let e : slice_index_or (para_levels_of text direction) k 0 ≡ 0 =
          get_or_past (para_levels_of text direction) k 0 past in omega arith)
    ]

reset-low : (reset : Bool) (para : ℕ) (level : Option ℕ) → para ≤ 126 → IsLevel level →
    IsLevel (reset_to reset para level)
reset-low reset para None low h = tt
reset-low true para (Some level) low h = low
reset-low false para (Some level) low h = h

level-at : (levels : List (Option ℕ)) (p : ℕ) → All IsLevel levels → IsLevel (slice_index_or levels p None)
level-at levels p each =
    elim (cases_lt p (length levels)) [
      | inl lt ↦ each p None lt
      | inr past ↦ subst IsLevel (sym (get_or_past levels p None past)) tt
    ]

pub levels-low : (limits : LimitsOf) (text : List BidiUnit) (direction : Direction) (breaks : List ℕ) →
    limits.depth ≤ 125 → All IsLevel (layout_of limits text direction breaks).levels
unfolding layout_of after_resets
levels-low limits text direction breaks deep =
    let own = classes_of text in
    let paras = para_levels_of text direction in
    let levels = text_levels limits text direction in
    let reset : ℕ → Option ℕ =
    λ p. reset_to (is_reset own breaks p) (para_level_at own paras p) (slice_index_or levels p None) in
    All-map IsLevel reset (positions_of levels)
    (all-of-every (λ p. IsLevel (reset p))
    (λ p. reset-low (is_reset own breaks p) (para_level_at own paras p) (slice_index_or levels p None)
    (paras-low text direction (count_by is_separator (take p own)))
    (level-at levels p (text-low limits text direction deep))) (positions_of levels))
