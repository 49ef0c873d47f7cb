-- A position has no resolved level exactly if it is removed.
use Rattle.std.specs.Prelude.{Option, Some, None, ℕ, ◌<◌, ◌≤◌, ◌≡◌, Bool, true, false, not, if◌then◌else◌, List, [], ◌∷◌, length, is_none, is_some, slice_index, slice_index_or, refl}
use Rattle.std.specs.List.{flat_map}
use Rattle.std.specs.Option.{option_map}
use Rattle.std.proofs.Common.{arith, ap, ◌∙◌, inl, inr}
use Rattle.std.proofs.lemmas.Bool.{cases_lt, cond-true, cond-false}
use Rattle.std.proofs.lemmas.List.{get_or-map, length-map}
use Rattle.units.specs.Classes.{class_at, classes_at, classes_of, is_removed}
use Rattle.units.specs.Explicit.{explicit_at, explicit_of}
use Rattle.units.specs.Layout.{current_of, value_beside, levels_in, levels_of_sequence, resolved_levels}
use Rattle.units.specs.Limits.{LimitsOf, AreAllowed}
use Rattle.units.specs.Paragraphs.{SeparatorOnlyLast}
use Rattle.units.specs.Positions.{positions_of}
use Rattle.units.specs.Runs.{LeveledView, SequenceView, leveled_of, remains, sequences_of}
use Rattle.units.specs.declared.bracket.Unit.{Unit as BidiUnit}
use Rattle.units.specs.declared.class.Class.{Class}
use Rattle.units.proofs.Lengths.{length-levels_of_sequence}
use Rattle.explicit.proofs.LevelsComputed.InsideIsolates.{nested}
use Rattle.explicit.proofs.LevelsComputed.Leveled.{leveled, level-read, size-is}
use Rattle.explicit.proofs.LevelsComputed.ExplicitAt.{explicit-none}
use Rattle.units.proofs.Positions.{length-positions_from, get_or-positions_from}
use Rattle.sequences.specs.Once.{times}
use Rattle.sequences.proofs.Once.{sequences_hold_once, times-append}
use Rattle.paragraph.specs.Covering.{positions_in}
use Rattle.paragraph.proofs.Covering.{unfound}
use Rattle.paragraph.proofs.ComputedBeside.{found-append, found-append_some, zip_none, zip_some}

-- a position of one of the sequences gets a level
module _ (most_open : ℕ) (us : List BidiUnit) (before : List Class) where
  position_has_level : (all : List SequenceView) (p : ℕ) → 0 < times (positions_in all) p →
      is_none (value_beside (flat_map (levels_in most_open us before) all) p) ≡ false
  position_has_level [] p some = absurd (omega (arith, some))
  position_has_level (s ∷ all) p some =
      let values : List ℕ = levels_of_sequence most_open s us (classes_at before s.positions) in
      let long : length values ≡ length s.positions =
      length-levels_of_sequence most_open s us (classes_at before s.positions) ∙
      length-map s.positions (class_at before) in
      let t = times-append s.positions (positions_in all) p in
      let later : List (ℕ × ℕ) = flat_map (levels_in most_open us before) all in
      elim (cases_lt 0 (times s.positions p)) [
        | inl here ↦
            (let w = zip_some s.positions values p long here 0 in
            ap is_none (found-append_some (levels_in most_open us before s) later p (slice_index values w.0) w.3))
        | inr none ↦
            ap is_none (found-append (levels_in most_open us before s) later p
            (zip_none s.positions values p (omega arith))) ∙ position_has_level all p (omega arith)
      ]

some-map : (leveled : Option (ℕ × Class)) → is_some (option_map (λ x. x.0) leveled) ≡ not (is_none leveled)
some-map None = refl
some-map (Some x) = refl

module _ (limits : LimitsOf) (allowed : AreAllowed limits) (us : List BidiUnit) (para_level : ℕ) (low : para_level ≤ 1)
    (only : SeparatorOnlyLast us) (p : ℕ) (within : p < length us) where
  abbrev here : LeveledView
  here = leveled_of limits.depth (classes_of us) para_level

  inside : p < length (classes_of us)
  inside = omega (arith, length-map us (λ (u : BidiUnit). u.class))

  remains_is : remains here p ≡ not (is_removed (class_at (classes_of us) p))
  remains_is =
      ap is_some (level-read limits.depth (classes_of us) para_level p inside)
      ∙ some-map (explicit_at limits.depth (classes_of us) para_level p)
      ∙ ap not (explicit-none limits.depth (classes_of us) para_level p)

  stored : times (positions_in (sequences_of here)) p ≡ (if remains here p then 1 else 0)
  stored =
      sequences_hold_once here (leveled limits.depth (classes_of us) para_level allowed.depth_within low)
      (nested limits.depth us para_level only) p
      (omega (arith, size-is limits.depth (classes_of us) para_level, inside))

  abbrev current : List Class
  current = current_of (explicit_of limits.depth (classes_of us) para_level)

  abbrev value_at : ℕ → Option ℕ
  value_at = value_beside (flat_map (levels_in limits.brackets us current) (sequences_of here))

  no_level_if : (removed : Bool) → is_removed (class_at (classes_of us) p) ≡ removed → is_none (value_at p) ≡ removed
  no_level_if true e =
      let gone : remains here p ≡ false = remains_is ∙ ap not e in
      ap is_none (unfound limits.brackets us current (sequences_of here) p (stored ∙
      cond-false {A = ℕ} (remains here p) 1 0 gone))
  no_level_if false e =
      let stays : remains here p ≡ true = remains_is ∙ ap not e in
      position_has_level limits.brackets us current (sequences_of here) p (omega (
        arith,
        stored,
        cond-true {A = ℕ} (remains here p) 1 0 stays,
      ))

  resolved_is : slice_index_or (resolved_levels limits us para_level) p None ≡ value_at p
  unfolding resolved_levels
  resolved_is =
      let m : length (positions_of us) ≡ length us = length-positions_from 0 (length us) in
      let at : slice_index (positions_of us) p ≡ p = omega (arith, get_or-positions_from 0 (length us) p 0 within) in
      get_or-map value_at (positions_of us) p 0 None (omega arith) ∙ ap value_at at

  -- X9: none exactly if the position is removed
  pub resolved_none : is_none (slice_index_or (resolved_levels limits us para_level) p None) ≡
      is_removed (class_at (classes_of us) p)
  resolved_none = ap is_none resolved_is ∙ no_level_if (is_removed (class_at (classes_of us) p)) refl
