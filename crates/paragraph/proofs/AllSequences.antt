-- The sequences of a paragraph after X1 to X9 cover it, and their levels are its resolved levels.
use Rattle.std.specs.Prelude.{Option, Some, None, ℕ, zero, suc, ◌<◌, ◌≤◌, ◌≡◌, List, length, map, filter, take, slice_index}
use Rattle.std.specs.List.{All, flat_map}
use Rattle.std.proofs.Common.{arith, ap, sym, ◌∙◌, subst}
use Rattle.std.proofs.lemmas.List.{length-map, get_or-map, ext_get_or}
use Rattle.std.proofs.lemmas.List.Elements.{All-map, All-filter, All-from_get_or, All-weaker}
use Rattle.std.proofs.lemmas.List.Sums.{length-filter, count_by-le-length}
use Rattle.units.specs.Classes.{classes_of}
use Rattle.units.specs.Explicit.{explicit_of}
use Rattle.units.specs.Layout.{current_of, levels_in, value_beside, resolved_levels}
use Rattle.units.specs.Limits.{LimitsOf}
use Rattle.units.specs.Paragraphs.{SeparatorOnlyLast}
use Rattle.units.specs.Positions.{positions_of}
use Rattle.units.specs.Runs.{SequenceView, LeveledView, leveled_of, size_of, begins_sequence, followed, successor, sequence_from, sequence_at, sequences_of}
use Rattle.units.specs.declared.bracket.Unit.{Unit as BidiUnit}
use Rattle.units.specs.declared.class.Class.{Class}
use Rattle.explicit.specs.ExplicitLevels.{HoldsLevels}
use Rattle.explicit.proofs.Matched.AtMostOne.{at_most_one}
use Rattle.explicit.proofs.LevelsComputed.InsideIsolates.{nested}
use Rattle.explicit.proofs.LevelsComputed.Leveled.{leveled, size-is}
use Rattle.units.proofs.Positions.{length-positions_from, get_or-positions_from}
use Rattle.sequences.specs.Links.{ArePositions}
use Rattle.sequences.specs.Once.{HoldsOnce}
use Rattle.sequences.proofs.FilledFrom.{computed_front}
use Rattle.sequences.proofs.Fits.{length-flat, sequences_fit}
use Rattle.sequences.proofs.Forward.{successor_later}
use Rattle.sequences.proofs.Links.{followed_rises, rising_positions}
use Rattle.sequences.proofs.Once.{sequences_hold_once}
use Rattle.resolve.proofs.OwnClasses.{current-own}
use Rattle.paragraph.specs.Covering.{AreDisjoint, HasLevelsBy, HavePositions}
use Rattle.resolve.specs.Wanted.{AreOwn}

firsts_are_positions : (t : LeveledView) →
    All (λ p. p < size_of t) (filter (begins_sequence t) (positions_of t.levels))
firsts_are_positions t =
    All-filter (begins_sequence t) (λ p. p < size_of t) (positions_of t.levels)
    (All-from_get_or (λ p. p < size_of t) (positions_of t.levels) 0
    (λ i h.
    let n : length (positions_of t.levels) ≡ size_of t = length-positions_from 0 (size_of t) in
    omega (arith, get_or-positions_from 0 (size_of t) i 0 (omega arith))))

followed_some : (next : ℕ → Option ℕ) (most p : ℕ) → 0 < most → 0 < length (followed next most (Some p))
followed_some next zero p some = some
followed_some next (suc most) p some = omega arith

-- a sequence has the position that it begins at
pub sequences_have_positions : (t : LeveledView) → HavePositions (sequences_of t)
sequences_have_positions t =
    let firsts : List ℕ = filter (begins_sequence t) (positions_of t.levels) in
    All-map (λ (s : SequenceView). 0 < length s.positions) (sequence_at t) firsts
    (All-weaker (λ p. p < size_of t) (λ p. 0 < length (sequence_from t p))
    (λ p h. followed_some (successor t) (size_of t) p (omega (arith, h))) firsts (firsts_are_positions t))

-- the sequences of a paragraph share no position
module _ (depth : ℕ) (deep : depth ≤ 125) (us : List BidiUnit) (para : ℕ) (low : para ≤ 1)
    (only : SeparatorOnlyLast us) where
  abbrev leveled_here : LeveledView
  leveled_here = leveled_of depth (classes_of us) para

  size_here : size_of leveled_here ≡ length us
  size_here = size-is depth (classes_of us) para ∙ length-map us (λ (u : BidiUnit). u.class)

  abbrev firsts : List ℕ
  firsts = filter (begins_sequence leveled_here) (positions_of leveled_here.levels)

  firsts_below : All (λ p. p < size_of leveled_here) firsts
  firsts_below = firsts_are_positions leveled_here

  inside : (p : ℕ) → p < size_of leveled_here → All (λ q. q < length us) (sequence_from leveled_here p)
  inside p h =
      let are : ArePositions (sequence_from leveled_here p) (size_of leveled_here) =
      rising_positions (size_of leveled_here) (sequence_from leveled_here p)
      (followed_rises (successor leveled_here) (size_of leveled_here)
      (successor_later leveled_here (leveled depth (classes_of us) para deep low)) p h) in
      All-from_get_or (λ q. q < length us) (sequence_from leveled_here p) 0 (λ i g. omega (
        arith,
        are.within i g,
        size_here,
      ))

  pub sequences_are_apart : AreDisjoint (length us) (sequences_of leveled_here)
  sequences_are_apart =
      let l = leveled depth (classes_of us) para deep low in
      let once : HoldsOnce leveled_here (sequences_of leveled_here) =
      sequences_hold_once leveled_here l (nested depth us para only) in
      let count : length (sequences_of leveled_here) ≡ length firsts = length-map firsts (sequence_at leveled_here) in
      let n : length (positions_of leveled_here.levels) ≡ size_of leveled_here =
      length-positions_from 0 (size_of leveled_here) in
      record {
        extents = All-map (λ (s : SequenceView). s.extent ≡ length us) (sequence_at leveled_here) firsts
            (All-weaker (λ p. p < size_of leveled_here) (λ p. size_of leveled_here ≡ length us) (λ p h.
            size_here) firsts firsts_below);
        within = All-map (λ (s : SequenceView). All (λ q. q < length us) s.positions) (sequence_at leveled_here) firsts
            (All-weaker (λ p. p < size_of leveled_here) (λ p.
            All (λ q. q < length us) (sequence_from leveled_here p)) inside firsts firsts_below);
        once = λ p h. omega (
          arith,
          once p (omega (arith, size_here)),
          at_most_one (Rattle.units.specs.Runs.remains leveled_here p),
        );
        few = omega (
          arith,
          count,
          length-filter (begins_sequence leveled_here) (positions_of leveled_here.levels),
          count_by-le-length (begins_sequence leveled_here) (positions_of leveled_here.levels),
          n,
          size_here,
        );
        fit = omega (
          arith,
          length-flat (sequences_of leveled_here),
          sequences_fit leveled_here l (nested depth us para only),
          size_here,
        );
      }

-- the current classes are the own ones, except for overrides and removed positions
pub classes_are_unchanged : (depth : ℕ) (us : List BidiUnit) (para : ℕ) (ps : List ℕ) →
    AreOwn ps us (current_of (explicit_of depth (classes_of us) para))
classes_are_unchanged depth us para ps = λ p within. current-own depth (classes_of us) para p

pub levels_are_resolved : (limits : LimitsOf) (us : List BidiUnit) (para : ℕ) (levels : List (Option ℕ)) →
    length levels ≡ length us →
    HasLevelsBy limits.brackets us (current_of (explicit_of limits.depth (classes_of us) para))
    (sequences_of (leveled_of limits.depth (classes_of us) para)) levels → levels ≡ resolved_levels limits us para
unfolding resolved_levels
levels_are_resolved limits us para levels n has =
    let cs : List Class = classes_of us in
    let found : ℕ → Option ℕ =
    value_beside (flat_map (levels_in limits.brackets us (current_of (explicit_of limits.depth cs para)))
    (sequences_of (leveled_of limits.depth cs para))) in
    let m : length (positions_of us) ≡ length us = length-positions_from 0 (length us) in
    let k : length (map found (positions_of us)) ≡ length (positions_of us) = length-map (positions_of us) found in
    ext_get_or None levels (map found (positions_of us)) (omega arith)
    (λ i h.
    let at : slice_index (positions_of us) i ≡ i =
    omega (arith, get_or-positions_from 0 (length us) i 0 (omega arith)) in
    has i (omega arith) ∙ ap found (sym at) ∙ sym (get_or-map found (positions_of us) i 0 None (omega arith)))

-- a paragraph whose explicit levels are known
module _ (limits : LimitsOf) (us : List BidiUnit) (para : ℕ) (explicit : List (Option (ℕ × Class)))
    (holds : HoldsLevels explicit limits.depth (classes_of us) para) where
  front : current_of (take (length us) explicit) ≡ current_of (explicit_of limits.depth (classes_of us) para)
  front = grind (arith, length-map, computed_front)

  pub computed_own : (ps : List ℕ) → AreOwn ps us (current_of (take (length us) explicit))
  computed_own ps = subst (AreOwn ps us) (sym front) (classes_are_unchanged limits.depth us para ps)

  pub computed_levels : (all : List SequenceView) (levels : List (Option ℕ)) →
      all ≡ sequences_of (leveled_of limits.depth (classes_of us) para) → length levels ≡ length us →
      HasLevelsBy limits.brackets us (current_of (take (length us) explicit)) all levels →
      levels ≡ resolved_levels limits us para
  computed_levels all levels e n has = grind (arith, levels_are_resolved, front)
