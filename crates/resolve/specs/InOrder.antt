-- The result of the rules for a sequence when they are called one after another (W1 to I2).
use Rattle.std.specs.Prelude.{Option, ℕ, ◌≡◌, List}
use Rattle.units.specs.Classes.{classes_at}
use Rattle.units.specs.Neutral.{after_neutral}
use Rattle.units.specs.Runs.{SequenceView, direction_of}
use Rattle.units.specs.Weak.{after_weak}
use Rattle.units.specs.declared.bracket.Unit.{Unit as BidiUnit}
use Rattle.units.specs.declared.class.Class.{Class}
use Rattle.resolve.specs.Paired.{HoldsPairsAfterWeak, RewritesByPairs}
use Rattle.resolve.specs.Pairs.{HoldsPairs}
use Rattle.resolve.specs.Raised.{Raises}
use Rattle.resolve.specs.Resolved.{Resolves}
use Rattle.resolve.specs.Rewritten.{Rewrites}

-- the columns of a paragraph after each call: its classes, closers of bracket pairs, and levels
pub record AfterEach : Type 0 where
  pub weak : List Class
  pub closers : List (Option ℕ)
  pub paired : List Class
  pub neutral : List Class
  pub levels : List (Option ℕ)

-- `weak`, `bracket_pairs`, `paired`, `neutral` and `implicit` give these columns, each from those of the calls before
-- it. The old columns are a copy of the classes before W1, and any levels.
pub record AreColumnsInOrder (most_open : ℕ) (s : SequenceView) (us : List BidiUnit) (before old_classes : List Class)
    (old_levels : List (Option ℕ)) (after : AfterEach) : Type 0 where
  pub copy : classes_at old_classes s.positions ≡ classes_at before s.positions
  pub weak : Rewrites (after_weak s.sos) s.positions old_classes after.weak
  pub closers : HoldsPairs most_open s.positions us after.weak after.closers
  pub paired : RewritesByPairs s before after.closers after.weak after.paired
  pub neutral : Rewrites (after_neutral (direction_of s.level) s.sos s.eos) s.positions after.paired after.neutral
  pub levels : Raises s.level after.neutral s.positions old_levels after.levels

-- the last columns are those that `resolve_sequence` gives for the same old columns, with the pairs
pub record AreResolved (most_open : ℕ) (s : SequenceView) (us : List BidiUnit) (before old_classes : List Class)
    (old_levels : List (Option ℕ)) (after : AfterEach) : Type 0 where
  pub resolved : Resolves most_open s us before old_classes after.neutral old_levels after.levels
  pub pairs : HoldsPairsAfterWeak most_open s us before after.closers
