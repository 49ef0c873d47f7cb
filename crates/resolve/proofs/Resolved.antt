-- The levels of a sequence, from its last classes.
use Rattle.std.specs.Prelude.{Option, ℕ, ◌≡◌, List}
use Rattle.std.proofs.Common.{arith}
use Rattle.std.proofs.lemmas.List.{get_or-map}
use Rattle.units.specs.Classes.{classes_at}
use Rattle.units.specs.Layout.{after_rules}
use Rattle.units.specs.Runs.{SequenceView}
use Rattle.units.specs.declared.bracket.Unit.{Unit as BidiUnit}
use Rattle.units.specs.declared.class.Class.{Class}
use Rattle.resolve.specs.Raised.{Raises}
use Rattle.resolve.specs.Resolved.{HasLevels}
use Rattle.resolve.proofs.Gathered.{contains_index, length-classes_at, class_at-classes_at}

pub levels_from : (most_open : ℕ) (s : SequenceView) (us : List BidiUnit) (before last : List Class)
    (old new : List (Option ℕ)) →
    classes_at last s.positions ≡ after_rules most_open s us (classes_at before s.positions) →
    Raises s.level last s.positions old new → HasLevels most_open s us before new
levels_from most_open s us before last old new e r k h =
    grind (arith, length-classes_at, contains_index, class_at-classes_at, get_or-map)
