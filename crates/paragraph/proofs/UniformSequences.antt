-- A sequence that keeps its level has its resolved levels once its positions have this level (W1 to I2).
use Rattle.std.specs.Prelude.{Option, Some, ℕ, ◌≡◌, List, Contains, slice_index}
use Rattle.std.proofs.Common.{arith, ap, sym, ◌∙◌}
use Rattle.std.proofs.lemmas.List.{get_or-map}
use Rattle.units.specs.Classes.{classes_at}
use Rattle.units.specs.Runs.{SequenceView}
use Rattle.units.specs.declared.bracket.Unit.{Unit as BidiUnit}
use Rattle.units.specs.declared.class.Class.{Class}
use Rattle.units.specs.declared.class.Class.TheVariants.{L}
use Rattle.explicit.specs.FlatTheorems.{IsUniformSequence}
use Rattle.explicit.proofs.Staying.{levels_of_sequence-uniform}
use Rattle.resolve.specs.Raised.{resolved_at}
use Rattle.resolve.specs.Resolved.{HasLevels}
use Rattle.resolve.proofs.Gathered.{contains_index, length-classes_at}

pub has_levels : (s : SequenceView) (before : List Class) (levels : List (Option ℕ)) →
    IsUniformSequence s (classes_at before s.positions) →
    ((p : ℕ) → Contains s.positions p → resolved_at levels p ≡ Some s.level) →
    (most_open : ℕ) (us : List BidiUnit) → HasLevels most_open s us before levels
has_levels s before levels is given most_open us k lt =
    let cs : List Class = classes_at before s.positions in
    given (slice_index s.positions k) (contains_index s.positions k lt)
    ∙ ap Some (sym (ap (λ (ns : List ℕ). slice_index ns k) (levels_of_sequence-uniform most_open s us cs is)
    ∙ get_or-map (λ (c : Class). s.level) cs k L 0 (omega (arith, lt, length-classes_at before s.positions))))
