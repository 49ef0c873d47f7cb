use Rattle.std.proofs.Common.{◌<◌, ℕ, slice_index}
use Rattle.for_c.specs.Fronts.{IsLevelNumber}
use Rattle.for_c.proofs.fronts.check_levels.Given as goal

-- each number before i is that of a level
abbrev pub invariant-loop-i : goal.invariant-loop-i
invariant-loop-i l = (k : ℕ) → k < l.i → IsLevelNumber (slice_index l.levels k)
