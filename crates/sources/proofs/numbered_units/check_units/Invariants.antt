use Rattle.std.proofs.Common.{◌<◌, ℕ}
use Rattle.sources.specs.NumberedUnits.{IsNumbered, numbers_at}
use Rattle.sources.proofs.numbered_units.check_units.Given as goal

-- each unit before i has such numbers
abbrev pub invariant-loop-i : goal.invariant-loop-i
invariant-loop-i l = (k : ℕ) → k < l.i → IsNumbered (numbers_at l.numbered k)
