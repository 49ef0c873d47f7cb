use Rattle.std.proofs.Common.{◌<◌, ℕ, slice_index}
use Rattle.sources.specs.ClassNumbers.{IsClassNumber}
use Rattle.sources.proofs.class_numbers.check_classes.Given as goal

-- each number before i is that of a class
abbrev pub invariant-loop-i : goal.invariant-loop-i
invariant-loop-i l = (k : ℕ) → k < l.i → IsClassNumber (slice_index l.numbers k)
