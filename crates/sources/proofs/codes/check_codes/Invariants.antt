use Rattle.std.proofs.Common.{◌<◌, ℕ, slice_index}
use Rattle.std.specs.Char.{IsScalar}
use Rattle.sources.proofs.codes.check_codes.Given as goal

-- each code point before i is a scalar value
abbrev pub invariant-loop-i : goal.invariant-loop-i
invariant-loop-i l = (k : ℕ) → k < l.i → IsScalar (slice_index l.codes k)
