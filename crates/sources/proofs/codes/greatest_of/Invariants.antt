use Rattle.std.proofs.Common.{◌<◌, ◌≤◌, ℕ, slice_index}
use Rattle.sources.proofs.codes.greatest_of.Given as goal

-- no number before this one is greater
abbrev pub invariant-loop-code : goal.invariant-loop-code
invariant-loop-code l = (k : ℕ) → k < l.code-index → slice_index l.codes k ≤ l.greatest
