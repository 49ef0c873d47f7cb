use Rattle.std.proofs.Common.{◌<◌, ◌≤◌, ℕ, slice_index}
use Rattle.sources.specs.Kinds.{IsNoSurrogate}
use Rattle.sources.proofs.codes.have_no_surrogate.Given as goal

-- if the least difference so far is that of no surrogate, no number before this one is a surrogate
abbrev pub invariant-loop-code : goal.invariant-loop-code
invariant-loop-code l = 2048 ≤ l.least → (k : ℕ) → k < l.code-index → IsNoSurrogate (slice_index l.codes k)
