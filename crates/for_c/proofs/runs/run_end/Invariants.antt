use Rattle.std.proofs.Common.{◌≡◌, ◌≤◌, ◌<◌, ℕ}
use Rattle.for_c.specs.Runs.{byte_at}
use Rattle.for_c.proofs.runs.run_end.Given as goal

-- the places before this one have the level of the first
abbrev pub invariant-loop-end : goal.invariant-loop-end
invariant-loop-end l = (i : ℕ) → l.from ≤ i → i < l.end → byte_at l.levels l.order i ≡ byte_at l.levels l.order l.from
