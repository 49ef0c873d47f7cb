use Rattle.std.proofs.Common.{◌≡◌, ◌+◌, ◌==◌, length, slice_index_or}
use Rattle.resolve.specs.Stack.{topmost_of, blank}
use Rattle.units.specs.Positions.{last_below}
use Rattle.resolve.proofs.bracket_stack.topmost.Given as goal

-- none from i on has the key
abbrev pub invariant-loop-i : goal.invariant-loop-i
invariant-loop-i g l =
    (last_below (λ i. (slice_index_or l.stack i blank).key.0 == l.key.0) l.i ≡ topmost_of l.stack l.key)
    × (l.steps + l.i ≡ l.fn.steps + length l.stack)
