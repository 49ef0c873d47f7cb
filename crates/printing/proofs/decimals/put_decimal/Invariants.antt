use Rattle.std.proofs.Common.{◌≡◌, ◌+◌, ◌≤◌, ◌++◌, length, drop}
use Rattle.std.specs.Fmt.{decimal}
use Rattle.printing.proofs.decimals.put_decimal.Given as goal

abbrev pub invariant-loop-remaining : goal.invariant-loop-remaining
invariant-loop-remaining l = record {
  room : length (decimal l.remaining) ≤ l.start;
  within : l.start ≤ length l.line;
  start : l.start + length (decimal l.number) ≡ l.end + length (decimal l.remaining);
  written : decimal l.remaining ++ drop l.start l.line ≡ decimal l.number ++ drop l.end l.fn.line;
}

abbrev pub decreases-loop-remaining : goal.decreases-loop-remaining
decreases-loop-remaining l = l.remaining
