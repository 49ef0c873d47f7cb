use Rattle.std.proofs.Common.{length, ◌-◌, ◌≤◌, take, drop}
use Rattle.std.specs.Io.KnownBytes.{Appends}
use Rattle.printing.proofs.feeding.write_pieces.Given as goal

abbrev pub invariant-loop-start : goal.invariant-loop-start
invariant-loop-start g l = record {
  passed : l.start ≤ l.taken;
  within : l.taken ≤ length l.bytes;
  more : l.fn.taken ≤ l.taken;
  written : Appends (g.W.Write.contents l.initial.w) (g.W.Write.contents l.w)
      (take (l.taken - l.fn.taken) (drop l.fn.taken l.bytes));
}

abbrev pub decreases-loop-start : goal.decreases-loop-start
decreases-loop-start g l = length l.bytes - l.start
