use Rattle.std.proofs.Common.{◌≡◌, ◌+◌, ◌-◌, ◌≤◌}
use Rattle.sequences.specs.Blocks.{AreJoined}
use Rattle.sequences.proofs.heads.pass_eights.Given as goal

abbrev pub invariant-loop-p : goal.invariant-loop-p
invariant-loop-p g l = record {
  later : l.from ≤ l.p;
  within : l.p ≤ l.end;
  passed : AreJoined l.joined l.from l.p;
  steps : l.steps + l.from ≡ l.fn.steps + l.p;
}

abbrev pub decreases-loop-p : goal.decreases-loop-p
decreases-loop-p g l = l.end - l.p
