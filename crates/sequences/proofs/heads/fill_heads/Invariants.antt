use Rattle.std.proofs.Common.{◌≡◌, ◌≤◌, ◌+◌, ◌-◌, length, take}
use Rattle.units.specs.Runs.{size_of}
use Rattle.sequences.proofs.HeadPasses.{HeadPass}
use Rattle.sequences.proofs.heads.fill_heads.Given as goal

abbrev pub invariant-loop-p : goal.invariant-loop-p
invariant-loop-p g l = record {
  within : l.p ≤ size_of l.t;
  follow : HeadPass l.t l.p (take l.count l.heads) (take l.end l.column) l.last;
  heads_fit : l.count ≤ length l.heads;
  column_fit : l.end ≤ length l.column;
  steps : l.steps ≡ l.initial.steps + l.p + l.end;
}

abbrev pub decreases-loop-p : goal.decreases-loop-p
decreases-loop-p g l = size_of l.t - l.p
