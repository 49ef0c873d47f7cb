use Rattle.std.proofs.Common.{◌≡◌, ◌+◌, ◌++◌, Some, length, take}
use Rattle.sequences.specs.Links.{linked}
use Rattle.sequences.proofs.Links.{IsPushed}
use Rattle.sequences.proofs.heads.write_linked.Given as goal

abbrev pub invariant-loop-at : goal.invariant-loop-at
invariant-loop-at g l = record {
  pushed : IsPushed l.links (take l.start l.fn.column ++ linked l.links (Some l.first)) (take l.end l.column) l.at;
  end : l.end + length (linked l.links l.at) ≡ l.start + length (linked l.links (Some l.first));
  steps : l.steps + length (linked l.links l.at) ≡ l.fn.steps + length (linked l.links (Some l.first));
}

abbrev pub decreases-loop-at : goal.decreases-loop-at
decreases-loop-at g l = length (linked l.links l.at)
