use Rattle.std.proofs.Common.{◌≡◌, ◌+◌, ◌-◌, ◌++◌, Some, length, take}
use Rattle.sequences.specs.Links.{IsLinkedStretch, link_at, linked}
use Rattle.sequences.proofs.Links.{IsPushed}
use Rattle.sequences.proofs.heads.write_long_stretch.Given as goal

abbrev pub invariant-loop-p : goal.invariant-loop-p
invariant-loop-p g l = record {
  stretch : IsLinkedStretch l.links l.first l.p;
  pushed : IsPushed l.links (take l.start l.fn.column ++ linked l.links (Some l.first))
      (take (l.start + (l.p - l.first) + 1) l.column) (link_at l.links l.p);
  rest : l.start + (l.p - l.first) + 1 + length (linked l.links (link_at l.links l.p)) ≡
      l.start + length (linked l.links (Some l.first));
  steps : l.steps + l.first ≡ l.fn.steps + l.p + 1;
}

abbrev pub decreases-loop-p : goal.decreases-loop-p
decreases-loop-p g l = length l.links - l.p
