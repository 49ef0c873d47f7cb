use Rattle.std.proofs.Common.{◌≡◌, ◌+◌, ◌-◌, ◌++◌, Some, length, take}
use Rattle.sequences.specs.Links.{IsLinkedStretch, link_at, linked}
use Rattle.sequences.proofs.Links.{IsPushed}
use Rattle.sequences.proofs.heads.write_few.Given as goal

abbrev pub invariant-loop-last : goal.invariant-loop-last
invariant-loop-last g l = record {
  stretch : IsLinkedStretch l.links l.first l.last;
  pushed : IsPushed l.links (take l.start l.fn.column ++ linked l.links (Some l.first))
      (take (l.start + (l.last - l.first) + 1) l.column) (link_at l.links l.last);
  rest : l.start + (l.last - l.first) + 1 + length (linked l.links (link_at l.links l.last)) ≡
      l.start + length (linked l.links (Some l.first));
  steps : l.steps + l.first ≡ l.fn.steps + l.last + 1;
}

abbrev pub decreases-loop-last : goal.decreases-loop-last
decreases-loop-last g l = length l.links - l.last
