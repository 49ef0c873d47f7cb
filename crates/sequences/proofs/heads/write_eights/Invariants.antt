use Rattle.std.proofs.Common.{◌≡◌, ◌+◌, ◌-◌, ◌++◌, ◌≤◌, true, length, take}
use Rattle.sequences.specs.Blocks.{LeadOn}
use Rattle.sequences.specs.Links.{IsLinkedStretch, link_at, linked}
use Rattle.sequences.proofs.heads.write_eights.Given as goal

abbrev pub invariant-loop-lead_on : goal.invariant-loop-lead_on
invariant-loop-lead_on g l = record {
  within : l.lead_on ≡ true → l.p + 8 ≤ length l.links;
  lead : l.lead_on ≡ true → LeadOn l.links l.p (l.p + 8);
  stretch : IsLinkedStretch l.links l.first l.p;
  column : take (l.at + (l.p - l.first)) l.column ++ linked l.links (link_at l.links l.p) ≡
      take l.at l.fn.column ++ linked l.links (link_at l.links l.first);
  rest : l.at + (l.p - l.first) + length (linked l.links (link_at l.links l.p)) ≡
      l.at + length (linked l.links (link_at l.links l.first));
  steps : l.steps + l.first ≡ l.fn.steps + l.p;
}

abbrev pub decreases-loop-lead_on : goal.decreases-loop-lead_on
decreases-loop-lead_on g l = length l.links - l.p
