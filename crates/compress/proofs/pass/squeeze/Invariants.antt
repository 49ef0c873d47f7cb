use Rattle.std.proofs.Common.{◌≡◌, ◌≤◌, ◌<◌, ◌+◌, ◌-◌, length, slice_index_or}
use Rattle.units.specs.Layout.{no_unit}
use Rattle.compress.specs.Laid.{stack_of, AreUnchangedFrom, IsApart, IsLaid, LeadsOn}
use Rattle.compress.specs.Squeeze.{known_after}
use Rattle.compress.proofs.pass.squeeze.Given as goal

abbrev pub invariant-loop-direction : goal.invariant-loop-direction
invariant-loop-direction g l = record {
  leads : LeadsOn l.direction l.para (stack_of l.para l.chosen l.starts l.m l.p) l.p;
  laid : IsLaid l.para l.starts l.m l.p;
  apart : l.p < length l.para → IsApart l.direction l.chosen l.m (slice_index_or l.para l.p no_unit);
  fits : l.m ≤ length l.chosen;
  starts_fit : l.m ≤ length l.starts;
  due : l.due ≤ l.p + l.most + 128;
  least : l.least ≤ 10;
  strong : l.strong ≡ (known_after l.direction (stack_of l.para l.chosen l.starts l.m l.p)).strong;
  unchanged : AreUnchangedFrom l.p l.initial.chosen l.initial.starts l.chosen l.starts;
  counted : l.initial.steps ≤ l.steps;
  steps : l.steps + l.initial.p ≡ l.initial.steps + l.p;
}

abbrev pub decreases-loop-direction : goal.decreases-loop-direction
decreases-loop-direction g l = length l.para - l.p
