use Rattle.std.proofs.Common.{◌≡◌, ◌+◌, ◌-◌, ◌≤◌, length}
use Rattle.units.specs.Classes.{classes_of}
use Rattle.explicit.specs.Stops.{ArePassed, without_partners}
use Rattle.explicit.proofs.isolates.next_stop.Given as goal

abbrev pub invariant-loop-p : goal.invariant-loop-p
invariant-loop-p g l = record {
  later : l.from ≤ l.p;
  within : l.p ≤ length l.para;
  passed : ArePassed l.wanted (classes_of l.para) l.from l.p;
  room : length l.partners ≡ length l.fn.partners;
  cleared : l.partners ≡ without_partners l.from l.p l.fn.partners;
  taken : l.steps + l.from ≡ l.fn.steps + l.p;
}

abbrev pub decreases-loop-p : goal.decreases-loop-p
decreases-loop-p g l = length l.para - l.p
