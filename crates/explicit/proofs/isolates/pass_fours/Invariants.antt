use Rattle.std.proofs.Common.{◌≡◌, ◌+◌, ◌-◌, ◌≤◌, length, true}
use Rattle.units.specs.Classes.{classes_of}
use Rattle.explicit.specs.Stops.{HasNoFormatting, without_partners}
use Rattle.explicit.proofs.isolates.pass_fours.Given as goal

abbrev pub invariant-loop-partners : goal.invariant-loop-partners
invariant-loop-partners g l = record {
  later : l.from ≤ l.p;
  within : l.p ≤ length l.para;
  passed : HasNoFormatting (classes_of l.para) l.from l.p;
  seeks : l.wanted ≡ true → l.p ≡ l.from;
  room : length l.partners ≡ length l.fn.partners;
  cleared : l.partners ≡ without_partners l.from l.p l.fn.partners;
  taken : l.steps + l.from ≡ l.fn.steps + l.p;
}

abbrev pub decreases-loop-partners : goal.decreases-loop-partners
decreases-loop-partners g l = length l.para - l.p
