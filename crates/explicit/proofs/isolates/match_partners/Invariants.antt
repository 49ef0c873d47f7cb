use Rattle.std.proofs.Common.{◌≡◌, ◌+◌, ◌-◌, ◌≤◌, length}
use Rattle.units.specs.Classes.{classes_of}
use Rattle.explicit.proofs.Matched.Filling.{IsFilling}
use Rattle.explicit.proofs.StrongSides.Sides.{AreNoted}
use Rattle.explicit.proofs.isolates.match_partners.Given as goal

abbrev pub invariant-loop-p : goal.invariant-loop-p
invariant-loop-p g l = record {
  within : l.p ≤ length l.para;
  filling : IsFilling (classes_of l.para) l.p l.depth (length l.fn.partners) l.partners l.openers;
  sides_fit : length l.sides ≡ length l.fn.partners;
  noted : AreNoted (classes_of l.para) l.p l.sides l.outside;
  taken : l.steps ≡ l.fn.steps + l.p;
}

abbrev pub decreases-loop-p : goal.decreases-loop-p
decreases-loop-p g l = length l.para - l.p
