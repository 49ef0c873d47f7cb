use Rattle.std.proofs.Common.{◌≡◌, ◌+◌, ◌-◌, ◌≤◌, length}
use Rattle.units.specs.Classes.{classes_of}
use Rattle.explicit.specs.LevelsAlone.{with_level}
use Rattle.explicit.specs.StatusStacks.{is_ordinary}
use Rattle.explicit.specs.Stretches.{IsStretchWithin}
use Rattle.explicit.proofs.levels_alone.write_ordinary.Given as goal

abbrev pub invariant-loop-p : goal.invariant-loop-p
invariant-loop-p g l = record {
  within : l.p ≤ length l.para;
  stretch : IsStretchWithin is_ordinary (classes_of l.para) l.from l.p l.p;
  room : length l.levels ≡ length l.fn.levels;
  placed : l.levels ≡ with_level l.level l.from l.p l.fn.levels;
  taken : l.steps + l.from ≡ l.fn.steps + l.p;
}

abbrev pub decreases-loop-p : goal.decreases-loop-p
decreases-loop-p g l = length l.para - l.p
