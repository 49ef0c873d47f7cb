use Rattle.std.proofs.Common.{◌≡◌, ◌+◌, ◌-◌, ◌≤◌, length}
use Rattle.units.specs.Classes.{classes_of}
use Rattle.explicit.specs.StatusStacks.{is_ordinary}
use Rattle.explicit.specs.Stretches.{IsStretchWithin, with_leveled}
use Rattle.explicit.proofs.levels.level_eights.Given as goal

abbrev pub invariant-loop-p : goal.invariant-loop-p
invariant-loop-p g l = record {
  within : l.p ≤ length l.para;
  stretch : IsStretchWithin is_ordinary (classes_of l.para) l.from l.p l.p;
  room : length l.explicit ≡ length l.fn.explicit;
  placed : l.explicit ≡ with_leveled l.status (classes_of l.para) l.from l.p l.fn.explicit;
  taken : l.steps + l.from ≡ l.fn.steps + l.p;
}

abbrev pub decreases-loop-p : goal.decreases-loop-p
decreases-loop-p g l = length l.para - l.p
