use Rattle.std.proofs.Common.{◌≡◌, ℕ, ◌+◌, ◌-◌, ◌<◌, ◌≤◌, length, true}
use Rattle.units.specs.Classes.{class_at, classes_of}
use Rattle.explicit.specs.StatusStacks.{is_ordinary}
use Rattle.explicit.specs.Stretches.{with_leveled}
use Rattle.explicit.proofs.levels.level_rest.Given as goal

abbrev pub invariant-loop-p : goal.invariant-loop-p
invariant-loop-p g l = record {
  later : l.from ≤ l.p;
  within : l.p ≤ length l.para;
  passed : (k : ℕ) → l.from ≤ k → k < l.p → is_ordinary (class_at (classes_of l.para) k) ≡ true;
  placed : l.explicit ≡ with_leveled l.status (classes_of l.para) l.from l.p l.fn.explicit;
  taken : l.steps + l.from ≡ l.fn.steps + l.p;
}

abbrev pub decreases-loop-p : goal.decreases-loop-p
decreases-loop-p g l = length l.para - l.p
