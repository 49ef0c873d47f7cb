use Rattle.std.proofs.Common.{◌≡◌, ℕ, ◌+◌, ◌-◌, ◌<◌, ◌≤◌, length, true}
use Rattle.units.specs.Classes.{class_at, classes_of}
use Rattle.explicit.specs.LevelsAlone.{with_level}
use Rattle.explicit.specs.StatusStacks.{is_ordinary}
use Rattle.explicit.proofs.levels_alone.write_rest.Given as goal

abbrev pub invariant-loop-p : goal.invariant-loop-p
invariant-loop-p g l = record {
  later : l.from ≤ l.p;
  within : l.p ≤ length l.para;
  passed : (k : ℕ) → l.from ≤ k → k < l.p → is_ordinary (class_at (classes_of l.para) k) ≡ true;
  room : length l.levels ≡ length l.fn.levels;
  placed : l.levels ≡ with_level l.level l.from l.p l.fn.levels;
  taken : l.steps + l.from ≡ l.fn.steps + l.p;
}

abbrev pub decreases-loop-p : goal.decreases-loop-p
decreases-loop-p g l = length l.para - l.p
