use Rattle.std.proofs.Common.{◌≡◌, ℕ, ◌+◌, ◌-◌, ◌*◌, ◌<◌, ◌≤◌, get_or, length}
use Rattle.std.specs.Prelude.{None}
use Rattle.units.specs.Classes.{classes_of}
use Rattle.units.specs.Explicit.{explicit_level_at}
use Rattle.explicit.specs.StatusStacks.{Represents, entry_count}
use Rattle.explicit.proofs.LevelsComputed.ExplicitAt.{open_before}
use Rattle.explicit.proofs.levels_alone.write_levels.Given as goal

abbrev pub invariant-loop-p : goal.invariant-loop-p
invariant-loop-p g l = record {
  within : l.p ≤ length l.para;
  keeps : Represents l.range.depth (classes_of l.para) l.range.base (open_before (classes_of l.para) l.p) l.stack;
  filled : (k : ℕ) → k < l.p →
      get_or l.levels k None ≡ explicit_level_at l.range.depth (classes_of l.para) l.range.base k;
  room : length l.levels ≡ length l.fn.levels;
  least : l.fn.steps + l.p ≤ l.steps;
  most : l.steps + entry_count l.stack ≤ l.fn.steps + (2 * l.p + 1);
}

abbrev pub decreases-loop-p : goal.decreases-loop-p
decreases-loop-p g l = length l.para - l.p
