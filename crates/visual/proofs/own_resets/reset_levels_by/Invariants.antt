use Rattle.std.proofs.Common.{◌≤◌, List, length}
use Rattle.units.specs.declared.class.Class.{Class}
use Rattle.visual.specs.GivenLevels.{AreClassesBy}
use Rattle.visual.proofs.GivenResets.{IsResetFrom}
use Rattle.visual.proofs.own_resets.reset_levels_by.Given as goal

abbrev pub invariant-loop-position : goal.invariant-loop-position
invariant-loop-position g l =
    record {
      callable : goal.F-IsAlwaysCallable g l.class_of;
      within : l.position ≤ length l.initial.levels;
      so_far : (classes : List Class) → AreClassesBy (goal.F-post g l.class_of) l.items classes →
          IsResetFrom classes l.para_level l.initial.levels l.position l.reset l.levels;
    }

abbrev pub decreases-loop-position : goal.decreases-loop-position
decreases-loop-position g l = l.position
