use Rattle.std.proofs.Common.{◌≡◌, ◌+◌, ◌-◌, ◌≤◌, length}
use Rattle.paragraph.specs.KnownLevels.{HasLevelsBefore}
use Rattle.paragraph.proofs.fast_paths.write_fours.Given as goal

abbrev pub invariant-loop-p : goal.invariant-loop-p
invariant-loop-p g l = record {
  len : length l.levels ≡ length l.para;
  written : HasLevelsBefore l.p l.level l.para l.levels;
  within : l.p ≤ length l.para;
  steps : l.steps ≡ l.initial.steps + l.p;
}

abbrev pub decreases-loop-p : goal.decreases-loop-p
decreases-loop-p g l = length l.para - l.p
