use Rattle.std.proofs.Common.{◌≡◌, ◌+◌, length}
use Rattle.paragraph.specs.KnownLevels.{HasLevelsBefore}
use Rattle.paragraph.proofs.fast_paths.write_all.Given as goal

abbrev pub invariant-loop-p : goal.invariant-loop-p
invariant-loop-p g l = record {
  len : length l.levels ≡ length l.para;
  written : HasLevelsBefore l.p l.level l.para l.levels;
  steps : l.steps ≡ l.initial.steps + l.p;
}
