use Rattle.std.proofs.Common.{◌≡◌, ◌+◌, List, length}
use Rattle.units.specs.declared.bracket.Unit.{Unit as BidiUnit}
use Rattle.compress.specs.Laid.{IsRun, RemainAll}
use Rattle.compress.proofs.levels.write_all.Given as goal

abbrev pub invariant-loop-p : goal.invariant-loop-p
invariant-loop-p g l = record {
  run : (us : List BidiUnit) → RemainAll us → length l.initial.levels ≡ length us → IsRun us l.start l.p l.level l.initial.levels l.levels;
  steps : l.steps + l.start ≡ l.initial.steps + l.p;
}
