use Rattle.std.proofs.Common.{◌≡◌, ◌≤◌, ◌+◌, List, length}
use Rattle.std.specs.Prelude.{max}
use Rattle.units.specs.declared.bracket.Unit.{Unit as BidiUnit}
use Rattle.compress.specs.Laid.{IsRun, RemainAll}
use Rattle.compress.proofs.levels.write_back.Given as goal

abbrev pub invariant-loop-p : goal.invariant-loop-p
invariant-loop-p g l = record {
  lowest : l.lowest ≤ l.p;
  within : l.p ≤ l.end;
  run : (us : List BidiUnit) → RemainAll us → length l.initial.levels ≡ length us → IsRun us l.p l.end l.level l.initial.levels l.levels;
  steps : l.steps + max l.start l.p ≡ l.initial.steps + max l.start l.end;
}

abbrev pub decreases-loop-p : goal.decreases-loop-p
decreases-loop-p g l = l.p
