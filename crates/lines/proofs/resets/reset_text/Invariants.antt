use Rattle.std.specs.Prelude.{◌≡◌, ◌≤◌, ◌+◌, length, map}
use Rattle.units.specs.Isolates.{level_of_para}
use Rattle.units.specs.Classes.{classes_of}
use Rattle.lines.proofs.TextEnd.{Resetting}
use Rattle.lines.proofs.resets.reset_text.Given as goal

abbrev pub invariant-loop-position : goal.invariant-loop-position
invariant-loop-position g l =
    record {
      within : l.position ≤ length l.initial.levels;
      text : Resetting (classes_of l.own) l.at (map level_of_para l.paras) l.initial.levels l.position l.ahead
          l.paragraph l.resets l.levels;
      steps : l.steps + l.position ≡ l.initial.steps + length l.initial.levels;
    }

abbrev pub decreases-loop-position : goal.decreases-loop-position
decreases-loop-position g l = l.position
