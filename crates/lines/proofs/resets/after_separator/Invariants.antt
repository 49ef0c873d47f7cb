use Rattle.std.proofs.Common.{◌≡◌, ◌+◌}
use Rattle.units.specs.Classes.{classes_of}
use Rattle.lines.specs.Spaces.{PassesBack}
use Rattle.lines.proofs.resets.after_separator.Given as goal

abbrev pub invariant-loop-position : goal.invariant-loop-position
invariant-loop-position g l =
    record {
      back : PassesBack (classes_of l.own) l.start l.end l.position;
      steps : l.steps + l.position ≡ l.initial.steps + l.initial.position;
    }

abbrev pub decreases-loop-position : goal.decreases-loop-position
decreases-loop-position g l = l.position
