use Rattle.std.proofs.Common.{◌≡◌, ◌≤◌, ◌+◌, ◌*◌, take, length}
use Rattle.paragraph.proofs.Covering.{IsCovered}
use Rattle.paragraph.specs.Covering.{positions_in}
use Rattle.paragraph.specs.StepBounds.{sequences_steps}
use Rattle.paragraph.proofs.found.resolve_each.Given as goal

abbrev pub invariant-loop-k : goal.invariant-loop-k
invariant-loop-k g l = record {
  covered : IsCovered l.para.limits.brackets l.para.units.now l.para.before.now
      (take l.k l.sequences.all) l.classes l.levels;
  room : length l.pairs ≡ length l.initial.pairs;
  at_least : l.initial.steps + l.k ≤ l.steps;
  at_most : l.steps ≤ l.initial.steps + sequences_steps * length (positions_in (take l.k l.sequences.all));
}
