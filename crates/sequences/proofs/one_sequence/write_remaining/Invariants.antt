use Rattle.std.proofs.Common.{◌≡◌, ◌≤◌, ◌+◌, take}
use Rattle.units.specs.Classes.{classes_of}
use Rattle.sequences.proofs.Remaining.{remaining_before}
use Rattle.sequences.proofs.one_sequence.write_remaining.Given as goal

abbrev pub invariant-loop-p : goal.invariant-loop-p
invariant-loop-p g l = record {
  placed : take l.count l.column ≡ remaining_before (classes_of l.para) l.p;
  within : l.count ≤ l.p;
  steps : l.steps ≡ l.initial.steps + l.p;
}
