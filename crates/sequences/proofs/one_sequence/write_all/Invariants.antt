use Rattle.std.proofs.Common.{◌≡◌, ◌+◌, take}
use Rattle.units.specs.Positions.{positions_from}
use Rattle.sequences.proofs.one_sequence.write_all.Given as goal

abbrev pub invariant-loop-p : goal.invariant-loop-p
invariant-loop-p g l = record {
  placed : take l.p l.column ≡ positions_from 0 l.p;
  steps : l.steps ≡ l.initial.steps + l.p;
}
