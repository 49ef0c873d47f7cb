use Rattle.std.proofs.Common.{◌≡◌, ◌*◌, ◌-◌, ◌≤◌, length, take, vec_capacity}
use Rattle.bidtests.proofs.NamesRead.{NamesSoFar}
use Rattle.bidtests.proofs.names.read_names.Given as goal

abbrev pub invariant-loop-class : goal.invariant-loop-class
invariant-loop-class l = record {
  within : l.at ≤ length l.line;
  names : NamesSoFar (take l.at l.line) l.text.items;
  count : 2 * length l.text.items ≤ l.at;
  capacity : vec_capacity l.text ≡ vec_capacity l.fn.text;
}

abbrev pub decreases-loop-class : goal.decreases-loop-class
decreases-loop-class l = length l.line - l.at
