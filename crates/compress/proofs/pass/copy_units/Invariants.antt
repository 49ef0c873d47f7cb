use Rattle.std.proofs.Common.{◌≡◌, ◌+◌, ◌++◌, length, take, drop}
use Rattle.compress.proofs.pass.copy_units.Given as goal

abbrev pub invariant-loop-p : goal.invariant-loop-p
invariant-loop-p g l = record {
  copied : take (l.fn.m + l.p) l.chosen ≡ take l.fn.m l.fn.chosen ++ take l.p l.rest;
  after : drop (l.fn.m + length l.rest) l.chosen ≡ drop (l.fn.m + length l.rest) l.fn.chosen;
  steps : l.steps ≡ l.fn.steps + l.p;
}
