use Rattle.std.proofs.Common.{◌≡◌, ◌+◌, ◌-◌, ◌≤◌, ◌++◌, length, take, drop}
use Rattle.compress.proofs.pass.copy_eights.Given as goal

abbrev pub invariant-loop-p : goal.invariant-loop-p
invariant-loop-p g l = record {
  within : l.p ≤ length l.rest;
  len : length l.chosen ≡ length l.initial.chosen;
  copied : take (l.fn.m + l.p) l.chosen ≡ take l.fn.m l.initial.chosen ++ take l.p l.rest;
  after : drop (l.fn.m + length l.rest) l.chosen ≡ drop (l.fn.m + length l.rest) l.initial.chosen;
  steps : l.steps ≡ l.initial.steps + l.p;
}

abbrev pub decreases-loop-p : goal.decreases-loop-p
decreases-loop-p g l = length l.rest - l.p
