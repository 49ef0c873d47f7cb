use Rattle.std.proofs.Common.{◌≡◌, ◌+◌}
use Rattle.compress.proofs.Placing.{IsSpread}
use Rattle.compress.proofs.levels.spread_remaining.Given as goal

abbrev pub invariant-loop-k : goal.invariant-loop-k
invariant-loop-k g l = record {
  spread : IsSpread l.para l.starts l.fn.few.chosen l.fn.few.end l.initial.levels l.levels l.end l.k;
  steps : l.steps + l.end ≡ l.initial.steps + l.fn.few.end;
}
