use Rattle.std.proofs.Common.{◌≤◌}
use Rattle.room.proofs.Spreading.{AreSpread}
use Rattle.room.proofs.room.Room.spread_levels.Given as goal

-- the levels of the characters from k on are spread
abbrev pub invariant-loop-k : goal.invariant-loop-k
invariant-loop-k l = record {
  within : l.first ≤ l.k;
  spread : AreSpread l.self l.first l.k l.fn.levels l.levels;
}
