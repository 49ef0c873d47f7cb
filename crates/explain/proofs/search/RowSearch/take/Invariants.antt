use Rattle.std.proofs.Common.{length}
use Rattle.explain.proofs.SearchedBytes.{HasTaken}
use Rattle.explain.proofs.search.RowSearch.take.Given as goal

abbrev pub invariant-loop-rest : goal.invariant-loop-rest
invariant-loop-rest l = HasTaken l.kind l.wanted l.initial.self l.self l.piece l.rest

abbrev pub decreases-loop-rest : goal.decreases-loop-rest
decreases-loop-rest l = length l.rest
