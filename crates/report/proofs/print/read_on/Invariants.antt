use Rattle.std.proofs.Common.{ℕ, List}
use Rattle.report.proofs.print.read_on.Given as goal

abbrev pub invariant-loop : goal.invariant-loop
invariant-loop g l = (given : List ℕ) × g.S.ByteSource.gives l.initial.source given l.source

abbrev pub decreases-loop : goal.decreases-loop
decreases-loop g l = g.S.ByteSource.most_remaining l.source
