use Rattle.std.proofs.Common.{ℕ, List, ◌++◌}
use Rattle.units.specs.Limits.{LimitsOf}
use Rattle.bidtests.specs.declared.kind.Kind.{Kind}
use Rattle.bidtests.specs.JudgedSoFar.{Judges}
use Rattle.bidtests.proofs.reader.judge_reader.Given as goal

abbrev pub invariant-loop-judge : goal.invariant-loop-judge
invariant-loop-judge g l =
    (given : List ℕ)
    × g.S.ByteSource.gives l.initial.source given l.source
    × ((limits : LimitsOf) (kind : Kind) (b : List ℕ) → Judges limits kind l.initial.judge b →
    Judges limits kind l.judge (b ++ given))

abbrev pub decreases-loop-judge : goal.decreases-loop-judge
decreases-loop-judge g l = g.S.ByteSource.most_remaining l.source
