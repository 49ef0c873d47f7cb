use Rattle.std.proofs.Common.{ℕ, List}
use Rattle.explain.specs.Searching.{SearchesOn}
use Rattle.explain.proofs.find.search_source.Given as goal

abbrev pub invariant-loop-search : goal.invariant-loop-search
invariant-loop-search g l =
    (given : List ℕ) × g.S.ByteSource.gives l.initial.source given l.source × SearchesOn l.kind l.number l.search given

abbrev pub decreases-loop-search : goal.decreases-loop-search
decreases-loop-search g l = g.S.ByteSource.most_remaining l.source
