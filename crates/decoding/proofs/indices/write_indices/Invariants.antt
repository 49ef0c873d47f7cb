use Rattle.decoding.proofs.Indexing.{IsIndexed}
use Rattle.decoding.proofs.indices.write_indices.Given as goal

abbrev pub invariant-loop-k : goal.invariant-loop-k
invariant-loop-k l = IsIndexed l.starts l.breaks l.indices l.next l.k
