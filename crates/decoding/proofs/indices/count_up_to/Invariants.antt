use Rattle.std.proofs.Common.{◌≤◌}
use Rattle.decoding.specs.Starts.{IsNarrowed}
use Rattle.decoding.proofs.indices.count_up_to.Given as goal

abbrev pub invariant-loop : goal.invariant-loop
invariant-loop l = record {
  forward : l.search.first ≤ l.search.end;
  known : IsNarrowed l.starts l.at l.search.first l.search.end;
}
