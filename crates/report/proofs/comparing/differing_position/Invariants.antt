use Rattle.std.proofs.Common.{◌≡◌, ℕ, ◌+◌, List, ◌++◌, drop, length}
use Rattle.std.specs.Prelude.{nat_eq}
use Rattle.bidtests.specs.Verdicts.{first_difference}
use Rattle.report.specs.Comparing.{remaining_order}
use Rattle.report.proofs.comparing.differing_position.Given as goal

abbrev pub invariant-loop-i : goal.invariant-loop-i
invariant-loop-i l = record {
  fits : length (remaining_order l.initial.claimed) ≡ l.i + length (remaining_order l.claimed);
  search : (more : List ℕ) (at : ℕ) → first_difference nat_eq (remaining_order l.initial.claimed) (l.line ++ more) at
      ≡ first_difference nat_eq (remaining_order l.claimed) (drop l.i l.line ++ more) (at + l.i);
}
