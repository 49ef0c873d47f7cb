use Rattle.std.proofs.Common.{[], refl, subst}
use Rattle.units.specs.Limits.{LimitsOf, standard}
use Rattle.bidtests.specs.JudgedSoFar.{Judges}
use Rattle.requests.proofs.judging.judge_as.Goals as goal

pub returns-clause-judged : goal.returns-clause-judged
returns-clause-judged g c =
    let read = c.in_ok-verdict.ensures.verdict in
    let begun = subst (λ (limits : LimitsOf). Judges limits c.args.rows c.in_ok-judge.judge [])
    c.standard.ensures (c.in_ok-judge.ensures c.args.rows refl) in
    record {
      bytes = read.0;
      read = read.1;
      verdict = c.in_ok-verdict.verdict;
      is = read.2 standard _ [] begun;
      noted = record { status_is = c.status_of.ensures; line = c.in_ok-print_verdict.ensures.line };
    }
