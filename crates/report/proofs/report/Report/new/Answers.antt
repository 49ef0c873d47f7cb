use Rattle.std.proofs.Common.{[], sym}
use Rattle.bidtests.proofs.SplitterSteps.{nothing}
use Rattle.report.proofs.LineSteps.{report-start}
use Rattle.report.proofs.report.Report.new.Goals as goal

pub returns-clause-represents : goal.returns-clause-represents
returns-clause-represents c = λ kind by. record {
  of = sym by;
  is = record {
    splitter = c.new-2.ensures;
    lines = [];
    rest = [];
    cut = nothing;
    following = report-start c.args.terms kind c.in_ok-lines.lines c.in_ok-lines.ensures;
  };
}
