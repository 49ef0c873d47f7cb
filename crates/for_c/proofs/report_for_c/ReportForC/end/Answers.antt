use Rattle.for_c.proofs.CasesReturned.{ends-file}
use Rattle.for_c.proofs.report_for_c.ReportForC.end.Goals as goal

pub returns : goal.returns
returns c =
    ends-file c.args.self.now c.requires c.finish.new.self c.counts_for_c.result
    (cc (c.counts_for_c.ensures, c.case_counts.ensures, c.malformed.ensures)) c.finish.ensures
