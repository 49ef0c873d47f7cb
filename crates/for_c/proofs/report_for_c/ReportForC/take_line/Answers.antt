use Rattle.std.proofs.Common.{take}
use Rattle.for_c.proofs.CasesReturned.{takes-line}
use Rattle.for_c.proofs.report_for_c.ReportForC.take_line.Goals as goal

pub returns-clause-takes : goal.returns-clause-takes
returns-clause-takes c =
    takes-line c.args.self.now c.requires c.take-used.new.self (take c.take-used.result c.args.piece.now)
    c.take-used.ensures.reports
