use Rattle.std.proofs.Common.{ap}
use Rattle.requests.proofs.FirstFaults.{passed_on}
use Rattle.requests.proofs.Rejected.{leaves_all, leaves_on, leaves_open}
use Rattle.requests.proofs.Reported.{passed_fail, steps_fail}
use Rattle.requests.specs.Outcomes.{Fails, takes_memory_first}
use Rattle.requests.specs.declared.request.Request.TheVariants as requested
use Rattle.requests.proofs.performing.perform.Goals as goal

pub returns-in_err-print_file-in-Text-clause-fault : goal.returns-in_err-print_file-in-Text-clause-fault
returns-in_err-print_file-in-Text-clause-fault g c =
    rw c.in-Text.is (passed_on (Fails (g.F.Files.facts c.args.files.now) (g.W.Write.contents c.args.out.now)
    (g.W.Write.contents c.print_file.new.out)
    (requested.Text c.in-Text.tables c.in-Text.direction c.in-Text.file c.in-Text.print)) _ _ c.from_residual.ensures.1
    c.in_err-print_file-in-Text.ensures.fault)

pub returns-in_err-explain_classes-in-ExplainClasses-clause-fault :
    goal.returns-in_err-explain_classes-in-ExplainClasses-clause-fault
returns-in_err-explain_classes-in-ExplainClasses-clause-fault g c =
    rw c.in-ExplainClasses.is (passed_fail (g.F.Files.facts c.args.files.now) (g.W.Write.contents c.args.out.now)
    (g.W.Write.contents c.explain_classes.new.out)
    (requested.ExplainClasses c.in-ExplainClasses.classes c.in-ExplainClasses.direction) _ _
    c.from_residual-in_err-explain_classes-in-ExplainClasses.ensures.1
    c.in_err-explain_classes-in-ExplainClasses.ensures.fault)

pub returns-in-Judge-clause-fault : goal.returns-in-Judge-clause-fault
returns-in-Judge-clause-fault g c =
    rw c.in-Judge.is (steps_fail (g.F.Files.facts c.args.files.now) (g.W.Write.contents c.args.out.now)
    (g.W.Write.contents c.judge_file.new.out)
    (requested.Judge c.in-Judge.kind c.in-Judge.tables c.in-Judge.file) c.judge_file.result c.judge_file.ensures.fault)

pub returns-in_err-print_rows-in-Rows-clause-fault : goal.returns-in_err-print_rows-in-Rows-clause-fault
returns-in_err-print_rows-in-Rows-clause-fault g c =
    rw c.in-Rows.is (passed_fail (g.F.Files.facts c.args.files.now) (g.W.Write.contents c.args.out.now)
    (g.W.Write.contents c.print_rows.new.out)
    (requested.Rows c.in-Rows.asked) _ _
    c.from_residual-in_err-print_rows-in-Rows.ensures.1 c.in_err-print_rows-in-Rows.ensures.fault)

pub returns-in_err-print_text_rows-in-RowsOf-clause-fault : goal.returns-in_err-print_text_rows-in-RowsOf-clause-fault
returns-in_err-print_text_rows-in-RowsOf-clause-fault g c =
    rw c.in-RowsOf.is (passed_fail (g.F.Files.facts c.args.files.now) (g.W.Write.contents c.args.out.now)
    (g.W.Write.contents c.print_text_rows.new.out)
    (requested.RowsOf c.in-RowsOf.asked) _ _
    c.from_residual-in_err-print_text_rows-in-RowsOf.ensures.1 c.in_err-print_text_rows-in-RowsOf.ensures.fault)

pub returns-in_err-print_file-in-Text-clause-memory : goal.returns-in_err-print_file-in-Text-clause-memory
returns-in_err-print_file-in-Text-clause-memory g c = leaves_open _ _ _ (ap takes_memory_first c.in-Text.is) _

pub returns-in_err-explain_classes-in-ExplainClasses-clause-memory :
    goal.returns-in_err-explain_classes-in-ExplainClasses-clause-memory
returns-in_err-explain_classes-in-ExplainClasses-clause-memory g c =
    leaves_open _ _ _ (ap takes_memory_first c.in-ExplainClasses.is) _

pub returns-in_err-explain_codes-in-ExplainCodes-clause-memory :
    goal.returns-in_err-explain_codes-in-ExplainCodes-clause-memory
returns-in_err-explain_codes-in-ExplainCodes-clause-memory g c =
    leaves_open _ _ _ (ap takes_memory_first c.in-ExplainCodes.is) _

pub returns-in_err-explain_row-in-ExplainRow-clause-memory : goal.returns-in_err-explain_row-in-ExplainRow-clause-memory
returns-in_err-explain_row-in-ExplainRow-clause-memory g c =
    leaves_open _ _ _ (ap takes_memory_first c.in-ExplainRow.is) _

pub returns-in-Judge-clause-memory : goal.returns-in-Judge-clause-memory
returns-in-Judge-clause-memory g c = leaves_all _ _ _ _ c.judge_file.ensures.memory

pub returns-in-Report-clause-memory : goal.returns-in-Report-clause-memory
returns-in-Report-clause-memory g c = leaves_all _ _ _ _ c.report_file.ensures.memory

pub returns-in_err-print_rows-in-Rows-clause-memory : goal.returns-in_err-print_rows-in-Rows-clause-memory
returns-in_err-print_rows-in-Rows-clause-memory g c =
    leaves_on _ _ _ _ _ c.from_residual-in_err-print_rows-in-Rows.ensures.1 c.in_err-print_rows-in-Rows.ensures.memory

pub returns-in_err-print_text_rows-in-RowsOf-clause-memory : goal.returns-in_err-print_text_rows-in-RowsOf-clause-memory
returns-in_err-print_text_rows-in-RowsOf-clause-memory g c =
    leaves_on _ _ _ _ _ c.from_residual-in_err-print_text_rows-in-RowsOf.ensures.1
    c.in_err-print_text_rows-in-RowsOf.ensures.memory
