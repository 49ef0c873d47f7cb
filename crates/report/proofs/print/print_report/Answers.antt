use Rattle.std.proofs.lemmas.Result.{IfOk-weaker}
use Rattle.report.proofs.Printing.{end-cuts, end-fails, whole-printed}
use Rattle.report.proofs.print.print_report.Goals as goal

pub returns-clause-printed : goal.returns-clause-printed
returns-clause-printed g c =
    let reported = c.in_ok-remaining.ensures.reported in
    IfOk-weaker c.print_end.result _ _ (λ right end. (
      reported.0,
      reported.2,
      whole-printed _ _ _ _ _ _ _ _ _ _ _ reported.3 reported.4 c.finish.ensures end,
    ))
    c.print_end.ensures.printed

pub returns-clause-fault : goal.returns-clause-fault
returns-clause-fault g c =
    let reported = c.in_ok-remaining.ensures.reported in
    end-fails _ _ _ _ _ _ (λ xs. g.S.ByteSource.gives c.args.source.now xs c.print_source.new.source) _ reported.2
    c.in_ok-remaining.ensures.whole c.print_end.result c.print_end.ensures.fault

pub returns-clause-cut_off : goal.returns-clause-cut_off
returns-clause-cut_off g c = end-cuts _ c.print_end.result c.print_end.ensures.fault
