use Rattle.ucdfiles.proofs.Pieces.{joined, within}
use Rattle.for_c.proofs.report_for_c.ReportForC.take_piece.Goals as goal

pub loop-at-preserved : goal.loop-at-preserved
loop-at-preserved c =
    let piece = c.args.piece.now in
    let at = c.loop-at.at in
    let used = c.take_line-at.result in
    record {
      within = within at used piece c.loop-at.invariant.within c.take_line-at.ensures.used;
      takes = λ limits kind returned bytes h.
          rw (joined at used piece bytes) (c.take_line-at.ensures.takes limits kind returned _
          (c.loop-at.invariant.takes limits kind returned bytes h));
    }
