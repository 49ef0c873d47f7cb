use Rattle.std.proofs.Common.{◌-◌, ◌++◌, length, take, drop}
use Rattle.std.proofs.lemmas.Result.{err_from_is_err_and}
use Rattle.ucdfiles.proofs.OneCut.{step-ok, step-err}
use Rattle.ucdfiles.proofs.Pieces.{joined, within, rest_joined}
use Rattle.ucdfiles.proofs.reading.feed.Goals as goal

pub returns-in_err-take_cut-clause-err : goal.returns-in_err-take_cut-clause-err
returns-in_err-take_cut-clause-err g c =
    let p = err_from_is_err_and c.from_residual.result c.from_residual.ensures.1 in
    rw (p.1, p.2) (λ b s.
    let piece = c.args.piece.now in
    let at = c.loop-at.at in
    let used = c.take.result.0 in
    let rest = take (length piece - at) (drop at piece) in
    let r = c.loop-at.invariant.1 b s in
    rw (← rest_joined at used piece b)
    (step-err (g.T.LineTable.represents c.loop-at.table) (g.T.LineTable.represents c.take_cut.new.table)
    g.T.LineTable.fault c.loop-at.splitter c.take.follows.lender-at-none (b ++ take at piece) rest used
    c.take.result.1 _ (drop used rest) g.met.T.LineTable.over_long r c.take.ensures.used
    (c.take.ensures.through _ r.lines r.rest r.cuts r.whole)
    (c.take.ensures.outcome _ r.cuts) c.in_err-take_cut.ensures.err))

pub loop-at-preserved : goal.loop-at-preserved
loop-at-preserved g c =
    let piece = c.args.piece.now in
    let at = c.loop-at.at in
    let used = c.take.result.0 in
    let rest = take (length piece - at) (drop at piece) in (
      within at used piece c.loop-at.invariant.0 c.take.ensures.used,
      λ b s.
          let r = c.loop-at.invariant.1 b s in
          rw (joined at used piece b)
          (step-ok (g.T.LineTable.represents c.loop-at.table) (g.T.LineTable.represents c.take_cut.new.table)
          g.T.LineTable.fault c.loop-at.splitter c.take.follows.lender-at-none (b ++ take at piece) rest used
          c.take.result.1 r (c.take.follows.holds-at-none _ r.cuts)
          (c.take.ensures.outcome _ r.cuts) c.in_ok-take_cut.ensures.ok),
    )
