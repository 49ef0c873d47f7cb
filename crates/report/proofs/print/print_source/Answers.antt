use Rattle.std.proofs.Common.{rules, ◌≡◌, ◌++◌, [], take, ap, ◌∙◌, append-nil}
use Rattle.report.proofs.Printing.{nothing-reported, nothing-written, decided-written, piece-cuts, piece-ends, reported-more, written-more}
use Rattle.report.proofs.print.print_source.Goals as goal

pub loop-n-init : goal.loop-n-init
loop-n-init g c = ([], [], g.met.S.ByteSource.gives_nothing _, nothing-reported _, nothing-written _ _)

pub returns-in-Err-clause-fault : goal.returns-in-Err-clause-fault
returns-in-Err-clause-fault g c =
    let inv = c.loop-n.invariant in
    let failed : g.S.ByteSource.failures c.read.new.self ≡ 1 = search rules in (
      inv.0 ++ [],
      g.met.S.ByteSource.gives_joined _ _ _ _ _ inv.2 c.in-Err.ensures.none_given,
      (failed, decided-written _ _ _ _ _ _ _ _ _ (append-nil inv.0) inv.3 inv.4),
    )

pub returns-in-Ok-eq0-clause-reported : goal.returns-in-Ok-eq0-clause-reported
returns-in-Ok-eq0-clause-reported g c =
    let inv = c.loop-n.invariant in
    let buf = c.read.new.buf in
    let n = c.in-Ok-eq0.field-0 in
    let none : inv.0 ++ take n buf ≡ inv.0 = ap (λ k. inv.0 ++ take k buf) c.in-Ok-eq0.field-0-test ∙
    append-nil inv.0 in (
      inv.0 ++ take n buf,
      inv.1,
      g.met.S.ByteSource.gives_joined _ _ _ _ _ inv.2 c.in-Ok-eq0.ensures.given,
      rw none inv.3,
      inv.4,
    )

pub returns-in-Err-print_piece-clause-fault : goal.returns-in-Err-print_piece-clause-fault
returns-in-Err-print_piece-clause-fault g c =
    let inv = c.loop-n.invariant in
    let given = g.met.S.ByteSource.gives_joined _ _ _ _ _ inv.2 c.in-Ok.ensures.given in
    piece-ends _ _ _ _ _ _ g.S.ByteSource.gives g.met.S.ByteSource.gives_joined c.args.source.now c.read.new.self _ _
    given c.in-Err-print_piece.error c.end_unwritten.result c.end_unwritten.ensures.unread
    c.end_unwritten.ensures.write

pub returns-in-Err-print_piece-clause-cut_off : goal.returns-in-Err-print_piece-clause-cut_off
returns-in-Err-print_piece-clause-cut_off g c =
    piece-cuts _ g.S.ByteSource.gives _ _ c.read.new.self _ c.in-Err-print_piece.error c.end_unwritten.result
    c.in-Err-print_piece.ensures.failed c.end_unwritten.ensures.unread c.end_unwritten.ensures.write

pub loop-n-preserved : goal.loop-n-preserved
loop-n-preserved g c =
    let inv = c.loop-n.invariant in
    let reported = c.in-Ok-print_piece.ensures.written in (
      inv.0 ++ take c.in-Ok.n c.read.new.buf,
      inv.1 ++ reported.0,
      g.met.S.ByteSource.gives_joined _ _ _ _ _ inv.2 c.in-Ok.ensures.given,
      reported-more _ _ _ _ _ _ _ inv.3 reported.1,
      written-more _ _ _ _ _ _ _ _ inv.4 reported.2,
    )
