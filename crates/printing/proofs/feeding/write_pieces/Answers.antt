use Rattle.std.proofs.Common.{◌+◌, arith}
use Rattle.printing.proofs.Appending.{Appends-joined, Appends-to}
use Rattle.printing.proofs.PiecesTaken.{parts_joined}
use Rattle.printing.proofs.feeding.write_pieces.Goals as goal

pub loop-start-preserved-then-taken-start : goal.loop-start-preserved-then-taken-start
loop-start-preserved-then-taken-start g c =
    let l = c.loop-start in
    let end = l.start + c.first_piece-start.result in
    record {
      passed = omega arith;
      within = omega (arith, c.first_piece-start.ensures.within);
      more = omega (arith, l.invariant.more);
      written = Appends-to _ _ _ _ (parts_joined c.args.taken l.taken end c.args.bytes.now l.invariant.more
          (omega arith)) (Appends-joined _ _ _ _ _ l.invariant.written c.in_ok-write_bytes.ensures.written);
    }
