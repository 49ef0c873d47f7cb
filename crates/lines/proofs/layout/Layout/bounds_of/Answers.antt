use Rattle.std.proofs.Common.{◌+◌, arith}
use Rattle.lines.proofs.LinesRead.{line_read}
use Rattle.lines.proofs.layout.Layout.bounds_of.Goals as goal

pub returns : goal.returns
returns c =
    let layout = c.args.self.now in
    record {
      line = line_read layout.orders.now layout.bounds.now c.args.k (omega (arith, c.requires));
      rising = layout.bounded.rising c.args.k c.requires;
      inside = layout.bounded.inside (c.args.k + 1) c.requires;
      written = layout.bounded.written (c.args.k + 1) c.requires;
    }
