use Rattle.std.proofs.Common.{arith}
use Rattle.ucdfiles.proofs.Neutral.{neutrals-all}
use Rattle.ucdfiles.proofs.tables.are_neutral.Goals as goal

pub returns : goal.returns
returns c e =
    let spans = c.spans-span-items.result.now in
    neutrals-all c.args.classes.now spans c.args.brackets.now c.spans-span-items.ensures (λ k d lt.
    c.loop-span.invariant k d (omega arith))
