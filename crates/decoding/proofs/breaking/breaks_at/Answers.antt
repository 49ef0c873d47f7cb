use Rattle.lines.specs.LineBreaks.{AreBreaksOf, IsFirstBreakFault}
use Rattle.decoding.proofs.BreakIndices.{no_fault, ok_unless}
use Rattle.decoding.proofs.breaking.breaks_at.Goals as goal

pub unwrap-requires : goal.unwrap-requires
unwrap-requires c =
    ok_unless (AreBreaksOf c.args.at.now c.args.len) (IsFirstBreakFault c.args.at.now c.args.len) c.new.result
    c.new.ensures (λ fault wrong. no_fault c.args.at.now c.args.len fault c.requires wrong)
