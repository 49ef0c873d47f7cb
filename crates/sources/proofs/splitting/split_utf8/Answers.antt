use Rattle.std.proofs.Common.{◌≡◌, ◌∙◌, eqb-true, length, sym}
use Rattle.sources.proofs.Nothing.{no_bytes}
use Rattle.sources.proofs.splitting.split_utf8.Goals as goal

pub returns-then-is_empty : goal.returns-then-is_empty
returns-then-is_empty c =
    let none : length c.args.bytes.now ≡ 0 =
    eqb-true (length c.args.bytes.now) 0 (sym c.is_empty.ensures ∙ c.if-is_empty.true) in
    no_bytes c.args.tables.now c.args.bytes.now c.args.faults none
