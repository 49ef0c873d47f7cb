use Rattle.std.proofs.Common.{◌≡◌, ◌∙◌, eqb-true, length, sym}
use Rattle.sources.proofs.Nothing.{no_units}
use Rattle.sources.proofs.splitting.split_utf16.Goals as goal

pub returns-then-is_empty : goal.returns-then-is_empty
returns-then-is_empty c =
    let none : length c.args.text.now ≡ 0 =
    eqb-true (length c.args.text.now) 0 (sym c.is_empty.ensures ∙ c.if-is_empty.true) in
    no_units c.args.tables.now c.args.text.now c.args.faults none
