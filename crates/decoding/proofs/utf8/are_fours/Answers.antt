use Rattle.std.proofs.Common.{sym, ◌∙◌, arith}
use Rattle.decoding.proofs.Utf8Blocks.{none_above, none_followed}
use Rattle.decoding.proofs.utf8.are_fours.Goals as goal

pub returns-then-fours-eq0-clause-most : goal.returns-then-fours-eq0-clause-most
returns-then-fours-eq0-clause-most c passed =
    none_above 240 245 c.args.block (omega arith) (sym c.requires ∙ c.if-fours-eq0.true)

pub returns-then-fours-eq0-clause-followed : goal.returns-then-fours-eq0-clause-followed
returns-then-fours-eq0-clause-followed c passed =
    none_followed 240 244 144 c.args.block (omega arith) (sym c.requires ∙ c.if-fours-eq0.true)
