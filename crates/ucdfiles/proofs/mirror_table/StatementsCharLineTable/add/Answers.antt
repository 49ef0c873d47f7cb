use Rattle.std.proofs.lemmas.Result.{MatchResult-weaker}
use Rattle.ucdfiles.specs.PairFiles.{pair_line_says, mirror_in}
use Rattle.ucdfiles.specs.declared.fault.Fault.TheVariants.{Twice}
use Rattle.ucdfiles.proofs.Stating.{represents-becomes}
use Rattle.ucdfiles.proofs.mirror_table.StatementsCharLineTable.add.Goals as goal

pub returns-clause-ok : goal.returns-clause-ok
returns-clause-ok c =
    MatchResult-weaker c.add_line.result c.add_line.ensures.ok (λ x becomes lines s.
    represents-becomes (pair_line_says mirror_in) Twice c.args.self.now c.add_line.new.self lines c.args.line.now
    c.mirror_line.result c.mirror_line.ensures.value s becomes) (λ e t. t)
