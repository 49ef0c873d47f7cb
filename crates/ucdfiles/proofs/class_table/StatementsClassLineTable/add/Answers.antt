use Rattle.std.proofs.lemmas.Result.{MatchResult-weaker}
use Rattle.ucdfiles.specs.ClassFile.{class_line_says}
use Rattle.ucdfiles.specs.declared.fault.Fault.TheVariants.{Overlap}
use Rattle.ucdfiles.proofs.Stating.{represents-becomes}
use Rattle.ucdfiles.proofs.class_table.StatementsClassLineTable.add.Goals as goal

pub returns-clause-ok : goal.returns-clause-ok
returns-clause-ok c =
    MatchResult-weaker c.add_line.result c.add_line.ensures.ok (λ x becomes lines s.
    represents-becomes class_line_says Overlap c.args.self.now c.add_line.new.self lines c.args.line.now
    c.class_line.result c.class_line.ensures.value s becomes) (λ e t. t)
