use Rattle.std.proofs.Common.{length}
use Rattle.rule_columns.specs.Columns.{ColumnsOf, HaveLength, columns_of}
use Rattle.rule_columns.specs.Inside.{NamesInside}
use Rattle.rule_columns.proofs.NamedPositions.{columns_inside}
use Rattle.rule_columns.proofs.PuttingTogether.{columns_fit, if_ok}
use Rattle.rule_columns.proofs.columns.columns_of.Goals as goal

pub returns-clause-length : goal.returns-clause-length
returns-clause-length c =
    if_ok (λ (columns : ColumnsOf). HaveLength columns (length c.args.para.now))
    (columns_of c.args.para.now c.args.direction) c.columns_with.result c.columns_with.ensures
    (columns_fit c.args.para.now c.args.direction)

pub returns-clause-inside : goal.returns-clause-inside
returns-clause-inside c =
    if_ok (λ (columns : ColumnsOf). NamesInside columns (length c.args.para.now))
    (columns_of c.args.para.now c.args.direction) c.columns_with.result c.columns_with.ensures
    (columns_inside c.args.para.now c.args.direction c.requires.separators)
