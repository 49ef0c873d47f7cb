use Rattle.paragraph.specs.Covering.{positions_in}
use Rattle.rule_columns.specs.Columns.{explicit_view}
use Rattle.rule_columns.proofs.PuttingTogether.{columns_from, own_from}
use Rattle.rule_columns.proofs.columns.columns_with.Goals as goal

pub of-requires-3-clause-own : goal.of-requires-3-clause-own
of-requires-3-clause-own g c =
    let explicit = c.in_ok-explicit.explicit in
    own_from c.args.para.now c.args.direction (explicit_view explicit) c.in_ok-current.current.items
    c.in_ok-explicit.ensures.value c.in_ok-explicit.ensures.length c.in_ok-current.ensures
    (positions_in explicit.sequences.all)

pub returns : goal.returns
returns g c =
    let explicit = c.in_ok-explicit.explicit in
    columns_from c.args.para.now c.args.direction (explicit_view explicit) c.in_ok-current.current.items
    c.in_ok-explicit.ensures.value c.in_ok-explicit.ensures.length c.in_ok-current.ensures
    c.in_ok-classes.classes c.in_ok-shown.shown c.in_ok-classes.ensures c.in_ok-shown.ensures
