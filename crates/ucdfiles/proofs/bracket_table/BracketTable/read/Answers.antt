use Rattle.units.specs.declared.bracket.Bracket.TheVariants.{No}
use Rattle.ucdfiles.specs.Keys.{AreKeyed}
use Rattle.ucdfiles.specs.Tables.{bracket_by}
use Rattle.ucdfiles.proofs.Keyed.{states-brackets}
use Rattle.ucdfiles.proofs.Neutral.{is-table}
use Rattle.ucdfiles.proofs.bracket_table.BracketTable.read.Goals as goal

pub returns-in-Ok-new-clause-ok : goal.returns-in-Ok-new-clause-ok
unfolding bracket_by
returns-in-Ok-new-clause-ok g c =
    let o = c.in_ok-read_lines.ensures.outcome c.new-lines.ensures in
    let are : AreKeyed c.read_lines.new.table.data_lines c.in-Ok.spans.items =
    rw c.data.ensures.value at c.in-Ok.ensures.keyed in (
      o.0,
      o.1,
      o.2.0,
      states-brackets o.0 c.read_lines.new.table o.2.2 c.in-Ok.spans.items are o.2.1
          (bracket_by c.in-Ok-new.brackets) (λ code within.
          rw (← c.deref.ensures.value) (c.in-Ok-new.ensures code No within)),
    )

pub invariant_of-result : goal.invariant_of-result
invariant_of-result g c =
    is-table c.in-Ok.spans.items c.in-Ok-new.brackets (λ code d within.
    rw (← c.deref.ensures.value) (c.in-Ok-new.ensures code d within))
