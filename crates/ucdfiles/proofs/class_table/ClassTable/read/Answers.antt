use Rattle.units.specs.declared.class.Class.TheVariants.{L}
use Rattle.ucdfiles.specs.Tables.{class_by}
use Rattle.ucdfiles.proofs.States.{states-classes}
use Rattle.ucdfiles.proofs.class_table.ClassTable.read.Goals as goal

pub returns-in-Ok-clause-ok : goal.returns-in-Ok-clause-ok
unfolding class_by
returns-in-Ok-clause-ok g c =
    let o = c.in_ok-read_lines.ensures.outcome c.new-lines.ensures in (
      o.0,
      o.1,
      o.2.0,
      states-classes o.0 c.read_lines.new.table (class_by c.in-Ok.classes) o.2.1 o.2.2 (λ code within.
          rw (← c.data.ensures.value, ← c.defaults.ensures) (c.in-Ok.ensures code L within)),
    )
