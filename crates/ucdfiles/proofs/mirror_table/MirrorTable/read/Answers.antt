use Rattle.std.proofs.Common.{◌≡◌, ℕ, None, Some, map}
use Rattle.ucdfiles.specs.Spans.{revalued}
use Rattle.ucdfiles.specs.Tables.{mirror_by}
use Rattle.ucdfiles.proofs.States.{states-mirrors}
use Rattle.ucdfiles.proofs.mirror_table.MirrorTable.read.Goals as goal

pub returns-in-Ok-new-clause-ok : goal.returns-in-Ok-new-clause-ok
unfolding mirror_by
returns-in-Ok-new-clause-ok g c =
    let o = c.in_ok-read_lines.ensures.outcome c.new-lines.ensures in
    let same : c.in-Ok.images.items ≡ map (revalued (λ (c : ℕ). Some c)) c.read_lines.new.table.data_lines =
    rw c.data.ensures.value at c.in-Ok.ensures.items in (
      o.0,
      o.1,
      o.2.0,
      states-mirrors o.0 c.read_lines.new.table c.in-Ok.images.items
          (mirror_by c.in-Ok-new.mirrored) o.2.1 o.2.2 same (λ code within.
          rw (← c.deref.ensures.value) (c.in-Ok-new.ensures code None within)),
    )
