use Rattle.std.proofs.Common.{◌∙◌, ap}
use Rattle.std.specs.Option.{unwrap_or}
use Rattle.room.proofs.Boundaries.{no_boundary}
use Rattle.room.proofs.room.Room.boundary_at.Goals as goal

pub returns-else-offset_of-at : goal.returns-else-offset_of-at
returns-else-offset_of-at c =
    no_boundary c.args.self.now c.offsets_rise.ensures.rising c.args.at c.index_of.result c.unwrap_or-index.result
    c.index_of.ensures
    (c.unwrap_or-index.ensures ∙ ap (unwrap_or c.index_of.result) c.characters-end.ensures) (λ e.
    c.if-offset_of-at.false (c.offset_of.ensures ∙ e))
