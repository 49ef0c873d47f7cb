use Rattle.std.proofs.Common.{◌∙◌, ap}
use Rattle.std.proofs.lemmas.List.{map-id}
use Rattle.units.specs.Layout.{layout_of}
use Rattle.units.specs.Limits.{LimitsOf}
use Rattle.ucdfiles.specs.Tables.{units_by}
use Rattle.room.proofs.AtBreaks.{broken_as_asked}
use Rattle.room.proofs.text.room_with.Goals as goal

-- each code point is a character, so that the text is broken at the breaks
pub returns : goal.returns
returns c =
    let leaves = rw c.unwrap.ensures at c.lay_out.ensures in
    broken_as_asked _ _ _ _ leaves c.args.breaks.now c.requires.breaks (map-id c.args.breaks.now) ∙
    ap (λ (l : LimitsOf). layout_of l (units_by c.args.tables.now c.args.codes.now) c.args.direction c.args.breaks.now)
    c.standard.ensures
