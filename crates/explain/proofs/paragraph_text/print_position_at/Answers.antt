use Rattle.explain.proofs.Finished.{OnOk-to}
use Rattle.explain.proofs.SamePosition.{same_position}
use Rattle.explain.proofs.paragraph_text.print_position_at.Goals as goal

pub returns : goal.returns
returns g c =
    let same = same_position _ _ _ _ _ _ _ c.character_at-character.ensures c.classes_through-classes.ensures
    c.levels_through-levels.ensures in
    OnOk-to c.print_position.result _ _ _ _ same c.print_position.ensures
