use Rattle.units.specs.Classes.{classes_of}
use Rattle.paragraph.specs.LeftToRight.{may_leave}
use Rattle.paragraph.proofs.FlatLevels.{none_from}
use Rattle.paragraph.proofs.LeftToRight.{keeps_explicit_levels}
use Rattle.paragraph.proofs.theorems.left_to_right_keeps_explicit_levels.Goals as goal

pub returns : goal.returns
returns c = λ limits us allowed only none.
    keeps_explicit_levels limits allowed.depth_within us only (none_from may_leave (classes_of us) none)
