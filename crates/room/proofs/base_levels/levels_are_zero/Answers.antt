use Rattle.room.proofs.ParagraphsAtZero.{auto_leaves, ltr_leaves, zero_under}
use Rattle.units.specs.declared.level.Direction.TheVariants.{Auto, Ltr}
use Rattle.room.proofs.base_levels.levels_are_zero.Goals as goal

pub returns : goal.returns
returns c limits text h =
    record {
      found = zero_under Auto auto_leaves limits text h;
      asked = zero_under Ltr ltr_leaves limits text h;
    }
