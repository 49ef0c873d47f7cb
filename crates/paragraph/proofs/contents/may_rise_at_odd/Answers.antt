use Rattle.paragraph.proofs.ClassKinds.{any_rising_at_odd}
use Rattle.paragraph.proofs.contents.may_rise_at_odd.Goals as goal

pub returns : goal.returns
returns c = λ cs is. any_rising_at_odd cs _ _ _ (c.has.ensures cs is) (c.has-2.ensures cs is) (c.has-3.ensures cs is)
