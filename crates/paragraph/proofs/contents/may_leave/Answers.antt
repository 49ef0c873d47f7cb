use Rattle.paragraph.proofs.ClassKinds.{any_leaving}
use Rattle.paragraph.proofs.contents.may_leave.Goals as goal

pub returns : goal.returns
returns c = λ cs is. any_leaving cs _ _ _ _ _ _ (c.has.ensures cs is) (c.has-2.ensures cs is) (c.has-3.ensures cs is)
    (c.has-4.ensures cs is) (c.has-5.ensures cs is) (c.has-6.ensures cs is)
