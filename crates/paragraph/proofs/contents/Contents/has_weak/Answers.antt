use Rattle.paragraph.proofs.ClassKinds.{any_weak}
use Rattle.paragraph.proofs.contents.Contents.has_weak.Goals as goal

pub returns : goal.returns
returns c = λ cs is. any_weak cs _ _ _ _ _ _ (c.has.ensures cs is.classes) (c.has-2.ensures cs is.classes)
    (c.has-3.ensures cs is.classes) (c.has-4.ensures cs is.classes) (c.has-5.ensures cs is.classes)
    (c.has-6.ensures cs is.classes)
