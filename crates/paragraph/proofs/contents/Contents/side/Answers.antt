use Rattle.paragraph.proofs.contents.Contents.side.Goals as goal

pub returns : goal.returns
returns c = λ cs is. is.side
