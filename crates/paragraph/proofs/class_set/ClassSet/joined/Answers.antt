use Rattle.paragraph.proofs.JoinedSets.{joined_set}
use Rattle.paragraph.proofs.class_set.ClassSet.joined.Goals as goal

pub returns : goal.returns
returns c = joined_set c.args.self c.args.other
