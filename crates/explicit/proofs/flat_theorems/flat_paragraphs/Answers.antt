use Rattle.explicit.proofs.FlatParagraph.{para_level_of-flat}
use Rattle.explicit.proofs.WholeLevels.{resolved_levels-flat}
use Rattle.explicit.proofs.OneSequence.{sequences_of-flat}
use Rattle.explicit.proofs.flat_theorems.flat_paragraphs.Goals as goal

pub returns-clause-para_level : goal.returns-clause-para_level
returns-clause-para_level c = para_level_of-flat

pub returns-clause-one_sequence : goal.returns-clause-one_sequence
returns-clause-one_sequence c = sequences_of-flat

pub returns-clause-levels : goal.returns-clause-levels
returns-clause-levels c = resolved_levels-flat
