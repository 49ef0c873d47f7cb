use Rattle.explicit.proofs.LevelsComputed.WantedLevels.{odd_least, even_least, wanted_least}
use Rattle.explicit.proofs.theorems.wanted_levels_are_least.Goals as goal

pub returns-clause-odd : goal.returns-clause-odd
returns-clause-odd c = odd_least

pub returns-clause-even : goal.returns-clause-even
returns-clause-even c = even_least

pub returns-clause-wanted : goal.returns-clause-wanted
returns-clause-wanted c = wanted_least
