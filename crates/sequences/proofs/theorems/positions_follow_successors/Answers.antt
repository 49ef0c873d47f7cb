use Rattle.sequences.proofs.AlongSequences.{successors_along, enough_steps}
use Rattle.sequences.proofs.theorems.positions_follow_successors.Goals as goal

pub returns-clause-next : goal.returns-clause-next
returns-clause-next c = λ t j s leveled found k within. successors_along t leveled j k s found within

pub returns-clause-whole : goal.returns-clause-whole
returns-clause-whole c = enough_steps
