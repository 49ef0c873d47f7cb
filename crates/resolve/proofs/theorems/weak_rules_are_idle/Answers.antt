use Rattle.resolve.proofs.Idle.{after_weak-idle}
use Rattle.resolve.proofs.theorems.weak_rules_are_idle.Goals as goal

pub returns : goal.returns
returns c = after_weak-idle
