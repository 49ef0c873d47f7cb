use Rattle.resolve.proofs.InOrder.{resolved-in-order}
use Rattle.resolve.proofs.theorems.rules_in_order.Goals as goal

pub returns : goal.returns
returns c = resolved-in-order
