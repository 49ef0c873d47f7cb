use Rattle.lines.proofs.Theorem.{line_order-is, line_order-only, line_order-places}
use Rattle.lines.proofs.theorems.order_theorem.Goals as goal

pub returns-clause-is : goal.returns-clause-is
returns-clause-is c = line_order-is c.args.levels.now c.args.start c.args.end c.requires.line

pub returns-clause-only : goal.returns-clause-only
returns-clause-only c = λ other h. line_order-only c.args.levels.now c.args.start c.args.end other c.requires.line h

pub returns-clause-places : goal.returns-clause-places
returns-clause-places c = line_order-places c.args.levels.now c.args.start c.args.end c.requires.line c.requires.within
