use Rattle.lines.proofs.Uniform.{uniform-rising, uniform-falling}
use Rattle.lines.proofs.theorems.uniform_theorem.Goals as goal

pub returns-clause-rising : goal.returns-clause-rising
returns-clause-rising c =
    λ even. uniform-rising c.args.levels.now c.args.start c.args.end c.args.level c.requires.line even
    c.requires.uniform

pub returns-clause-falling : goal.returns-clause-falling
returns-clause-falling c =
    λ odd. uniform-falling c.args.levels.now c.args.start c.args.end c.args.level c.requires.line odd c.requires.uniform
