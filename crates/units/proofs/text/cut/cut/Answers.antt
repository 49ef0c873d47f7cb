use Rattle.std.proofs.Common.{◌==◌, sym}
use Rattle.units.proofs.Cuts.{before_first-none, before_first-some, after_first-some, pieces-none, pieces-some}
use Rattle.units.proofs.text.cut.cut.Goals as goal

pub returns-in-None-clause-pieces : goal.returns-in-None-clause-pieces
returns-in-None-clause-pieces c = pieces-none (λ b. b == c.args.separator) c.args.bytes.now c.in-None.ensures

pub returns-in-None-clause-before : goal.returns-in-None-clause-before
returns-in-None-clause-before c = before_first-none (λ b. b == c.args.separator) c.args.bytes.now c.in-None.ensures

pub returns-in-None-clause-following : goal.returns-in-None-clause-following
returns-in-None-clause-following c =
    sym (before_first-none (λ b. b == c.args.separator) c.args.bytes.now c.in-None.ensures)

pub returns-in-Some-clause-pieces : goal.returns-in-Some-clause-pieces
returns-in-Some-clause-pieces c =
    pieces-some (λ b. b == c.args.separator) c.args.bytes.now c.in-Some.at c.in-Some.ensures

pub returns-in-Some-clause-before : goal.returns-in-Some-clause-before
returns-in-Some-clause-before c =
    before_first-some (λ b. b == c.args.separator) c.args.bytes.now c.in-Some.at c.in-Some.ensures

pub returns-in-Some-clause-following : goal.returns-in-Some-clause-following
returns-in-Some-clause-following c =
    after_first-some (λ b. b == c.args.separator) c.args.bytes.now c.in-Some.at c.in-Some.ensures
