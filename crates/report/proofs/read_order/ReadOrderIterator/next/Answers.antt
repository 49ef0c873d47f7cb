use Rattle.std.proofs.Common.{◌≡◌, ◌-◌, ◌+◌, [], ◌∷◌, take, drop, get_or, length, sym, ap, ◌∙◌, arith}
use Rattle.std.proofs.lemmas.List.{length-drop, take_all}
use Rattle.report.specs.Comparing.{remaining_order}
use Rattle.report.specs.ReadExpected.{order_read}
use Rattle.report.proofs.ReadOrders.{first-read, none-read}
use Rattle.report.proofs.read_order.ReadOrderIterator.next.Goals as goal

pub returns-in_err-at-clause-steps : goal.returns-in_err-at-clause-steps
returns-in_err-at-clause-steps c =
    let none : remaining_order c.args.self.now ≡ [] =
    none-read c.args.self.now.compared c.args.self.now.levels.now c.args.self.now.order.now (sym c.first_read.ensures ∙
    c.in_err-at.was) in
    rw (c.from_residual.ensures) (none, none)

pub returns-clause-steps : goal.returns-clause-steps
returns-clause-steps c =
    let own = c.args.self.now in
    let order = own.order.now in
    let following = c.in_ok-at.at + 1 in
    let all : take (length order - following) (drop following order) ≡ drop following order =
    take_all (length order - following) (drop following order) (omega (arith, length-drop following order)) in
    first-read own.compared own.levels.now order c.in_ok-at.at 0 (sym c.in_ok-at.ensures)
    ∙ ap (λ ps. get_or order c.in_ok-at.at 0 ∷ order_read own.compared own.levels.now ps) (sym all)

pub returns-clause-goes : goal.returns-clause-goes
returns-clause-goes c =
    let fewer = ap length (returns-clause-steps c) in
    record { on = λ _. (tt, tt, omega (arith, fewer)); keeps = tt; rests = λ _. tt }
