use Rattle.std.proofs.Common.{◌≡◌, ◌-◌, ℕ, List, length, take, drop, subst, sym, arith}
use Rattle.std.proofs.lemmas.List.{length-drop, take_all}
use Rattle.report.specs.declared.wrong_case.WrongCase.{WrongCase}
use Rattle.report.specs.PrintedReports.{HasReported}
use Rattle.report.proofs.Printing.{HasGone, more-gone, nothing-gone}
use Rattle.report.proofs.print.print_piece.Goals as goal

pub loop-rest-init : goal.loop-rest-init
loop-rest-init g c = nothing-gone c.args.report.now c.args.most (g.W.Write.contents c.args.w.now) c.args.piece.now

pub loop-rest-preserved : goal.loop-rest-preserved
loop-rest-preserved g c =
    let rest = c.loop-rest.rest.now in
    let used = c.take-used.result in
    let remaining = c.in_ok-remaining.remaining in
    let old = g.W.Write.contents c.args.w.now in
    let new = g.W.Write.contents c.print_first.new.w in
    let reported = subst (λ (ws : List WrongCase).
    HasReported c.loop-rest.report ws (take used rest) c.take-used.new.self)
    (sym c.found.ensures) c.take-used.ensures.reports in
    let all : take (length rest - used) (drop used rest) ≡ drop used rest =
    take_all (length rest - used) (drop used rest) (omega (arith, length-drop used rest)) in
    subst (λ (following : List ℕ).
    HasGone c.args.report.now c.take-used.new.self c.args.most remaining old new c.args.piece.now following)
    (sym all)
    (more-gone c.args.report.now c.args.most old c.args.piece.now _ _ _ _ _ _ _ used c.found.result.now
    c.loop-rest.invariant reported c.in_ok-remaining.ensures.written)
