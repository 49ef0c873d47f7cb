use Rattle.std.proofs.Common.{arith, ◌+◌, ◌<◌, ◌≤◌, length, take, ap, ◌∙◌}
use Rattle.std.proofs.lemmas.List.{length-take-le}
use Rattle.units.specs.Text.{longest_line}
use Rattle.units.specs.LineCutting.{Cutting}
use Rattle.units.proofs.LineCuttingSteps.{holds_over}
use Rattle.units.proofs.line_cut.LineCut.hold.Goals as goal

pub returns-then-text-self-clause-represents : goal.returns-then-text-self-clause-represents
returns-then-text-self-clause-represents c =
    let n = c.self.inside.len in
    let fits : n ≤ length c.self.inside.buffer = omega (arith, c.self.invariant, c.self.told) in
    let over : longest_line < length (take n c.self.inside.buffer) + length c.args.text.now =
    omega (arith, c.if-text-self.true, length-take-le n c.self.inside.buffer fits) in
    rw (← c.self.view_is) (λ b s. holds_over _ b _ _ (ap (λ (v : Cutting). v.phase) c.self.view_is ∙
    c.requires.within) c.requires.feeds over s)
