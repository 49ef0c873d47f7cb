use Rattle.std.proofs.Common.{◌≡◌, ℕ, suc, ◌+◌, ◌-◌, List, arith, ap, ◌∙◌}
use Rattle.std.specs.Prelude.{slice_index}
use Rattle.units.specs.Classes.{class_at}
use Rattle.units.specs.declared.class.Class.{Class}
use Rattle.resolve.specs.Contexts.{unchanged_past, context_past_run}
use Rattle.resolve.specs.declared.weak.Context.{Context}
use Rattle.resolve.proofs.weak.Context.pass.Goals as goal

pub returns-then-end-start-clause-past : goal.returns-then-end-start-clause-past
returns-then-end-start-clause-past g c =
    let x : Context = c.args.self.now in
    let ps : List ℕ = c.args.positions.now in
    let cs : List Class = c.args.classes.now in
    let start : ℕ = c.args.start in
    let end : ℕ = c.pass_over-end.result in
    let n : ℕ = end - (start + 1) in
    let all : suc n ≡ end - start = omega (arith, c.if-end-start.true) in
    let last : end - 1 ≡ start + n = omega (arith, c.if-end-start.true) in
    c.keep.ensures ∙ ap (λ j. unchanged_past x (class_at cs (slice_index ps j))) last ∙
    ap (λ m. context_past_run x ps start m cs) all
