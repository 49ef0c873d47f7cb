use Rattle.std.proofs.Common.{◌++◌, ◌-◌, arith, ap, ◌∙◌, take}
use Rattle.std.proofs.lemmas.Slice.{take-put_mid}
use Rattle.visual.proofs.by_levels.reverse_span.Goals as goal

pub returns-clause-reversed : goal.returns-clause-reversed
returns-clause-reversed c =
    take-put_mid c.args.start (c.args.end - c.args.start) c.args.order.now c.reverse.new.self c.args.end (omega (
      arith,
      c.reverse.ensures.len,
      c.requires.forward,
      c.requires.within,
    )) (omega (
      arith,
      c.requires.forward,
      c.requires.within,
    ))
    ∙ ap (λ xs. take c.args.start c.args.order.now ++ xs) c.reverse.ensures.after
