use Rattle.std.proofs.Common.{rules, arith, refl, ap, ◌∙◌}
use Rattle.lines.specs.Scratches.{layout_in}
use Rattle.lines.proofs.lay_out.lay_out_with.Goals as goal

pub returns : goal.returns
returns g c =
    let written = c.layout.ensures ∙ ap layout_in c.frozen.ensures.same in (
      (refl, (λ _. tt), (search rules, tt, search rules)),
      record {
        keeps = tt;
        too_long =
            ((λ same. absurd cc), (λ less. absurd (omega arith)));
        laid_out = written ∙ search rules;
        at_least =
            omega arith;
        at_most = omega arith;
        if_uniform = search rules;
      },
    )

pub returns-then-text-room : goal.returns-then-text-room
returns-then-text-room g c = (
  (refl, (λ _. tt), (search rules, refl, tt)),
  record {
    keeps = tt;
    too_long = ((λ _. omega arith), (λ _. refl));
    laid_out = tt;
    at_least = tt;
    at_most = omega arith;
    if_uniform = λ _. omega arith;
  },
)
