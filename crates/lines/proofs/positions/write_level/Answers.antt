use Rattle.std.proofs.Common.{arith, rules, ap, ◌∙◌, ◌++◌, ◌∷◌, [], ℕ, List, Option, Some}
use Rattle.std.proofs.lemmas.List.{replicate_more, take_more_set}
use Rattle.lines.proofs.positions.write_level.Goals as goal

pub loop-k-preserved : goal.loop-k-preserved
loop-k-preserved g c =
    let l = c.loop-k in
    let one : Option ℕ = Some c.args.level in
    record {
      written = take_more_set l.levels l.k one (search rules)
          ∙ ap (λ (xs : List (Option ℕ)). xs ++ one ∷ []) l.invariant.written
          ∙ replicate_more l.k one;
      steps = omega (arith, c.tick.ensures, l.invariant.steps);
    }
