use Rattle.std.proofs.Common.{arith, ap, sym, ◌∙◌, ◌++◌, ◌∷◌, [], List, ℕ}
use Rattle.std.proofs.lemmas.List.{take_more_set}
use Rattle.sequences.proofs.Marks.{positions_more}
use Rattle.sequences.proofs.one_sequence.write_all.Goals as goal

pub loop-p-preserved : goal.loop-p-preserved
loop-p-preserved g c =
    let p : ℕ = c.loop-p.p in
    record {
      placed = take_more_set c.loop-p.column p p (omega (arith, c.loop-p.auto.column)) ∙
          ap (λ (ps : List ℕ). ps ++ p ∷ []) c.loop-p.invariant.placed ∙ sym (positions_more p);
      steps = omega arith;
    }
