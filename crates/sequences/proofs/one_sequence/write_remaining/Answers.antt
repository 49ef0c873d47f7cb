use Rattle.std.proofs.Common.{arith, ap, sym, ◌∙◌, ◌≡◌, ◌++◌, ◌∷◌, [], ℕ, List, length}
use Rattle.std.specs.Prelude.{not}
use Rattle.std.proofs.lemmas.List.{length-take-le, take_more_set}
use Rattle.units.specs.Classes.{class_at, classes_of}
use Rattle.units.specs.Layout.{no_unit}
use Rattle.units.specs.declared.bracket.Unit.{Unit as BidiUnit}
use Rattle.units.specs.declared.class.Class.{Class}
use Rattle.explicit.specs.Flat.{is_remaining}
use Rattle.units.proofs.Lengths.{length-classes_of}
use Rattle.sequences.proofs.Remaining.{before_gone, before_remaining, remaining_by_class, remaining_before}
use Rattle.sequences.proofs.one_sequence.write_remaining.Goals as goal
use Rattle.sequences.proofs.one_sequence.write_remaining.Goals.{then-not-is_removed, else-not-is_removed}

pub loop-p-preserved : goal.loop-p-preserved
loop-p-preserved g c =
    let us : List BidiUnit = c.args.para.now in
    let cs : List Class = classes_of us in
    let p : ℕ = c.loop-p.p in
    let here : is_remaining (class_at cs p) ≡ not c.is_removed.result =
    remaining_by_class us p no_unit c.is_removed.result c.loop-p-test.true c.is_removed.ensures in
    elim c.if-not-is_removed.branch [
      | then-not-is_removed w ↦ record {
        placed = rw (w.count-is, w.column-is) (
            take_more_set c.loop-p.column c.loop-p.count p (omega arith)
            ∙ ap (λ (ps : List ℕ). ps ++ p ∷ []) c.loop-p.invariant.placed
            ∙ sym (before_remaining cs p (here ∙ ap not w.if-not-is_removed.true))
            );
        within = rw w.count-is (omega arith);
        steps = omega arith;
      }
      | else-not-is_removed w ↦ record {
        placed = rw (w.count-is, w.column-is) (c.loop-p.invariant.placed ∙
            sym (before_gone cs p (here ∙ ap not w.if-not-is_removed.false)));
        within = rw w.count-is (omega arith);
        steps = omega arith;
      }
    ]

pub returns : goal.returns
returns g c =
    let cs : List Class = classes_of c.args.para.now in
    let n : c.loop-p.p ≡ length cs = omega (arith, length-classes_of c.args.para.now) in
    let placed = c.loop-p.invariant.placed ∙ ap (remaining_before cs) n in
    record {
      count = omega (arith, ap length placed, length-take-le c.loop-p.count c.loop-p.column (omega arith));
      placed = placed;
      within = omega arith;
      steps = omega arith;
    }
