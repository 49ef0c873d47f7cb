use Rattle.std.proofs.Common.{◌∙◌, arith, refl}
use Rattle.std.proofs.lemmas.List.{drop_more, drop_all}
use Rattle.units.specs.Limits.{standard}
use Rattle.units.specs.declared.level.Direction.TheVariants.{Auto}
use Rattle.printing.proofs.Appending.{Appends-to}
use Rattle.printing.proofs.Passing.{nothing_passed, one_more_passed, all_passed}
use Rattle.rows.proofs.JoinedTexts.{text-under}
use Rattle.rows.proofs.under_directions.print_under_each.Goals as goal

pub loop-direction-init : goal.loop-direction-init
loop-direction-init g c = record { passed = nothing_passed _ _ _; laid_out = tt; room = refl }

pub loop-direction-preserved : goal.loop-direction-preserved
loop-direction-preserved g c = record {
  passed = one_more_passed _ _ _ _ _ _ _ _
      (drop_more c.args.directions.now c.loop-direction.direction-index Auto c.loop-direction-test.true)
      c.loop-direction.invariant.passed c.in_ok-print_laid_out.ensures;
  laid_out = rw c.standard-limits.ensures at c.lay_out_again-laid_out.ensures.same;
  room = c.lay_out_again-laid_out.ensures.room ∙ c.loop-direction.invariant.room;
}

pub returns-clause-printed : goal.returns-clause-printed
returns-clause-printed g c =
    Appends-to _ _ _ _ (text-under standard c.args.kind c.args.text.now c.args.directions.now)
    (all_passed _ _ _ _ _ (drop_all c.loop-direction.direction-index c.args.directions.now (omega arith))
    c.loop-direction.invariant.passed)
