use Rattle.std.proofs.Common.{◌∙◌, ℕ, ap, arith, refl}
use Rattle.units.specs.Limits.{standard}
use Rattle.printing.proofs.Appending.{Appends-to}
use Rattle.printing.proofs.Printing.{nothing_printed, one_more_printed}
use Rattle.printing.specs.LevelsText.{printed}
use Rattle.rows.specs.RowTexts.{cases_text}
use Rattle.rows.specs.Random.{cases_of_draw}
use Rattle.rows.proofs.JoinedTexts.{text-between}
use Rattle.rows.proofs.RoomsUnchanged.{room-unchanged, room-still}
use Rattle.rows.proofs.print_random.print_draws.Goals as goal

pub loop-number-init : goal.loop-number-init
loop-number-init g c = record { printed = nothing_printed _ _ _; room = room-unchanged _; size = refl }

pub loop-number-preserved : goal.loop-number-preserved
loop-number-preserved g c = record {
  printed = one_more_printed _ _ _ _ _ _ (omega arith) c.loop-number.invariant.printed
      c.in_ok-print_draw.ensures.printed;
  room = room-still _ _ _ c.loop-number.invariant.room c.print_draw.ensures.room;
  size = c.print_draw.ensures.row ∙ c.loop-number.invariant.size;
}

pub returns-clause-printed : goal.returns-clause-printed
returns-clause-printed g c =
    let cases = cases_of_draw c.args.texts.now c.args.directions.now in
    let text = λ (n : ℕ). cases_text standard c.args.kind (cases n) in
    Appends-to _ _ _ _ (ap (printed text 0) (omega (arith, c.count-number-end.ensures)) ∙
    text-between standard c.args.kind cases 0 _) c.loop-number.invariant.printed.grown
