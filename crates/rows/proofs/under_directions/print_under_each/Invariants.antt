use Rattle.std.proofs.Common.{◌≡◌, [], ◌∷◌, drop}
use Rattle.std.specs.Prelude.{IfSome}
use Rattle.units.specs.Limits.{standard}
use Rattle.lines.specs.Scratches.{room_of}
use Rattle.printing.proofs.Passing.{HasPrintedUpTo}
use Rattle.bidtests.specs.LaidOut.{IsLaidOut}
use Rattle.rows.specs.RowTexts.{cases_text}
use Rattle.rows.proofs.under_directions.print_under_each.Given as goal

abbrev pub invariant-loop-direction : goal.invariant-loop-direction
invariant-loop-direction g l = record {
  passed : HasPrintedUpTo (g.W.Write.contents l.initial.w) (g.W.Write.contents l.w) (λ d.
      cases_text standard l.kind (record { text = l.text; direction = d } ∷ [])) l.directions
      (drop l.direction-index l.directions);
  laid_out : IfSome l.laid_out (IsLaidOut standard l.units l.scratch);
  room : room_of l.scratch ≡ room_of l.fn.scratch;
}
