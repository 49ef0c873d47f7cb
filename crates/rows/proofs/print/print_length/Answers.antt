use Rattle.std.proofs.Common.{◌≡◌, ◌∙◌, ℕ, length, ap, arith, refl}
use Rattle.units.specs.Limits.{standard}
use Rattle.printing.proofs.Appending.{Appends-to}
use Rattle.printing.proofs.Printing.{nothing_printed, one_more_printed}
use Rattle.printing.specs.LevelsText.{printed}
use Rattle.rows.specs.RowTexts.{cases_text}
use Rattle.rows.specs.Exhaustive.{cases_of_number}
use Rattle.rows.proofs.JoinedTexts.{text-between}
use Rattle.rows.proofs.RoomsUnchanged.{room-unchanged, room-still}
use Rattle.rows.proofs.print.print_length.Goals as goal

pub loop-number-init : goal.loop-number-init
loop-number-init g c = record { printed = nothing_printed _ _ _; room = room-unchanged _; size = refl }

pub loop-number-preserved : goal.loop-number-preserved
loop-number-preserved g c =
    let same = ap (λ (n : ℕ).
    cases_text standard c.args.kind
    (cases_of_number c.args.alphabet.now c.args.directions.now n c.loop-number.number)) c.loop-number.invariant.size
    in
    record {
      printed = one_more_printed _ _ _ _ _ _ (omega arith) c.loop-number.invariant.printed
          (Appends-to _ _ _ _ same c.in_ok-print_numbered.ensures.printed);
      room = room-still _ _ _ c.loop-number.invariant.room c.print_numbered.ensures.room;
      size = c.print_numbered.ensures.length ∙ c.loop-number.invariant.size;
    }

pub returns-clause-printed : goal.returns-clause-printed
returns-clause-printed g c =
    let cases = cases_of_number c.args.alphabet.now c.args.directions.now (length c.args.text.now) in
    let all : c.loop-number.number ≡ c.pow-count.result = omega arith in
    let text = λ (n : ℕ). cases_text standard c.args.kind (cases n) in
    Appends-to _ _ _ _ (ap (printed text 0) (all ∙ c.pow-count.ensures) ∙
    text-between standard c.args.kind cases 0 _) c.loop-number.invariant.printed.grown
