-- The positions on the lines of a text are in the text.
use Rattle.std.proofs.Common.{◌≡◌, ℕ, zero, suc, ◌+◌, ◌-◌, ◌<◌, ◌≤◌, Bool, Option, List, [], ◌∷◌, length, inl, inr, refl, arith}
use Rattle.std.specs.Prelude.{filter}
use Rattle.std.proofs.lemmas.Bool.{cases_Bool}
use Rattle.units.specs.Layout.{LineLayout, layout_of, lines_cut_at, lines_from}
use Rattle.units.specs.Limits.{LimitsOf}
use Rattle.units.specs.Positions.{positions_from}
use Rattle.units.specs.Reordering.{line_order}
use Rattle.units.specs.Classes.{classes_of}
use Rattle.units.specs.declared.bracket.Unit.{Unit as BidiUnit}
use Rattle.units.specs.declared.level.Direction.{Direction}
use Rattle.std.proofs.lemmas.List.{length-map}
use Rattle.lines.specs.LinePositions.{IsAmong}
use Rattle.lines.proofs.Lengths.{length-levels}
use Rattle.lines.proofs.LineOrder.{line_order-in_order}
use Rattle.printing.proofs.HeadBreaks.{AreBelow}

-- each position on these lines is below the end
abbrev pub LinesAreBelow : ℕ → List LineLayout → Type 0
LinesAreBelow n [] = Unit {0}
LinesAreBelow n (line ∷ lines) = AreBelow n line.order × LinesAreBelow n lines

below_each : (n : ℕ) (ps : List ℕ) → ((p : ℕ) → IsAmong ps p → p < n) → AreBelow n ps
below_each n [] each = tt
below_each n (p ∷ ps) each = (each p (inl refl), below_each n ps (λ q among. each q (inr among)))

order_below : (levels : List (Option ℕ)) (s e : ℕ) → s ≤ e → AreBelow e (line_order levels s e)
order_below levels s e low =
    below_each e (line_order levels s e) (λ p among. ((line_order-in_order levels s e low).holds.sound p among).1)

lines_below : (levels : List (Option ℕ)) (test : ℕ → Bool) (n count s p : ℕ) → s ≤ p → p + count ≡ n →
    LinesAreBelow n (lines_from levels s (filter test (positions_from p count)) n)
lines_below levels test n zero s p low e = (order_below levels s n (omega arith), tt)
lines_below levels test n (suc count) s p low e =
    elim (cases_Bool (test p)) [
      | inl begins ↦ rw begins (
        wider (line_order levels s p) (omega arith) (order_below levels s p low),
        lines_below levels test n count p (p + 1) (omega arith) (omega arith),
      )
      | inr within ↦ rw within (lines_below levels test n count s (p + 1) (omega arith) (omega arith))
    ]
  where
    wider : {a b : ℕ} (ps : List ℕ) → a ≤ b → AreBelow a ps → AreBelow b ps
    wider [] le all = tt
    wider (q ∷ ps) le all = (omega (arith, all.0), wider ps le all.1)

cut_below : (levels : List (Option ℕ)) (test : ℕ → Bool) →
    LinesAreBelow (length levels) (lines_cut_at levels (filter test (positions_from 1 (length levels - 1))))
cut_below [] test = tt
cut_below (x ∷ xs) test =
    lines_below (x ∷ xs) test (length (x ∷ xs)) (length (x ∷ xs) - 1) 0 1 (omega arith) (omega arith)

cut_to : (levels : List (Option ℕ)) (test : ℕ → Bool) (n k : ℕ) → length levels ≡ n → k ≡ n →
    LinesAreBelow n (lines_cut_at levels (filter test (positions_from 1 (k - 1))))
cut_to levels test n k e f = rw (f, ← e) (cut_below levels test)

pub layout_below : (limits : LimitsOf) (text : List BidiUnit) (direction : Direction) (breaks : List ℕ) →
    LinesAreBelow (length text) (layout_of limits text direction breaks).lines
unfolding layout_of
layout_below limits text direction breaks =
    cut_to _ _ (length text) (length (classes_of text)) (length-levels limits text direction breaks)
    (length-map text (λ (u : BidiUnit). u.class))
