-- The lines of a layout are in order (L2).
use Rattle.std.proofs.Common.{◌≡◌, ℕ, zero, suc, ◌-◌, ◌<◌, ◌≤◌, List, [], ◌∷◌, ◌∙◌, Option, Result, Ok, Err, length, refl, subst, sym, arith}
use Rattle.std.specs.Prelude.{◌↔◌, IsErr, OnOk, slice_index_or}
use Rattle.std.specs.List.{All}
use Rattle.std.proofs.lemmas.List.{length-map}
use Rattle.std.proofs.lemmas.List.Elements.{All-filter}
use Rattle.units.specs.Classes.{classes_of}
use Rattle.units.specs.Layout.{TextLayout, layout_of, lines_cut_at, lines_from}
use Rattle.units.specs.Limits.{LimitsOf}
use Rattle.units.specs.Positions.{positions_from}
use Rattle.units.specs.Reordering.{IsLineOrder, begins_line, cuts_of}
use Rattle.units.specs.declared.bracket.Unit.{Unit as BidiUnit}
use Rattle.units.specs.declared.class.Class.{Class}
use Rattle.units.specs.declared.level.Direction.{Direction}
use Rattle.units.proofs.Positions.{get_or-positions_from, length-positions_from}
use Rattle.lines.specs.Layouts.{no_line}
use Rattle.lines.proofs.Theorem.{line_order-is}
use Rattle.lines.proofs.Lengths.{length-levels}
use Rattle.room.specs.OrderedLines.{HasOrder, LinesHaveOrder}

from_cuts : (levels : List (Option ℕ)) (start end : ℕ) (cuts : List ℕ) (k : ℕ) → start < end → end ≤ length levels →
    All (λ cut. cut < end) cuts → k < length (lines_from levels start cuts end) →
    HasOrder levels (slice_index_or (lines_from levels start cuts end) k no_line)
from_cuts levels start end [] zero lt within below low = record { begins = omega (arith, lt, within); ordered = refl }
from_cuts levels start end [] (suc k) lt within below low = absurd (omega (arith, low))
from_cuts levels start end (cut ∷ cuts) zero lt within below low = record {
  begins = omega (arith, lt, within);
  ordered = refl;
}
from_cuts levels start end (cut ∷ cuts) (suc k) lt within below low =
    from_cuts levels cut end cuts k (below 0 0 (omega arith)) within (λ i d h. below (suc i) d (omega (arith, h)))
    (omega (arith, low))

cuts_below : (own : List Class) (breaks : List ℕ) (n : ℕ) → length own ≡ n → All (λ cut. cut < n) (cuts_of own breaks)
cuts_below own breaks n len =
    let all : List ℕ = positions_from 1 (length own - 1) in
    All-filter (begins_line own breaks) (λ (p : ℕ). p < n) all (λ i d h.
    let low : i < length own - 1 = omega (arith, h, length-positions_from 1 (length own - 1)) in
    let is = get_or-positions_from 1 (length own - 1) i d low in
    omega (arith, is, low, len))

of_cuts : (levels : List (Option ℕ)) (own : List Class) (breaks : List ℕ) (k : ℕ) → length own ≡ length levels →
    k < length (lines_cut_at levels (cuts_of own breaks)) →
    HasOrder levels (slice_index_or (lines_cut_at levels (cuts_of own breaks)) k no_line)
of_cuts [] own breaks k len lt = absurd (omega (arith, lt))
of_cuts (level ∷ levels) own breaks k len lt =
    from_cuts (level ∷ levels) 0 (length (level ∷ levels)) (cuts_of own breaks) k (omega arith) (omega arith)
    (cuts_below own breaks (length (level ∷ levels)) len) lt

-- each line of a defined layout begins within the text, and has the order of its levels
layout_ordered : (limits : LimitsOf) (text : List BidiUnit) (direction : Direction) (breaks : List ℕ) →
    LinesHaveOrder (layout_of limits text direction breaks)
unfolding layout_of
layout_ordered limits text direction breaks k lt =
    of_cuts _ (classes_of text) breaks k (length-map text (λ (u : BidiUnit). u.class) ∙
    sym (length-levels limits text direction breaks)) lt

-- the same for a layout that equals the defined one
pub in_order : (layout : TextLayout) (limits : LimitsOf) (text : List BidiUnit) (direction : Direction)
    (breaks : List ℕ)
    → layout ≡ layout_of limits text direction breaks → LinesHaveOrder layout
in_order layout limits text direction breaks is =
    subst LinesHaveOrder (sym is) (layout_ordered limits text direction breaks)

-- the same for the layout of a call that only fails if the text is too long
pub in_order_done : {E : Type 0} (done : Result (Unit {0}) E) (layout : TextLayout) (limits : LimitsOf)
    (text : List BidiUnit) (direction : Direction) (breaks : List ℕ) (room n : ℕ)
    → IsErr done ↔ (room < n) → n ≤ room → OnOk done (layout ≡ layout_of limits text direction breaks) →
    LinesHaveOrder layout
in_order_done (Ok all) layout limits text direction breaks room n long fits is =
    in_order layout limits text direction breaks is
in_order_done (Err fault) layout limits text direction breaks room n long fits is =
    absurd (omega (arith, long.0 refl, fits))

-- the same for the line that was laid out
pub line_in_order : (levels levels_read : List (Option ℕ)) (start end : ℕ) (order : List ℕ) → start ≤ end →
    levels_read ≡ levels → HasOrder levels (record { start = start; end = end; order = order }) →
    IsLineOrder levels_read start end order
line_in_order levels levels_read start end order forward read is =
    subst (λ (vs : List (Option ℕ)). IsLineOrder vs start end order) (sym read)
    (subst (IsLineOrder levels start end) (sym is.ordered) (line_order-is levels start end forward))
