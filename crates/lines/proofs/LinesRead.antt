-- The lines of a layout, as they are read one by one.
use Rattle.std.proofs.Common.{◌≡◌, ℕ, ◌+◌, ◌-◌, ◌<◌, List, length, ap, ◌∙◌, arith}
use Rattle.std.specs.Prelude.{slice_index_or}
use Rattle.std.proofs.lemmas.List.{get_or-map, length-map}
use Rattle.units.specs.Positions.{positions_from}
use Rattle.lines.specs.declared.bounds.Bound.{Bound}
use Rattle.lines.specs.Bounds.{line_in, lines_in}
use Rattle.lines.specs.Layouts.{no_line}
use Rattle.units.proofs.Positions.{length-positions_from, get_or-positions_from}

pub length-lines_in : (orders : List ℕ) (bounds : List Bound) → length (lines_in orders bounds) ≡ length bounds - 1
length-lines_in orders bounds =
    length-map (positions_from 0 (length bounds - 1)) (line_in orders bounds) ∙
    length-positions_from 0 (length bounds - 1)

pub line_read : (orders : List ℕ) (bounds : List Bound) (k : ℕ) → k < length bounds - 1 →
    slice_index_or (lines_in orders bounds) k no_line ≡ line_in orders bounds k
line_read orders bounds k h =
    let n = length bounds - 1 in
    let e : 0 + k ≡ k = omega arith in
    get_or-map (line_in orders bounds) (positions_from 0 n) k 0 no_line (omega (arith, length-positions_from 0 n))
    ∙ ap (line_in orders bounds) (get_or-positions_from 0 n k 0 h ∙ e)
