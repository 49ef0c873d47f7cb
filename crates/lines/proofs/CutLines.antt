-- A text that is divided at the positions that pass a test, line by line.
use Rattle.std.proofs.Common.{◌≡◌, ℕ, ◌+◌, ◌-◌, ◌<◌, ◌≤◌, Bool, true, false, cond, Option, List, [], ◌∷◌, zero, suc, ap, ◌∙◌, arith}
use Rattle.std.specs.Prelude.{filter}
use Rattle.units.specs.Layout.{LineLayout, line_of, lines_from}
use Rattle.units.specs.Positions.{positions_from}
use Rattle.lines.specs.LineEnds.{EndsLineAt}

-- the lines of the last `count` positions
abbrev pub remaining_lines : List (Option ℕ) → (ℕ → Bool) → ℕ → ℕ → ℕ → List LineLayout
remaining_lines levels test start end zero = []
remaining_lines levels test start end (suc count) =
    lines_from levels start (filter test (positions_from (start + 1) count)) end

passes_none : (test : ℕ → Bool) (start count rest : ℕ) → ((p : ℕ) → start ≤ p → p < start + count → test p ≡ false) →
    filter test (positions_from start (count + rest)) ≡ filter test (positions_from (start + count) rest)
passes_none test start zero rest none = grind arith
passes_none test start (suc count) rest none =
    let e : suc count + rest ≡ suc (count + rest) = omega arith in
    let f : start + 1 + count ≡ start + suc count = omega arith in
    let next = filter test (positions_from (start + 1) (count + rest)) in
    ap (λ n. filter test (positions_from start n)) e
    ∙ ap (λ b. cond b (start ∷ next) next) (none start (omega arith) (omega arith))
    ∙ passes_none test (start + 1) count rest (λ p low high. none p (omega arith) (omega arith))
    ∙ ap (λ n. filter test (positions_from n rest)) f

cut_rest : (levels : List (Option ℕ)) (test : ℕ → Bool) (start end stop rest : ℕ) → end + rest ≡ stop →
    (end < stop → test end ≡ true) → lines_from levels start (filter test (positions_from end rest)) stop ≡
    line_of levels start end ∷ remaining_lines levels test end stop rest
cut_rest levels test start end stop zero e here = grind arith
cut_rest levels test start end stop (suc rest) e here = grind arith

-- the next line, and the lines after it
pub remaining_lines-next : (levels : List (Option ℕ)) (test : ℕ → Bool) (start end stop : ℕ) →
    EndsLineAt test start end stop →
    remaining_lines levels test start stop (stop - start) ≡ line_of levels start end ∷
    remaining_lines levels test end stop (stop - end)
remaining_lines-next levels test start end stop c =
    let between = end - (start + 1) in
    let rest = stop - end in
    let e : stop - start ≡ suc (between + rest) = omega (arith, c.above, c.within) in
    let f : start + 1 + between ≡ end = omega (arith, c.above) in
    let none : filter test (positions_from (start + 1) (between + rest)) ≡
    filter test (positions_from (start + 1 + between) rest) =
    passes_none test (start + 1) between rest (λ p low high. c.none p (omega arith) (omega (arith, f))) in
    ap (remaining_lines levels test start stop) e
    ∙ ap (λ cuts. lines_from levels start cuts stop) (none ∙ ap (λ n. filter test (positions_from n rest)) f)
    ∙ cut_rest levels test start end stop rest (omega (arith, c.within)) c.here
