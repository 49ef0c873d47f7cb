-- The order of a text has at most as many positions as the text, and each is one of them.
use Rattle.std.proofs.Common.{◌≡◌, ℕ, zero, suc, ◌+◌, ◌-◌, ◌<◌, ◌≤◌, Bool, true, false, cond, Option, Some, None, List, [], ◌∷◌, ◌++◌, length, filter, slice_index_or, refl, sym, ap, ◌∙◌, arith, subst}
use Rattle.std.specs.List.{All, flat_map}
use Rattle.std.proofs.lemmas.List.{length-append, append-nil}
use Rattle.std.proofs.lemmas.List.Elements.{All-nil, All-append}
use Rattle.units.specs.Classes.{classes_of}
use Rattle.units.specs.Layout.{LineLayout, lines_from, lines_cut_at, para_levels_of, text_levels, layout_of, all_orders}
use Rattle.units.specs.Limits.{LimitsOf}
use Rattle.units.specs.Positions.{positions_from}
use Rattle.units.specs.Reordering.{after_resets, begins_line, cuts_of, line_order, order_from, placed, placed_if, precedes}
use Rattle.units.specs.declared.bracket.Unit.{Unit as BidiUnit}
use Rattle.units.specs.declared.class.Class.{Class}
use Rattle.units.specs.declared.level.Direction.{Direction}
use Rattle.units.proofs.Lengths.{length-classes_of}
use Rattle.lines.proofs.Theorem.{line_order-places}
use Rattle.lines.proofs.Lengths.{length-levels}

length-placed : (levels : List (Option ℕ)) (i : ℕ) (js : List ℕ) → length (placed levels i js) ≡ suc (length js)
length-placed levels i [] = refl
length-placed levels i (j ∷ js) =
    elim (precedes levels i j) as (λ b. length (cond b (i ∷ j ∷ js) (j ∷ placed levels i js)) ≡ suc (suc (length js))) [
      | true ↦ refl
      | false ↦ ap (λ n. suc n) (length-placed levels i js)
    ]

length-placed_if : (levels : List (Option ℕ)) (i : ℕ) (level : Option ℕ) (js : List ℕ) →
    length (placed_if levels i level js) ≤ suc (length js)
length-placed_if levels i None js = omega arith
length-placed_if levels i (Some level) js = omega (arith, length-placed levels i js)

length-order_from : (levels : List (Option ℕ)) (i count : ℕ) → length (order_from levels i count) ≤ count
length-order_from levels i zero = omega arith
length-order_from levels i (suc count) =
    omega (
      arith,
      length-placed_if levels i (slice_index_or levels i None) (order_from levels (i + 1) count),
      length-order_from levels (i + 1) count,
    )

length-line_order : (levels : List (Option ℕ)) (start end : ℕ) → length (line_order levels start end) ≤ end - start
unfolding line_order
length-line_order levels start end = length-order_from levels start (end - start)

-- positions of a text of this length, at most `most` of them
pub record AreFewPlaces (len most : ℕ) (order : List ℕ) : Type 0 where
  pub few : length order ≤ most
  pub places : All (λ p. p < len) order

-- the orders of these lines, joined
abbrev orders : List LineLayout → List ℕ
orders lines = flat_map (λ line. line.order) lines

module _ (levels : List (Option ℕ)) where
  one-line : (start end : ℕ) → start ≤ end → end ≤ length levels →
      AreFewPlaces (length levels) (end - start) (orders (lines_from levels start [] end))
  one-line start end le within =
      let e : line_order levels start end ++ [] ≡ line_order levels start end =
      append-nil (line_order levels start end) in
      subst (AreFewPlaces (length levels) (end - start)) (sym e)
      (record { few = length-line_order levels start end; places = line_order-places levels start end le within })

  line-more : (start cut end : ℕ) (more : List ℕ) → start ≤ cut → cut ≤ end → end ≤ length levels →
      AreFewPlaces (length levels) (end - cut) more
      → AreFewPlaces (length levels) (end - start) (line_order levels start cut ++ more)
  line-more start cut end more le before within rest = record {
    few = omega (arith, length-append (line_order levels start cut) more, length-line_order levels start cut, rest.few);
    places = All-append (λ p. p < length levels) (line_order levels start cut) more
        (line_order-places levels start cut le (omega arith)) rest.places;
  }

  lines-few : (test : ℕ → Bool) (count start from end : ℕ) → start ≤ from → from + count ≤ end → end ≤ length levels
      → AreFewPlaces (length levels) (end - start)
      (orders (lines_from levels start (filter test (positions_from from count)) end))
  lines-few test zero start from end le before within = one-line start end (omega arith) within
  lines-few test (suc count) start from end le before within =
      let rest = lines-few test count in
      elim (test from) as (λ b.
      AreFewPlaces (length levels) (end - start)
      (orders (lines_from levels start (cond b (from ∷ filter test (positions_from (from + 1) count))
      (filter test (positions_from (from + 1) count))) end))) [
        | true ↦ line-more start from end _ le (omega arith) within
            (rest from (from + 1) end (omega arith) (omega arith) within)
        | false ↦ rest start (from + 1) end (omega arith) (omega arith) within
      ]

cut-few : (levels : List (Option ℕ)) (own : List Class) → length own ≡ length levels →
    AreFewPlaces (length levels) (length levels) (orders (lines_cut_at levels (cuts_of own [])))
cut-few [] own same = record { few = omega arith; places = All-nil (λ p. p < 0) }
cut-few (level ∷ levels) own same =
    let n : length (level ∷ levels) - 0 ≡ length (level ∷ levels) = omega arith in
    subst (λ most. AreFewPlaces (length (level ∷ levels)) most
    (orders (lines_cut_at (level ∷ levels) (cuts_of own [])))) n
    (lines-few (level ∷ levels) (begins_line own []) (length own - 1) 0 1 (length (level ∷ levels)) (omega arith)
    (omega arith) (omega arith))

pub order-few : (limits : LimitsOf) (text : List BidiUnit) (direction : Direction) →
    AreFewPlaces (length text) (length text) (all_orders (layout_of limits text direction []))
unfolding layout_of
order-few limits text direction =
    let own = classes_of text in
    let levels : List (Option ℕ) =
    after_resets own [] (para_levels_of text direction) (text_levels limits text direction) in
    let n : length levels ≡ length text = length-levels limits text direction [] in
    subst (λ len. AreFewPlaces len len (orders (lines_cut_at levels (cuts_of own [])))) n
    (cut-few levels own (length-classes_of text ∙ sym n))
