-- L2 of one line alone: its order in the text is its order alone, with the start of the line added to each position.
use Rattle.std.proofs.Common.{◌≡◌, ℕ, ◌+◌, ◌-◌, ◌<◌, ◌≤◌, Bool, true, false, cond, Option, Some, None, List, [], ◌∷◌, length, zero, suc, refl, sym, ap, ◌∙◌, inl, inr, arith, get_or}
use Rattle.std.specs.Prelude.{fold, map, slice_range}
use Rattle.std.proofs.lemmas.List.{ext_get_or}
use Rattle.std.proofs.lemmas.List.Edits.{get_or-between, length-between}
use Rattle.units.specs.Reordering.{is_even_level, least_of, line_order, order_from, placed, placed_if, precedes}
use Rattle.lines.specs.LinePositions.{IsAmong}
use Rattle.lines.proofs.LineOrder.{order_from-in_order}

-- the levels of the line are those of the text from start on
record AreLevelsFrom (all : List (Option ℕ)) (start : ℕ) (line : List (Option ℕ)) : Type 0 where
  pub within : start + length line ≤ length all
  pub same : (j : ℕ) → j < length line → get_or all (start + j) None ≡ get_or line j None

module _ (all : List (Option ℕ)) (start : ℕ) (line : List (Option ℕ)) (a : AreLevelsFrom all start line) where
  -- a position of the line, as a position of the text
  abbrev moved : ℕ → ℕ
  moved p = start + p

  range_same : (i j : ℕ) → i ≤ j → j < length line →
      slice_range all (start + i) (start + j + 1) ≡ slice_range line i (j + 1)
  range_same i j le lt =
      let within = a.within in
      let whole : length (slice_range all (start + i) (start + j + 1)) ≡ start + j + 1 - (start + i) =
      length-between all (start + i) (start + j + 1) (omega arith) in
      let part : length (slice_range line i (j + 1)) ≡ j + 1 - i = length-between line i (j + 1) (omega arith) in
      ext_get_or None (slice_range all (start + i) (start + j + 1)) (slice_range line i (j + 1)) (omega arith) (λ k low.
      let e : start + i + k ≡ start + (i + k) = omega arith in
      get_or-between all (start + i) (start + j + 1) k None (omega arith)
      ∙ ap (λ q. get_or all q None) e
      ∙ a.same (i + k) (omega arith)
      ∙ sym (get_or-between line i (j + 1) k None (omega arith)))

  before_same : (i j : ℕ) → i ≤ j → j < length line → precedes all (start + i) (start + j) ≡ precedes line i j
  before_same i j le lt = ap (λ (xs : List (Option ℕ)). is_even_level (fold least_of None xs)) (range_same i j le lt)

  placed_same_by : (b : Bool) (i j : ℕ) (js ks : List ℕ) → ks ≡ map moved (placed line i js) →
      cond b ((start + i) ∷ (start + j) ∷ map moved js) ((start + j) ∷ ks) ≡
      map moved (cond b (i ∷ j ∷ js) (j ∷ placed line i js))
  placed_same_by true i j js ks e = refl
  placed_same_by false i j js ks e = ap (λ xs. (start + j) ∷ xs) e

  placed_same : (i : ℕ) (js : List ℕ) →
      ((j : ℕ) → IsAmong js j → precedes all (start + i) (start + j) ≡ precedes line i j) →
      placed all (start + i) (map moved js) ≡ map moved (placed line i js)
  placed_same i [] same = refl
  placed_same i (j ∷ js) same =
      ap (λ b. cond b ((start + i) ∷ (start + j) ∷ map moved js) ((start + j) ∷ placed all (start + i) (map moved js)))
      (same j (inl refl))
      ∙ placed_same_by (precedes line i j) i j js (placed all (start + i) (map moved js)) (placed_same i js (λ k h.
      same k (inr h)))

  placed_if_same : (o : Option ℕ) (i : ℕ) (js : List ℕ) →
      ((j : ℕ) → IsAmong js j → precedes all (start + i) (start + j) ≡ precedes line i j) →
      placed_if all (start + i) o (map moved js) ≡ map moved (placed_if line i o js)
  placed_if_same None i js same = refl
  placed_if_same (Some v) i js same = placed_same i js same

  order_same : (i count : ℕ) → i + count ≤ length line →
      order_from all (start + i) count ≡ map moved (order_from line i count)
  order_same i zero h = refl
  order_same i (suc count) h =
      let rest : List ℕ = order_from line (i + 1) count in
      let e : start + i + 1 ≡ start + (i + 1) = omega arith in
      let next : order_from all (start + i + 1) count ≡ map moved rest =
      ap (λ q. order_from all q count) e ∙ order_same (i + 1) count (omega arith) in
      let later = order_from-in_order line (i + 1) count (i + 1 + count) refl in
      ap (placed_if all (start + i) (get_or all (start + i) None)) next
      ∙ ap (λ o. placed_if all (start + i) o (map moved rest)) (a.same i (omega arith))
      ∙ placed_if_same (get_or line i None) i rest (λ j among.
      let inside = later.holds.sound j among in
      before_same i j (omega (arith, inside.0)) (omega (arith, inside.1)))

-- the order of the line alone, with its start added
pub order_alone : (all line : List (Option ℕ)) (start end : ℕ) → line ≡ slice_range all start end → start ≤ end →
    end ≤ length all → map (λ p. start + p) (line_order line 0 (length line)) ≡ line_order all start end
unfolding line_order
order_alone all line start end is forward within =
    let long : length line ≡ end - start = ap length is ∙ length-between all start end within in
    let a : AreLevelsFrom all start line = record {
      within = omega arith;
      same = λ j low. sym (ap (λ xs. get_or xs j None) is ∙ get_or-between all start end j None (omega arith));
    } in
    let e : start + 0 ≡ start = omega arith in
    let n : length line - 0 ≡ end - start = omega arith in
    ap (λ k. map (λ p. start + p) (order_from line 0 k)) n
    ∙ sym (order_same all start line a 0 (end - start) (omega arith))
    ∙ ap (λ q. order_from all q (end - start)) e
