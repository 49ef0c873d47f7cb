-- The lines of a text, written one after the other.
use Rattle.std.proofs.Common.{◌≡◌, ℕ, ◌+◌, ◌-◌, ◌<◌, ◌≤◌, Bool, Option, List, [], ◌∷◌, ◌++◌, length, drop, zero, suc, refl, sym, ap, ◌∙◌, subst, inl, inr, arith, append_assoc, length-append}
use Rattle.std.specs.Prelude.{map, slice_range}
use Rattle.std.specs.List.{All}
use Rattle.std.proofs.lemmas.List.{append-nil, take_all, take-append-le, drop_at, map_push}
use Rattle.std.proofs.Math.ListN.{get_or-append}
use Rattle.std.proofs.Math.Seq.{get_or-append_seam}
use Rattle.std.proofs.lemmas.List.Elements.{All-append}
use Rattle.std.proofs.lemmas.Slice.{between_is}
use Rattle.std.proofs.lemmas.Bool.{cases_lt}
use Rattle.units.specs.Layout.{LineLayout, line_of, lines_cut_at}
use Rattle.units.specs.Positions.{positions_from}
use Rattle.units.specs.Reordering.{begins_line, cuts_of, line_order}
use Rattle.units.specs.declared.class.Class.{Class}
use Rattle.lines.specs.declared.bounds.Bound.{Bound}
use Rattle.lines.specs.Bounds.{first_bound, bound_at, line_between, line_in, lines_in, Follows, AreBounds}
use Rattle.lines.specs.LineEnds.{EndsLineAt}
use Rattle.lines.proofs.CutLines.{remaining_lines, remaining_lines-next}
use Rattle.lines.proofs.Theorem.{line_order-places}
use Rattle.units.proofs.Positions.{positions_from-next}

-- the lines before the position start are written
pub record Filling (levels : List (Option ℕ)) (test : ℕ →
    Bool) (start : ℕ) (orders : List ℕ) (bounds : List Bound) : Type 0 where
  pub inside : start ≤ length levels
  pub few : length bounds ≤ start + 1
  pub fits : length orders ≤ start
  pub bounded : AreBounds levels orders bounds
  pub last : bound_at bounds (length bounds - 1) ≡ record { position = start; order = length orders }
  pub lines : lines_in orders bounds ++ remaining_lines levels test start (length levels) (length levels - start) ≡
      remaining_lines levels test 0 (length levels) (length levels)

one_inside : (limit k : ℕ) → k < 1 → (bound_at (first_bound ∷ []) k).position ≤ limit
one_inside limit zero h = omega arith
one_inside limit (suc k) h = absurd (omega arith)

one_written : (limit k : ℕ) → k < 1 → (bound_at (first_bound ∷ []) k).order ≤ limit
one_written limit zero h = omega arith
one_written limit (suc k) h = absurd (omega arith)

pub filling_start : (levels : List (Option ℕ)) (test : ℕ → Bool) → Filling levels test 0 [] (first_bound ∷ [])
filling_start levels test = grind (arith, one_inside, one_written)

bound_unchanged : (bounds : List Bound) (bound : Bound) (k : ℕ) → k < length bounds →
    bound_at (bounds ++ bound ∷ []) k ≡ bound_at bounds k
bound_unchanged bounds bound k h = get_or-append bounds (bound ∷ []) first_bound k h

bound_new : (bounds : List Bound) (bound : Bound) (k : ℕ) → k ≡ length bounds →
    bound_at (bounds ++ bound ∷ []) k ≡ bound
bound_new bounds bound k h = ap (bound_at (bounds ++ bound ∷ [])) h ∙ get_or-append_seam bounds bound [] first_bound

range_unchanged : (orders more : List ℕ) (a b : ℕ) → b ≤ length orders →
    slice_range (orders ++ more) a b ≡ slice_range orders a b
range_unchanged orders more a b h =
    between_is (orders ++ more) a b ∙ ap (drop a) (take-append-le b orders more h) ∙ sym (between_is orders a b)

range_new : (orders more : List ℕ) → slice_range (orders ++ more) (length orders) (length orders + length more) ≡ more
range_new orders more = grind (arith, between_is, take_all, length-append, drop_at)

map_same : (f g : ℕ → LineLayout) (start count : ℕ) → ((k : ℕ) → start ≤ k → k < start + count → f k ≡ g k) →
    map f (positions_from start count) ≡ map g (positions_from start count)
map_same f g start zero same = refl
map_same f g start (suc count) same = grind (arith, map_same f g (start + 1) count)

line_unchanged : (orders more : List ℕ) (from to : Bound) → to.order ≤ length orders →
    line_between (orders ++ more) from to ≡ line_between orders from to
line_unchanged orders more from to h = grind (arith, range_unchanged)

-- the lines with one more line
pub lines_in-more : (levels : List (Option ℕ)) (orders more : List ℕ) (bounds : List Bound) (start end : ℕ) →
    AreBounds levels orders bounds → bound_at bounds (length bounds - 1) ≡ record {
      position = start;
      order =
          length orders;
    } → lines_in (orders ++ more) (bounds ++ record {
      position = end;
      order =
          length orders + length more;
    } ∷ []) ≡ lines_in orders bounds ++ record {
      start = start;
      end = end;
      order =
          more;
    } ∷ []
lines_in-more levels orders more bounds start end b last =
    let bound : Bound = record { position = end; order = length orders + length more } in
    let orders2 = orders ++ more in
    let bounds2 = bounds ++ bound ∷ [] in
    let n = length bounds - 1 in
    let e : length bounds2 - 1 ≡ suc n = omega (arith, length-append bounds (bound ∷ []), b.some) in
    let same : (k : ℕ) → 0 ≤ k → k < 0 + n → line_in orders2 bounds2 k ≡ line_in orders bounds k =
    λ k low high.
    ap (λ from. line_between orders2 from (bound_at bounds2 (k + 1))) (bound_unchanged bounds bound k (omega arith))
    ∙ ap (line_between orders2 (bound_at bounds k)) (bound_unchanged bounds bound (k + 1) (omega arith))
    ∙ line_unchanged orders more (bound_at bounds k) (bound_at bounds (k + 1)) (b.written (k + 1) (omega arith)) in
    let from : bound_at bounds2 n ≡ record { position = start; order = length orders } =
    bound_unchanged bounds bound n (omega (arith, b.some)) ∙ last in
    let to : bound_at bounds2 (n + 1) ≡ bound = bound_new bounds bound (n + 1) (omega (arith, b.some)) in
    let line : List ℕ → LineLayout = λ order. record { start = start; end = end; order = order } in
    let here : line_in orders2 bounds2 n ≡ line more =
    ap (λ x. line_between orders2 x (bound_at bounds2 (n + 1))) from
    ∙ ap (line_between orders2 (record { position = start; order = length orders })) to
    ∙ ap line (range_new orders more) in
    let there : 0 + n ≡ n = omega arith in
    ap (λ m. map (line_in orders2 bounds2) (positions_from 0 m)) e
    ∙ ap (map (line_in orders2 bounds2)) (positions_from-next 0 n ∙ ap (λ m. positions_from 0 n ++ m ∷ []) there)
    ∙ map_push (line_in orders2 bounds2) (positions_from 0 n) n
    ∙ ap (λ ls. ls ++ line_in orders2 bounds2 n ∷ [])
    (map_same (line_in orders2 bounds2) (line_in orders bounds) 0 n same)
    ∙ ap (λ l. lines_in orders bounds ++ l ∷ []) here

bounds_more : (levels : List (Option ℕ)) (orders more : List ℕ) (bounds : List Bound) (start end : ℕ) → start ≤ end →
    end ≤ length levels → All (λ p. p < length levels) more → AreBounds levels orders bounds →
    bound_at bounds (length bounds - 1) ≡ record { position = start; order = length orders } →
    AreBounds levels (orders ++ more) (bounds ++ record { position = end; order = length orders + length more } ∷ [])
bounds_more levels orders more bounds start end le within places b last =
    let bound : Bound = record { position = end; order = length orders + length more } in
    let bounds2 = bounds ++ bound ∷ [] in
    let n = length bounds - 1 in
    let count : length bounds2 ≡ length bounds + 1 = omega (arith, length-append bounds (bound ∷ [])) in
    record {
      some = omega arith;
      rising = λ k h. elim (cases_lt (k + 1) (length bounds)) [
        | inl l ↦
            let P : Bound → Bound → Type 0 = λ x y. Follows x y in
            subst (λ x. Follows x (bound_at bounds2 (k + 1))) (sym (bound_unchanged bounds bound k (omega arith)))
            (subst (Follows (bound_at bounds k)) (sym (bound_unchanged bounds bound (k + 1) l)) (b.rising k l))
        | inr l ↦
            let same : k ≡ n = omega (arith, b.some) in
            let from : bound_at bounds2 k ≡ record { position = start; order = length orders } =
            bound_unchanged bounds bound k (omega (arith, b.some)) ∙ ap (bound_at bounds) same ∙ last in
            let to : bound_at bounds2 (k + 1) ≡ bound = bound_new bounds bound (k + 1) (omega (arith, b.some)) in
            subst (λ x. Follows x (bound_at bounds2 (k + 1))) (sym from)
            (subst (Follows (record { position = start; order = length orders })) (sym to) (record {
              position = le;
              order = omega arith;
            }))
      ];
      inside = λ k h. elim (cases_lt k (length bounds)) [
        | inl l ↦ let i = b.inside k l in
            subst (λ x. x.position ≤ length levels) (sym (bound_unchanged bounds bound k l)) i
        | inr l ↦ subst (λ x. x.position ≤ length levels) (sym (bound_new bounds bound k (omega arith))) within
      ];
      written = λ k h. elim (cases_lt k (length bounds)) [
        | inl l ↦
            let w = b.written k l in
            subst (λ x. x.order ≤ length (orders ++ more)) (sym (bound_unchanged bounds bound k l)) (omega (
              arith,
              length-append orders more,
            ))
        | inr l ↦ subst (λ x. x.order ≤ length (orders ++ more)) (sym (bound_new bounds bound k (omega arith)))
            (omega (arith, length-append orders more))
      ];
      places = All-append (λ p. p < length levels) orders more b.places places;
    }

filling_next : (levels : List (Option ℕ)) (test : ℕ → Bool) (start end : ℕ) (orders : List ℕ) (bounds : List Bound) →
    EndsLineAt test start end (length levels) → length orders + length (line_order levels start end) ≤ end →
    Filling levels test start orders bounds →
    Filling levels test end (orders ++ line_order levels start end) (bounds ++ record {
      position = end;
      order =
          length orders + length (line_order levels start end);
    } ∷ [])
filling_next levels test start end orders bounds c fits f =
    let more = line_order levels start end in
    let bound : Bound = record { position = end; order = length orders + length more } in
    let bounds2 = bounds ++ bound ∷ [] in
    let count : length bounds2 ≡ length bounds + 1 = omega (arith, length-append bounds (bound ∷ [])) in
    let last : length bounds2 - 1 ≡ length bounds = omega arith in
    let at_end : ℕ → Bound = λ n. record { position = end; order = n } in
    let rest = remaining_lines levels test end (length levels) (length levels - end) in
    record {
      inside = c.within;
      few = omega (arith, f.few, c.above);
      fits = omega (arith, length-append orders more);
      bounded =
          bounds_more levels orders more bounds start end (omega (arith, c.above)) c.within
          (line_order-places levels start end (omega (arith, c.above)) c.within) f.bounded f.last;
      last = bound_new bounds bound (length bounds2 - 1) last ∙ ap at_end (sym (length-append orders more));
      lines =
          ap (λ ls. ls ++ rest) (lines_in-more levels orders more bounds start end f.bounded f.last)
          ∙ append_assoc (lines_in orders bounds) (line_of levels start end ∷ []) rest
          ∙ ap (λ ls. lines_in orders bounds ++ ls) (sym (remaining_lines-next levels test start end (length levels) c))
          ∙ f.lines;
    }

-- one more line
pub filling_more : (levels : List (Option ℕ)) (test : ℕ →
    Bool) (start end : ℕ) (orders orders2 : List ℕ) (bounds bounds2 : List Bound) →
    EndsLineAt test start end (length levels) → orders2 ≡ orders ++ line_order levels start end → length orders2 ≤ end →
    bounds2 ≡ bounds ++ record { position = end; order = length orders2 } ∷ [] →
    Filling levels test start orders bounds → Filling levels test end orders2 bounds2
filling_more levels test start end orders orders2 bounds bounds2 c written few bound f =
    let more = line_order levels start end in
    let len : length orders2 ≡ length orders + length more = ap length written ∙ length-append orders more in
    let at_end : ℕ → List Bound = λ n. bounds ++ record { position = end; order = n } ∷ [] in
    subst (λ xs. Filling levels test end xs bounds2) (sym written)
    (subst (Filling levels test end (orders ++ more)) (sym (bound ∙ ap at_end len))
    (filling_next levels test start end orders bounds c (omega arith) f))

-- at the start, all lines of the text remain
all_lines_remaining : (levels : List (Option ℕ)) (own : List Class) (breaks : List ℕ) → length own ≡ length levels →
    remaining_lines levels (begins_line own breaks) 0 (length levels) (length levels) ≡
    lines_cut_at levels (cuts_of own breaks)
all_lines_remaining [] own breaks same = refl
all_lines_remaining (level ∷ levels) own breaks same = grind arith

-- at the end of the text, all lines are written
pub filling_end : (levels : List (Option ℕ)) (own : List Class) (breaks : List ℕ) (start : ℕ) (orders : List ℕ)
    (bounds : List Bound) → length own ≡ length levels → start ≡ length levels →
    Filling levels (begins_line own breaks) start orders bounds →
    lines_in orders bounds ≡ lines_cut_at levels (cuts_of own breaks)
filling_end levels own breaks start orders bounds same done f = grind (arith, append-nil, all_lines_remaining)
