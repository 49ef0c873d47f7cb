-- Lines from one offset of a room's text up to another.
use Rattle.std.proofs.Common.{◌≡◌, ◌∙◌, ◌+◌, ◌-◌, ◌<◌, ◌≤◌, ◌++◌, ℕ, List, Option, None, ap, arith, drop, length, map, subst, sym, take}
use Rattle.std.specs.Prelude.{slice_index_or, slice_range}
use Rattle.std.proofs.lemmas.List.{drop-drop, get_or-drop, get_or-take, get_or_append_left, length-map, length-take-le, take-append-le, take_all}
use Rattle.std.proofs.lemmas.Slice.{drop-append-drop}
use Rattle.units.specs.Reordering.{line_order}
use Rattle.lines.specs.LinesAlone.{RejectsSpan}
use Rattle.lines.specs.declared.alone.SpanFault.{SpanFault}
use Rattle.lines.specs.declared.alone.SpanFault.TheVariants.{NotForward, BeyondText, CrossesParagraph}
use Rattle.room.specs.LineOf.{IsSpan, RejectsLineIn, WritesCharacters, WritesLineOf, broken_at, fault_of_span}
use Rattle.room.specs.Looking.{IsAt}
use Rattle.room.specs.Rooms.{RoomOf, characters_in, offset_in}
use Rattle.room.proofs.Boundaries.{before_it, not_below, spread_out}
use Rattle.room.proofs.LevelPass.{Rise}

-- lists that are equal after an index are equal after a later one
later : {A : Type 0} (n m : ℕ) (xs ys : List A) → n ≤ m → drop n xs ≡ drop n ys → drop m xs ≡ drop m ys
later n m xs ys le same =
    let far : m ≡ n + (m - n) = omega (arith, le) in
    ap (λ (k : ℕ). drop k xs) far ∙ sym (drop-drop (m - n) n xs) ∙ ap (drop (m - n)) same ∙ drop-drop (m - n) n ys ∙
    ap (λ (k : ℕ). drop k ys) (sym far)

module _ (room : RoomOf) (rise : Rise room) (start end first last : ℕ) (span : IsSpan room start end first last) where
  -- it has no more characters than units
  pub narrow : last - first ≤ end - start
  narrow =
      let n : first + (last - first) ≡ last = omega (arith, span.forward) in
      let out : offset_in room first + (last - first) ≤ offset_in room (first + (last - first)) =
      spread_out room rise first (last - first) (omega (arith, n, span.inside)) in
      let same : offset_in room (first + (last - first)) ≡ offset_in room last = ap (offset_in room) n in
      omega (arith, out, same, span.begins, span.ends)

  -- its units are those from its first character up to its last
  pub whole : offset_in room first + (end - start) ≡ offset_in room last
  whole =
      let up : offset_in room first ≤ offset_in room last =
      not_below room rise first last (omega (arith, span.forward)) span.inside in
      omega (arith, up, span.begins, span.ends)

  -- its units are of its characters
  pub within : (i j : ℕ) → i < end - start → IsAt room (offset_in room first + i) j → (first ≤ j) × (j < last)
  within i j lt at =
      let from = at.from in
      let before = at.before in
      let low : first < j + 1 =
      before_it room rise first (j + 1) (omega (arith, span.forward, span.inside)) (omega (arith, before)) in
      let high : j < last = before_it room rise j last (omega (arith, at.inside)) (omega (arith, from, lt, whole)) in
      (omega (arith, low), high)

  -- the levels of its units are those of its characters
  pub converted : (levels front spread : List (Option ℕ)) → take (last - first) front ≡ slice_range levels first last
      → ((i k : ℕ) → i < end - start → IsAt room (offset_in room first + i) k →
      slice_index_or spread i None ≡ slice_index_or front (k - first) None)
      → (i j : ℕ) → i < end - start → IsAt room (start + i) j →
      slice_index_or spread i None ≡ slice_index_or levels j None
  converted levels front spread same are i j lt at =
      let here : IsAt room (offset_in room first + i) j = subst (λ (n : ℕ). IsAt room (n + i) j) (sym span.begins) at in
      let inside = within i j lt here in
      are i j lt here
      ∙ sym (get_or-take (last - first) front (j - first) None (omega (arith, inside.0, inside.1)))
      ∙ ap (λ (xs : List (Option ℕ)). slice_index_or xs (j - first) None) same
      ∙ get_or-take (last - first) (drop first levels) (j - first) None (omega (arith, inside.0, inside.1))
      ∙ get_or-drop first levels (j - first) None
      ∙ ap (λ (n : ℕ). slice_index_or levels n None) {x = first + (j - first)} {y = j} (omega (arith, inside.0))

  -- the line of its characters, spread to units and turned to offsets, is the line
  module _ (room2 : RoomOf) (same : room2 ≡ room) (count shown : ℕ) (levels levels1 spread : List (Option ℕ))
      (order order1 turned : List ℕ) (counted : count ≡ end - start)
      (levels_fit : count ≤ length levels1) (order_fits : shown ≤ length order1)
      (w : WritesCharacters room first last levels levels1 order order1 shown) (len : length spread ≡
      length (take count levels1))
      (spreads : (i k : ℕ) → i < length (take count levels1) → IsAt room2 (offset_in room2 first + i) k →
      slice_index_or spread i None ≡ slice_index_or (take count levels1) (k - first) None)
      (turns : turned ≡ map (offset_in room2) (take shown order1)) where
    long : length (take count levels1) ≡ count
    long = length-take-le count levels1 levels_fit

    turned_len : length turned ≡ shown
    turned_len = ap length turns ∙ length-map (take shown order1) (offset_in room2) ∙
        length-take-le shown order1 order_fits

    unit_level : (i k : ℕ) → i < end - start → IsAt room (offset_in room first + i) k
        → slice_index_or (spread ++ drop count levels1) i None ≡ slice_index_or levels1 (k - first) None
    unit_level i k lt at =
        let inside = within i k lt at in
        get_or_append_left spread (drop count levels1) None i (omega (arith, len, long, counted, lt))
        ∙ spreads i k (omega (arith, long, counted, lt)) (subst (λ (r : RoomOf). IsAt r (offset_in r first + i) k)
        (sym same) at)
        ∙ get_or-take count levels1 (k - first) None (omega (arith, inside.0, inside.1, narrow, counted))

    shown_order : (xs : List ℕ) → take shown order1 ≡ xs →
        take shown (turned ++ drop shown order1) ≡ map (offset_in room) xs
    shown_order xs is =
        take-append-le shown turned (drop shown order1) (omega (arith, turned_len)) ∙
        take_all shown turned (omega (arith, turned_len)) ∙ turns
        ∙ ap (λ (r : RoomOf). map (offset_in r) (take shown order1)) same ∙ ap (map (offset_in room)) is

    pub written : WritesLineOf room start end levels (spread ++ drop count levels1) order (turned ++
        drop shown order1) shown
    written = record {
      first = first;
      last = last;
      span = span;
      taken = w.taken;
      line = λ breaks is. record {
        leveled = converted (broken_at room breaks).levels levels1 (spread ++
            drop count levels1) (w.line breaks is).leveled unit_level;
        ordered = shown_order (line_order (broken_at room breaks).levels first last) (w.line breaks is).ordered;
      };
      few = omega (arith, w.few, narrow);
      levels_after = drop-append-drop count levels1 spread (end - start) (omega (arith, counted)) (len ∙ long) ∙
          later (last - first) (end - start) levels1 levels narrow w.levels_after;
      order_after = drop-append-drop shown order1 turned (end - start) (omega (arith, w.few, narrow)) turned_len ∙
          later (last - first) (end - start) order1 order narrow w.order_after;
    }

  -- if the line of its characters is rejected, so is the line of its units
  pub rejected : (places : ℕ) (fault : SpanFault) → length room.text.units ≡ characters_in room → end - start ≤ places →
      RejectsSpan room.text.units first last fault → RejectsLineIn room start end places (fault_of_span fault)
  rejected places NotForward all fits h = absurd (omega (arith, h, span.forward))
  rejected places BeyondText all fits h = absurd (omega (arith, h.1, all, span.inside))
  rejected places CrossesParagraph all fits h =
      (fits, record { first = first; last = last; span = span; separates = h.2 })
