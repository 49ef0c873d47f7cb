use Rattle.std.proofs.Common.{rules, ◌≡◌, ◌<◌, ◌+◌, ◌-◌, ◌++◌, [], ◌∷◌, ℕ, List, length, take, arith, sym, refl, ap, ◌∙◌, subst}
use Rattle.std.specs.Prelude.{IfSome, count_by, map, slice_index_or, slice_set}
use Rattle.std.proofs.lemmas.List.{length-map, length-take-le, take_more, take_more_set, with_items_is}
use Rattle.units.specs.Classes.{classes_of, is_separator}
use Rattle.units.specs.Isolates.{level_of_para}
use Rattle.units.specs.declared.level.ParaLevel.TheVariants.{Zero}
use Rattle.units.specs.Reordering.{begins_line, para_level_at}
use Rattle.lines.specs.Bounds.{AreBounds, bound_at, first_bound}
use Rattle.lines.specs.declared.bounds.Bound.{Bound}
use Rattle.lines.specs.LineEnds.{AreAllLineEnds, EndsLineAt}
use Rattle.lines.specs.LinePositions.{IsAtOneLevel}
use Rattle.lines.proofs.BoolBytes.{bool_byte-is}
use Rattle.explicit.proofs.Holders.Roles.{class_read}
use Rattle.lines.proofs.LineEnds.{cut_read, end_unchanged}
use Rattle.lines.proofs.LinesWritten.{Filling, filling_end, filling_more, filling_start}
use Rattle.lines.proofs.KnownLevels.{known_level, where_known}
use Rattle.lines.proofs.ParagraphLines.{counted_on, line_uniform, para_read}
use Rattle.lines.proofs.Separators.{paragraph_at}
use Rattle.lines.proofs.filling.fill_lines.Goals as goal

-- the bounds with one more, for a line that ends there and whose order ends there
abbrev ended_at : List Bound → ℕ → ℕ → List Bound
ended_at bounds position order = bounds ++ record { position = position; order = order } ∷ []

pub loop-line-init : goal.loop-line-init
loop-line-init g c =
    let ends = subst (AreAllLineEnds c.args.own.now c.requires.ends.0 c.args.resolved.lines)
    (sym c.deref_mut-bounds.ensures.value) c.requires.ends.1 in
    let bounds = c.deref_mut-bounds.result.now in
    let first = ends.first in
    let start : (bound_at bounds 0).position ≡ 0 = ap (λ (b : Bound). b.position) first in
    let one : take (0 + 1) bounds ≡ first_bound ∷ [] =
    take_more bounds 0 first_bound (omega (
      arith,
      ap length c.deref_mut-bounds.ensures.value,
      c.requires.room.bounds,
    )) ∙ ap (λ (b : Bound). b ∷ []) first in
    record {
      filling = λ breaks all.
          rw (start, one) (filling_start c.args.levels.now (begins_line (classes_of c.args.own.now) breaks));
      unchanged = λ k. refl;
      few_positions = omega arith;
      counted = ap (λ n. count_by is_separator (take n (classes_of c.args.own.now))) (sym start);
      at_least = omega arith;
      at_most = omega arith;
      twice = λ known. omega arith;
      if_uniform = λ known. omega arith;
    }

pub bounds-paras-paragraph : goal.bounds-paras-paragraph
bounds-paras-paragraph g c =
    let l = c.loop-line in
    let ends = subst (AreAllLineEnds c.args.own.now c.requires.ends.0 c.args.resolved.lines)
    (sym c.deref_mut-bounds.ensures.value) c.requires.ends.1 in
    let own = classes_of c.args.own.now in
    let start = (bound_at c.deref_mut-bounds.result.now l.line).position in
    let len : length own ≡ length c.args.own.now = length-map c.args.own.now (λ u. u.class) in
    let cut = ends.cut l.line c.loop-line-test.true in
    omega (
      arith,
      l.invariant.counted,
      paragraph_at c.args.own.now (length c.args.paras.now) start c.requires.paras (omega (
        arith,
        cut.above,
        cut.within,
      )),
    )

pub invariant_of-span : goal.invariant_of-span
invariant_of-span g c =
    let l = c.loop-line in
    let ends = subst (AreAllLineEnds c.args.own.now c.requires.ends.0 c.args.resolved.lines)
    (sym c.deref_mut-bounds.ensures.value) c.requires.ends.1 in
    let own = classes_of c.args.own.now in
    let at = c.requires.ends.0 in
    let len : length own ≡ length c.args.own.now = length-map c.args.own.now (λ u. u.class) in
    let cut = cut_read (begins_line own at) _ _ _ _ (length own) (l.invariant.unchanged l.line)
    (l.invariant.unchanged (l.line + 1)) (ends.cut l.line c.loop-line-test.true) in
    record { forward = omega (arith, cut.above); within = omega (arith, cut.within, len, c.requires.levels) }

pub write_line-positions-requires-clause-uniform : goal.write_line-positions-requires-clause-uniform
write_line-positions-requires-clause-uniform g c =
    let l = c.loop-line in
    let ends = subst (AreAllLineEnds c.args.own.now c.requires.ends.0 c.args.resolved.lines)
    (sym c.deref_mut-bounds.ensures.value) c.requires.ends.1 in
    let own = classes_of c.args.own.now in
    let levels = c.args.levels.now in
    let paras = c.args.paras.now in
    let at = c.requires.ends.0 in
    let start = (bound_at l.bounds l.line).position in
    let end = (bound_at l.bounds (l.line + 1)).position in
    let len : length own ≡ length c.args.own.now = length-map c.args.own.now (λ u. u.class) in
    let cut : EndsLineAt (begins_line own at) start end (length own) =
    cut_read (begins_line own at) _ _ start end (length own) (l.invariant.unchanged l.line)
    (l.invariant.unchanged (l.line + 1)) (ends.cut l.line c.loop-line-test.true) in
    let counted : l.paragraph ≡ count_by is_separator (take start own) = l.invariant.counted ∙
    ap (λ n. count_by is_separator (take n own)) (sym (l.invariant.unchanged l.line)) in
    let bound = paragraph_at c.args.own.now (length paras) start c.requires.paras (omega (
      arith,
      cut.above,
      cut.within,
    )) in
    let para = para_read own paras start l.paragraph counted (omega (arith, bound, counted)) in
    subst (λ o. IfSome o (λ p. IsAtOneLevel levels start end (level_of_para p))) (sym c.then_some-level.ensures)
    (known_level c.args.resolved.uniform levels start end (para_level_at own (map level_of_para paras) start)
    (slice_index_or paras l.paragraph Zero) para
    (λ known. line_uniform own at (map level_of_para paras) levels start end (c.requires.uniform known) cut))

pub loop-line-preserved : goal.loop-line-preserved
loop-line-preserved g c =
    let l = c.loop-line in
    let ends = subst (AreAllLineEnds c.args.own.now c.requires.ends.0 c.args.resolved.lines)
    (sym c.deref_mut-bounds.ensures.value) c.requires.ends.1 in
    let own = classes_of c.args.own.now in
    let levels = c.args.levels.now in
    let start : ℕ = (bound_at l.bounds l.line).position in
    let end : ℕ = (bound_at l.bounds (l.line + 1)).position in
    let same_start = l.invariant.unchanged l.line in
    let same_end = l.invariant.unchanged (l.line + 1) in
    let len : length own ≡ length c.args.own.now = length-map c.args.own.now (λ u. u.class) in
    let same : length own ≡ length levels = len ∙ sym c.requires.levels in
    let at = c.requires.ends.0 in
    let cut : EndsLineAt (begins_line own at) start end (length own) =
    cut_read (begins_line own at) _ _ start end (length own) same_start same_end
    (ends.cut l.line c.loop-line-test.true) in
    let counted : l.paragraph ≡ count_by is_separator (take start own) = l.invariant.counted ∙
    ap (λ n. count_by is_separator (take n own)) (sym same_start) in
    let line = c.write_line-positions in
    let room : l.line + 1 < length l.bounds = omega (
      arith,
      l.auto.bounds,
      ap length c.deref_mut-bounds.ensures.value,
      c.requires.room.bounds,
      c.requires.few,
    ) in
    let bound : Bound = record { position = end; order = line.result } in
    let written : length (take line.result line.new.orders) ≡ line.result =
    length-take-le line.result line.new.orders (omega (
      arith,
      cut.within,
      line.ensures.few,
      line.auto.orders,
      l.auto.orders,
      ap length c.deref_mut-orders.ensures.value,
      c.requires.room.orders,
    )) in
    let put : take (l.line + 1 + 1) (slice_set l.bounds (l.line + 1) bound) ≡ take (l.line + 1) l.bounds ++
    record { position = end; order = length (take line.result line.new.orders) } ∷ [] =
    take_more_set l.bounds (l.line + 1) bound room ∙ ap (ended_at (take (l.line + 1) l.bounds) end) (sym written) in
    record {
      filling = λ breaks all.
          let test = begins_line own breaks in
          let here : EndsLineAt test start end (length own) =
          cut_read test _ _ start end (length own) same_start same_end (all.cut l.line c.loop-line-test.true) in
          subst (λ n. Filling levels test n (take line.result line.new.orders)
          (take (l.line + 1 + 1) (slice_set l.bounds (l.line + 1) bound))) same_end
          (filling_more levels test start end (take l.positions l.orders) (take line.result line.new.orders)
          (take (l.line + 1) l.bounds) (take (l.line + 1 + 1) (slice_set l.bounds (l.line + 1) bound))
          (subst (EndsLineAt test start end) same here)
          line.ensures.order (omega (arith, written, line.ensures.few)) put
          (subst (λ n. Filling levels test n (take l.positions l.orders) (take (l.line + 1) l.bounds)) (sym same_start)
          (l.invariant.filling breaks all)));
      unchanged = λ k. end_unchanged l.bounds (l.line + 1) line.result k room ∙ l.invariant.unchanged k;
      few_positions = omega (arith, same_end, line.ensures.few);
      counted =
          ap (λ n. l.paragraph + n) (c.from-paragraph.ensures ∙ bool_byte-is c.is_separator.result)
          ∙ counted_on own at start end l.paragraph c.is_separator.result cut counted
          (c.is_separator.ensures ∙
          ap is_separator (sym (class_read c.args.own.now (end - 1) _ (omega (arith, cut.above, cut.within, len)))))
          ∙ ap (λ n. count_by is_separator (take n own)) same_end;
      at_least = omega (arith, same_start, same_end, cut.above, c.tick.ensures, line.ensures.at_least);
      at_most = omega (arith, same_start, same_end, cut.above, line.ensures.at_most);
      twice = λ known.
          let many = where_known c.args.resolved.uniform _ c.then_some-level.result c.then_some-level.ensures
          line.ensures.twice known in
          omega (arith, same_start, same_end, l.invariant.twice known, cut.above, c.tick.ensures, many);
      if_uniform = λ known.
          let few = where_known c.args.resolved.uniform _ c.then_some-level.result c.then_some-level.ensures
          line.ensures.if_uniform known in
          omega (arith, same_start, same_end, l.invariant.if_uniform known, cut.above, c.tick.ensures, few);
    }

pub returns-clause-bounds : goal.returns-clause-bounds
returns-clause-bounds g c =
    let l = c.loop-line in
    let room = c.args.columns.now in
    let all : l.line ≡ c.args.resolved.lines = omega (arith, l.auto.line-end) in
    let ends = subst (AreAllLineEnds c.args.own.now c.requires.ends.0 c.args.resolved.lines)
    (sym c.deref_mut-bounds.ensures.value) c.requires.ends.1 in
    let f = l.invariant.filling c.requires.ends.0 ends in
    let as_orders : length l.orders ≡ room.orders.items.len = search rules in
    let as_bounds : length l.bounds ≡ room.bounds.items.len = search rules in
    rw (with_items_is room.orders.items l.orders as_orders, with_items_is room.bounds.items l.bounds as_bounds)
    (subst (λ n. AreBounds c.args.levels.now (take l.positions l.orders) (take (n + 1) l.bounds)) all f.bounded)

pub returns-clause-lines : goal.returns-clause-lines
returns-clause-lines g c = λ breaks ends.
    let l = c.loop-line in
    let room = c.args.columns.now in
    let stored = c.deref_mut-bounds.result.now in
    let own = classes_of c.args.own.now in
    let levels = c.args.levels.now in
    let all : l.line ≡ c.args.resolved.lines = omega (arith, l.auto.line-end) in
    let len : length own ≡ length c.args.own.now = length-map c.args.own.now (λ u. u.class) in
    let were = subst (AreAllLineEnds c.args.own.now breaks c.args.resolved.lines)
    (sym c.deref_mut-bounds.ensures.value) ends in
    let done : (bound_at stored l.line).position ≡ length levels = ap (λ n. (bound_at stored n).position) all ∙
    were.last ∙ sym c.requires.levels in
    let f : Filling levels (begins_line own breaks) (bound_at stored l.line).position (take l.positions l.orders)
    (take (c.args.resolved.lines + 1) l.bounds) =
    subst (λ n. Filling levels (begins_line own breaks) (bound_at stored l.line).position (take l.positions l.orders)
    (take (n + 1) l.bounds)) all (l.invariant.filling breaks were) in
    let as_orders : length l.orders ≡ room.orders.items.len = search rules in
    let as_bounds : length l.bounds ≡ room.bounds.items.len = search rules in
    rw (with_items_is room.orders.items l.orders as_orders, with_items_is room.bounds.items l.bounds as_bounds)
    (filling_end levels own breaks (bound_at stored l.line).position (take l.positions l.orders)
    (take (c.args.resolved.lines + 1) l.bounds) (len ∙ sym c.requires.levels) done f)
