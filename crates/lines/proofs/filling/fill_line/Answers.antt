use Rattle.std.proofs.Common.{arith, rules, ap, subst, sym, refl, ◌∙◌, ◌≡◌, ◌<◌, length, take}
use Rattle.std.specs.Prelude.{IfSome, slice_index_or, slice_set}
use Rattle.std.proofs.lemmas.List.{length-map, length-take-le, with_items_is}
use Rattle.units.specs.Classes.{classes_of}
use Rattle.units.specs.Isolates.{level_of_para}
use Rattle.units.specs.declared.level.ParaLevel.{ParaLevel}
use Rattle.units.specs.declared.level.ParaLevel.TheVariants.{Zero}
use Rattle.lines.specs.Bounds.{bound_at}
use Rattle.lines.specs.LineEnds.{AreAllLineEnds}
use Rattle.lines.specs.LinePositions.{IsAtOneLevel}
use Rattle.lines.specs.declared.bounds.Bound.{Bound}
use Rattle.lines.proofs.KnownLevels.{known_level}
use Rattle.lines.proofs.OneLine.{line_at_para, line_filled, lines_filled}
use Rattle.lines.proofs.Separators.{paragraph_at}
use Rattle.lines.proofs.filling.fill_line.Goals as goal

pub bounds-paras-0 : goal.bounds-paras-0
bounds-paras-0 g c =
    omega (arith, paragraph_at c.args.own.now (length c.args.paras.now) 0 c.requires.paras c.requires.some)

pub write_known_order-positions-requires-clause-uniform : goal.write_known_order-positions-requires-clause-uniform
write_known_order-positions-requires-clause-uniform g c =
    let own = classes_of c.args.own.now in
    let levels = c.args.levels.now in
    let paras = c.args.paras.now in
    let para : ParaLevel = slice_index_or paras 0 Zero in
    let same : length own ≡ length levels = length-map c.args.own.now (λ u. u.class) ∙ sym c.requires.levels in
    let some : 0 < length paras =
    omega (arith, paragraph_at c.args.own.now (length paras) 0 c.requires.paras c.requires.some) in
    subst (λ o. IfSome o (λ p. IsAtOneLevel levels 0 (length levels) (level_of_para p))) (sym c.then_some-level.ensures)
    (known_level c.args.resolved.uniform levels 0 (length levels) (level_of_para para) para refl
    (λ known. line_at_para own c.requires.ends.0 levels _ (length c.args.own.now) c.requires.ends.1
    (sym c.requires.levels) same paras some (c.requires.uniform known)))

pub returns-clause-bounds : goal.returns-clause-bounds
returns-clause-bounds g c =
    let room = c.args.columns.now in
    let line = c.write_known_order-positions in
    let stored = c.deref_mut-bounds.result.now in
    let own = classes_of c.args.own.now in
    let levels = c.args.levels.now in
    let at = c.requires.ends.0 in
    let ends = subst (AreAllLineEnds c.args.own.now at 1) (sym c.deref_mut-bounds.ensures.value) c.requires.ends.1 in
    let same : length own ≡ length levels = length-map c.args.own.now (λ u. u.class) ∙ sym c.requires.levels in
    let bound : Bound = record { position = (bound_at stored 1).position; order = line.result } in
    let wide : 1 < length stored =
    omega (arith, ap length c.deref_mut-bounds.ensures.value, c.requires.room.bounds, c.requires.some) in
    let written : length (take line.result line.new.order) ≡ line.result =
    length-take-le line.result line.new.order (omega (
      arith,
      line.ensures.count,
      line.auto.order,
      ap length c.deref_mut-orders.ensures.value,
      c.requires.room.orders,
      c.requires.levels,
    )) in
    let f = line_filled own at levels stored (length c.args.own.now) ends (sym c.requires.levels) same line.result
    (take line.result line.new.order) wide line.ensures.order (omega (arith, written, line.ensures.count)) written in
    let as_orders : length line.new.order ≡ room.orders.items.len = search rules in
    let as_bounds : length (slice_set stored 1 bound) ≡ room.bounds.items.len = search rules in
    rw (
      with_items_is room.orders.items line.new.order as_orders,
      with_items_is room.bounds.items (slice_set stored 1 bound) as_bounds,
    ) f.bounded

pub returns-clause-lines : goal.returns-clause-lines
returns-clause-lines g c = λ breaks all.
    let room = c.args.columns.now in
    let line = c.write_known_order-positions in
    let stored = c.deref_mut-bounds.result.now in
    let own = classes_of c.args.own.now in
    let levels = c.args.levels.now in
    let ends = subst (AreAllLineEnds c.args.own.now breaks 1) (sym c.deref_mut-bounds.ensures.value) all in
    let same : length own ≡ length levels = length-map c.args.own.now (λ u. u.class) ∙ sym c.requires.levels in
    let bound : Bound = record { position = (bound_at stored 1).position; order = line.result } in
    let wide : 1 < length stored =
    omega (arith, ap length c.deref_mut-bounds.ensures.value, c.requires.room.bounds, c.requires.some) in
    let written : length (take line.result line.new.order) ≡ line.result =
    length-take-le line.result line.new.order (omega (
      arith,
      line.ensures.count,
      line.auto.order,
      ap length c.deref_mut-orders.ensures.value,
      c.requires.room.orders,
      c.requires.levels,
    )) in
    let as_orders : length line.new.order ≡ room.orders.items.len = search rules in
    let as_bounds : length (slice_set stored 1 bound) ≡ room.bounds.items.len = search rules in
    rw (
      with_items_is room.orders.items line.new.order as_orders,
      with_items_is room.bounds.items (slice_set stored 1 bound) as_bounds,
    )
    (lines_filled own breaks levels stored (length c.args.own.now) ends (sym c.requires.levels) same line.result
    (take line.result line.new.order) wide line.ensures.order (omega (arith, written, line.ensures.count)) written)
