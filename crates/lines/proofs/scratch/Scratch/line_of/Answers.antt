use Rattle.std.proofs.Common.{◌≡◌, ◌<◌, ◌≤◌, ◌-◌, ◌++◌, ◌∙◌, ℕ, List, Option, ap, arith, drop, length, refl, rules, subst, sym, take, true}
use Rattle.std.specs.Box.{boxed_slice_items}
use Rattle.std.specs.Prelude.{IfSome, slice_index_or, slice_range}
use Rattle.std.proofs.lemmas.List.{drop_at, get_or_read, length-map, length-take-le, take-append-le, take_all}
use Rattle.units.specs.Isolates.{level_of_para}
use Rattle.units.specs.Layout.{text_levels}
use Rattle.units.specs.declared.level.ParaLevel.{ParaLevel}
use Rattle.units.specs.declared.level.ParaLevel.TheVariants.{Zero}
use Rattle.lines.specs.Columns.{resolved_column}
use Rattle.lines.specs.LinePositions.{IsAtOneLevel}
use Rattle.lines.specs.LinesAlone.{breaks_around}
use Rattle.lines.specs.Scratches.{paras_in}
use Rattle.lines.proofs.KnownLevels.{known_level, where_known}
use Rattle.lines.proofs.LineStored.{length-text_levels, line_at_level, line_laid_out, line_reset_by, para_in_use, plain_line, range_in_use}
use Rattle.lines.proofs.scratch.Scratch.line_of.Goals as goal

pub reset_line_unless_uniform-requires-clause-paragraph : goal.reset_line_unless_uniform-requires-clause-paragraph
reset_line_unless_uniform-requires-clause-paragraph g c = λ p low high.
    plain_line c.args.text.now (breaks_around c.args.start c.args.end) c.args.start c.args.end p
    c.in_ok-paragraph.ensures.line.line low high

pub write_order_alone-requires-clause-uniform : goal.write_order_alone-requires-clause-uniform
write_order_alone-requires-clause-uniform g c =
    let room = c.args.self.now in
    let text = c.args.text.now in
    let start : ℕ = c.args.start in
    let end : ℕ = c.args.end in
    let limits = c.requires.holds.0 in
    let direction = c.requires.holds.1 in
    let stored = c.requires.holds.2 in
    let found = c.in_ok-paragraph.ensures.line in
    let copied : List (Option ℕ) = c.copy_line.new.line in
    let reset : List (Option ℕ) = c.reset_line_unless_uniform.new.levels in
    let n : ℕ = end - start in
    let within : end ≤ length text = omega (arith, found.line.within, length-map text (λ u. u.class)) in
    let long : length reset ≡ n =
    omega (
      arith,
      c.reset_line_unless_uniform.auto.levels,
      c.copy_line.auto.line,
      length-take-le n c.args.levels.now (c.requires.levels within),
    ) in
    let used : ℕ = room.used.paragraphs in
    let paras_fit : used ≤ length (boxed_slice_items room.text.paras) =
    omega (arith, room.in_use.of_paras, room.fits.for_text.paras) in
    let ends_fit : used ≤ length c.deref.result.now =
    omega (arith, room.in_use.of_paras, room.fits.for_text.para_ends, ap length c.deref.ensures.value) in
    let low : c.in_ok-paragraph.paragraph < used =
    omega (arith, found.inside, length-take-le used c.deref.result.now ends_fit) in
    let para : ParaLevel = c.index-level.result.now in
    let level : para ≡ slice_index_or (boxed_slice_items room.text.paras) c.in_ok-paragraph.paragraph Zero =
    get_or_read (boxed_slice_items room.text.paras) c.in_ok-paragraph.paragraph para (omega (
      arith,
      low,
      paras_fit,
    )) c.index-level.ensures Zero in
    let has = para_in_use text (boxed_slice_items room.text.paras) used start c.in_ok-paragraph.paragraph para level
    found.counted low paras_fit in
    let part : slice_range (text_levels limits text direction) start end ≡ copied =
    ap (λ (xs : List (Option ℕ)). slice_range xs start end) (sym stored.levels)
    ∙ range_in_use (resolved_column room.used.uniform room.text) room.used.units start end (omega (
      arith,
      stored.units,
      within,
    ))
    ∙ sym c.copy_line.ensures.copied in
    subst (λ o. IfSome o (λ p. IsAtOneLevel reset 0 (length reset) (level_of_para p))) (sym c.then_some-known.ensures)
    (known_level room.used.uniform reset 0 (length reset) (level_of_para para) para refl (λ known.
    subst (λ (xs : List (Option ℕ)). IsAtOneLevel xs 0 (length reset) (level_of_para para))
    (sym (c.reset_line_unless_uniform.ensures.same known))
    (subst (λ (m : ℕ). IsAtOneLevel copied 0 m (level_of_para para)) (sym long)
    (line_at_level limits text direction (paras_in room) stored.paras (breaks_around start end) start end
    (level_of_para para) copied (sym known ∙ stored.known) found.line has part))))

pub returns-clause-line : goal.returns-clause-line
returns-clause-line g c =
    let room = c.args.self.now in
    let text = c.args.text.now in
    let start : ℕ = c.args.start in
    let end : ℕ = c.args.end in
    let found = c.in_ok-paragraph.ensures.line in
    let above = found.line.above in
    let reset = c.reset_line_unless_uniform.new.levels in
    let written = c.write_order_alone in
    let n : ℕ = end - start in
    let within : end ≤ length text = omega (arith, found.line.within, length-map text (λ u. u.class)) in
    let long : length reset ≡ n =
    omega (
      arith,
      c.reset_line_unless_uniform.auto.levels,
      c.copy_line.auto.line,
      length-take-le n c.args.levels.now (c.requires.levels within),
    ) in
    let placed : length written.new.order ≡ n =
    omega (arith, written.auto.order, length-take-le n c.args.order.now (c.requires.order within)) in
    let few : written.result ≤ length written.new.order = omega (arith, written.ensures.count, long, placed) in
    let used : ℕ = room.used.paragraphs in
    let paras_fit : used ≤ length (boxed_slice_items room.text.paras) =
    omega (arith, room.in_use.of_paras, room.fits.for_text.paras) in
    let ends_fit : used ≤ length c.deref.result.now =
    omega (arith, room.in_use.of_paras, room.fits.for_text.para_ends, ap length c.deref.ensures.value) in
    let low : c.in_ok-paragraph.paragraph < used =
    omega (arith, found.inside, length-take-le used c.deref.result.now ends_fit) in
    let level : c.index-level.result.now ≡
    slice_index_or (boxed_slice_items room.text.paras) c.in_ok-paragraph.paragraph Zero =
    get_or_read (boxed_slice_items room.text.paras) c.in_ok-paragraph.paragraph c.index-level.result.now (omega (
      arith,
      low,
      paras_fit,
    )) c.index-level.ensures Zero in
    let levels_are : take n (reset ++ drop n c.args.levels.now) ≡ reset =
    take-append-le n reset (drop n c.args.levels.now) (omega (arith, long)) ∙ take_all n reset (omega (arith, long)) in
    let order_is = take-append-le written.result written.new.order (drop n c.args.order.now) few in
    record {
      line = record {
        taken = found.line;
        line = λ limits direction breaks stored line.
            let all = text_levels limits text direction in
            let part : slice_range all start end ≡ c.copy_line.new.line =
            ap (λ (xs : List (Option ℕ)). slice_range xs start end) (sym stored.levels)
            ∙ range_in_use (resolved_column room.used.uniform room.text) room.used.units start end (omega (
              arith,
              stored.units,
              within,
            ))
            ∙ sym c.copy_line.ensures.copied in
            rw (levels_are, order_is)
            (line_laid_out limits text direction breaks (paras_in room) start end reset
            (take written.result written.new.order) stored.paras (omega arith) within
            (line_reset_by limits text direction (paras_in room) stored.paras breaks start end room.used.uniform
            c.copy_line.new.line reset stored.known part c.reset_line_unless_uniform.ensures.same
            (λ off. c.reset_line_unless_uniform.ensures.levels off breaks (paras_in room) all line
            (para_in_use text (boxed_slice_items room.text.paras) used start c.in_ok-paragraph.paragraph
            c.index-level.result.now level found.counted low paras_fit)
            (length-text_levels limits text direction) part))
            written.ensures.order);
        few = omega (arith, written.ensures.count, long);
        levels_after = drop_at reset (drop n c.args.levels.now) n long;
        order_after = drop_at written.new.order (drop n c.args.order.now) n placed;
      };
      levels_stay = tt;
      order_stays = tt;
      holds = search rules;
    }

pub returns-clause-if_uniform : goal.returns-clause-if_uniform
returns-clause-if_uniform g c = λ if_uniform.
    let room = c.args.self.now in
    let n : ℕ = c.args.end - c.args.start in
    let found = c.in_ok-paragraph.ensures.line in
    let reset = c.reset_line_unless_uniform in
    let known : room.used.uniform ≡ true = if_uniform.2.known ∙ if_uniform.3 in
    let within : c.args.end ≤ length c.args.text.now =
    omega (arith, found.line.within, length-map c.args.text.now (λ u. u.class)) in
    let long : length reset.new.levels ≡ n =
    omega (
      arith,
      reset.auto.levels,
      c.copy_line.auto.line,
      length-take-le n c.args.levels.now (c.requires.levels within),
    ) in
    let few = where_known room.used.uniform c.index-level.result.now c.then_some-known.result c.then_some-known.ensures
    c.write_order_alone.ensures.if_uniform known in
    omega (
      arith,
      few,
      long,
      reset.ensures.if_uniform known,
      c.copy_line.ensures.steps,
      c.in_ok-paragraph.ensures.at_most,
    )

pub reset_line_unless_uniform-requires-clause-none : goal.reset_line_unless_uniform-requires-clause-none
reset_line_unless_uniform-requires-clause-none g c = c.requires.holds.2.segments
