use Rattle.std.proofs.Common.{rules, ap, false, true, refl, subst, sym, ◌∙◌, ◌≡◌, List, ℕ, length, map, take}
use Rattle.std.specs.Box.{boxed_slice_items}
use Rattle.std.proofs.lemmas.List.{with_items_is}
use Rattle.units.specs.Classes.{classes_of}
use Rattle.units.specs.Isolates.{level_of_para}
use Rattle.units.specs.Paragraphs.{paragraphs_of}
use Rattle.units.specs.Reordering.{after_resets}
use Rattle.lines.specs.Columns.{levels_filled, lines_filled, paras_filled}
use Rattle.lines.specs.LineEnds.{AreAllParagraphEnds}
use Rattle.lines.proofs.AtParas.{all_stay, text_at_paras}
use Rattle.lines.proofs.ResolvedUnchanged.{resolved_stay}
use Rattle.lines.proofs.TextLevels.{laid_out}
use Rattle.lines.proofs.scratch.Scratch.fill_any.Goals as goal

pub returns-clause-layout : goal.returns-clause-layout
returns-clause-layout g c =
    let n : ℕ = length c.args.text.now in
    let found = c.resolve_text-resolved in
    let unchanged = c.keep_resolved in
    let filled = c.arrange-filled in
    let column = unchanged.new.self.levels.items in
    let as_levels : length filled.new.levels ≡ column.len = search rules in
    let levels_are = with_items_is column filled.new.levels as_levels in
    let paras : List ℕ = map level_of_para (paras_filled found.result.paragraphs unchanged.new.self) in
    let reset : take n filled.new.levels ≡ after_resets (classes_of c.args.text.now) c.args.options.now.breaks.now.positions paras
    (levels_filled n unchanged.new.self) =
    rw (← c.deref_mut-2.ensures.value, ← c.deref-2.ensures.value) filled.ensures.levels in
    rw levels_are
    (laid_out c.args.options.now.limits c.args.text.now c.args.options.now.direction c.args.options.now.breaks.now.positions paras
    (levels_filled n unchanged.new.self) (take n filled.new.levels) (take n filled.new.levels)
    (lines_filled filled.result filled.new.columns) refl
    (ap (λ ps. map level_of_para (take found.result.paragraphs (boxed_slice_items ps))) unchanged.ensures.paras ∙
    found.ensures.resolved.paras)
    (ap (λ column. take n (boxed_slice_items column)) unchanged.ensures.levels ∙ found.ensures.resolved.levels)
    reset filled.ensures.lines)

pub returns-clause-holds : goal.returns-clause-holds
returns-clause-holds g c =
    let n : ℕ = length c.args.text.now in
    let found = c.resolve_text-resolved in
    let unchanged = c.keep_resolved in
    let filled = c.arrange-filled in
    let column = unchanged.new.self.levels.items in
    let as_levels : length filled.new.levels ≡ column.len = search rules in
    let levels_are = with_items_is column filled.new.levels as_levels in
    record {
      units = refl;
      ends = subst (λ column.
          AreAllParagraphEnds c.args.text.now (take found.result.paragraphs (boxed_slice_items column)))
          (sym unchanged.ensures.para_ends) found.ensures.resolved.para_ends;
      paras = ap (λ ps. map level_of_para (take found.result.paragraphs (boxed_slice_items ps))) unchanged.ensures.paras
          ∙ found.ensures.resolved.paras;
      levels =
          rw levels_are
          (resolved_stay found.result.uniform n (boxed_slice_items unchanged.new.self.resolved)
          (boxed_slice_items unchanged.new.self.levels) filled.new.levels (λ known. filled.ensures.same known ∙
          ap (take n) c.deref_mut-2.ensures.value)
          ∙ unchanged.ensures.resolved
          ∙ found.ensures.resolved.levels);
      known = found.ensures.resolved.known;
      segments = found.ensures.segments;
    }

pub arrange-filled-requires-clause-uniform : goal.arrange-filled-requires-clause-uniform
arrange-filled-requires-clause-uniform g c = λ known.
    let limits = c.args.options.now.limits in
    let text = c.args.text.now in
    let direction = c.args.options.now.direction in
    let found = c.resolve_text-resolved.ensures.resolved in
    rw (
      c.deref_mut-2.ensures.value,
      c.deref-2.ensures.value,
      c.keep_resolved.ensures.levels,
      c.keep_resolved.ensures.paras,
      found.paras,
      found.levels,
    )
    (text_at_paras limits direction text (all_stay limits direction (paragraphs_of text) (sym found.known ∙ known)))

pub arrange-filled-requires-clause-ends : goal.arrange-filled-requires-clause-ends
arrange-filled-requires-clause-ends g c =
    let column = c.args.self.now.lines.bounds.items in
    let found = c.resolve_text-resolved in
    let as_bounds : length found.new.bounds ≡ column.len = search rules in
    rw (with_items_is column found.new.bounds as_bounds) found.ensures.resolved.ends

pub arrange-filled-requires-clause-para_ends : goal.arrange-filled-requires-clause-para_ends
arrange-filled-requires-clause-para_ends g c =
    rw (c.deref.ensures.value, c.keep_resolved.ensures.para_ends) c.resolve_text-resolved.ensures.resolved.para_ends

pub invariant_of-self-clause-at_level : goal.invariant_of-self-clause-at_level
invariant_of-self-clause-at_level g c = λ complete.
    let z : false ≡ true = sym c.resolve_text-resolved.ensures.not_complete ∙ complete in cc
