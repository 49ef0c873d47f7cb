use Rattle.std.proofs.Common.{rules, ap, subst, sym, ◌∙◌, ◌≡◌, ℕ, List, Option, length, map, take}
use Rattle.std.specs.Box.{boxed_slice_items}
use Rattle.std.proofs.lemmas.List.{with_items_is}
use Rattle.units.specs.Classes.{classes_of}
use Rattle.units.specs.Isolates.{level_of_para}
use Rattle.units.specs.Layout.{para_levels_of, text_levels}
use Rattle.units.specs.Paragraphs.{paragraphs_of}
use Rattle.units.specs.Reordering.{after_resets}
use Rattle.lines.specs.Columns.{levels_filled, lines_filled, paras_filled, resolved_filled}
use Rattle.lines.specs.LineEnds.{AreAllParagraphEnds}
use Rattle.lines.proofs.AtParas.{all_stay, text_at_paras}
use Rattle.lines.proofs.ResolvedUnchanged.{resolved_stay}
use Rattle.lines.proofs.TextLevels.{laid_out}
use Rattle.lines.proofs.scratch.Scratch.set_lines.Goals as goal

pub arrange-self-requires-clause-uniform : goal.arrange-self-requires-clause-uniform
arrange-self-requires-clause-uniform g c =
    let room = c.args.self.now in
    let text = c.args.text.now in
    let limits = c.requires.holds.0 in
    let direction = c.requires.holds.1 in
    let stored = c.requires.holds.2 in
    let resolved_are : take (length text) c.deref_mut-2.result.now ≡ text_levels limits text direction =
    ap (λ (xs : List (Option ℕ)). take (length text) xs) c.deref_mut-2.ensures.value
    ∙ c.restore_resolved.ensures.levels
    ∙ ap (λ n. resolved_filled n room.used.uniform room.text) (sym stored.units)
    ∙ stored.levels in
    let paras_are : map level_of_para (take room.used.paragraphs c.deref-3.result.now) ≡ para_levels_of text direction =
    ap (λ xs. map level_of_para (take room.used.paragraphs xs)) (c.deref-3.ensures.value ∙
    ap (λ column. boxed_slice_items column) c.restore_resolved.ensures.paras)
    ∙ stored.paras in
    λ known. rw (
      paras_are,
      resolved_are,
    ) (text_at_paras limits direction text (all_stay limits direction (paragraphs_of text)
    (sym stored.known ∙ known)))

pub arrange-self-requires-clause-ends : goal.arrange-self-requires-clause-ends
arrange-self-requires-clause-ends g c =
    let column = c.args.self.now.lines.bounds.items in
    let cut = c.cut_text-lines in
    let as_bounds : length cut.new.bounds ≡ column.len = search rules in
    rw (with_items_is column cut.new.bounds as_bounds) cut.ensures.ends

pub returns-clause-lines : goal.returns-clause-lines
returns-clause-lines g c =
    let room = c.args.self.now in
    let text = c.args.text.now in
    let n : ℕ = length text in
    let restored = c.restore_resolved in
    let filled = c.arrange-self in
    let column = restored.new.self.levels.items in
    let as_levels : length filled.new.levels ≡ column.len = search rules in
    let levels_are = with_items_is column filled.new.levels as_levels in
    let paras : List ℕ = map level_of_para (paras_filled room.used.paragraphs restored.new.self) in
    let reset : take n filled.new.levels ≡ after_resets (classes_of text) c.args.breaks.now.positions paras
    (levels_filled n restored.new.self) =
    rw (← c.deref_mut-2.ensures.value, ← c.deref-3.ensures.value) filled.ensures.levels in
    record {
      room = search rules;
      filled = search rules;
      laid_out = λ limits direction stored.
          rw levels_are
          (laid_out limits text direction c.args.breaks.now.positions paras (levels_filled n restored.new.self)
          (take n filled.new.levels) (take room.used.units filled.new.levels)
          (lines_filled filled.result filled.new.columns)
          (ap (λ k. take k filled.new.levels) stored.units)
          (ap (λ ps. map level_of_para (take room.used.paragraphs (boxed_slice_items ps))) restored.ensures.paras ∙
          stored.paras)
          (restored.ensures.levels ∙ ap (λ k. resolved_filled k room.used.uniform room.text) (sym stored.units) ∙
          stored.levels)
          reset filled.ensures.lines);
      holds = λ limits direction stored. record {
        units = stored.units;
        ends = subst (λ column. AreAllParagraphEnds text (take room.used.paragraphs (boxed_slice_items column)))
            (sym restored.ensures.para_ends) stored.ends;
        paras = ap (λ ps. map level_of_para (take room.used.paragraphs (boxed_slice_items ps))) restored.ensures.paras ∙
            stored.paras;
        levels =
            rw (stored.units, levels_are)
            (resolved_stay room.used.uniform n (boxed_slice_items restored.new.self.resolved)
            (boxed_slice_items restored.new.self.levels) filled.new.levels (λ known. filled.ensures.same known ∙
            ap (take n) c.deref_mut-2.ensures.value)
            ∙ restored.ensures.resolved
            ∙ ap (λ k. resolved_filled k room.used.uniform room.text) (sym stored.units)
            ∙ stored.levels);
        known = stored.known;
        segments = stored.segments;
      };
    }

pub arrange-self-requires-clause-para_ends : goal.arrange-self-requires-clause-para_ends
arrange-self-requires-clause-para_ends g c =
    rw (c.deref-2.ensures.value, c.restore_resolved.ensures.para_ends) c.requires.holds.2.ends

pub cut_text-lines-requires-clause-para_ends : goal.cut_text-lines-requires-clause-para_ends
cut_text-lines-requires-clause-para_ends g c = rw c.deref.ensures.value c.requires.holds.2.ends

pub arrange-self-requires-clause-segments : goal.arrange-self-requires-clause-segments
arrange-self-requires-clause-segments g c = c.requires.holds.2.segments
