use Rattle.std.proofs.Common.{arith, rules, ap, refl, sym, ◌∙◌, ◌≡◌, ◌<◌, List, ℕ, length, map, take}
use Rattle.std.proofs.lemmas.List.{length-map, with_items_is}
use Rattle.units.specs.Classes.{classes_of}
use Rattle.units.specs.Isolates.{level_of_para}
use Rattle.units.specs.Limits.{standard}
use Rattle.units.specs.Paragraphs.{paragraphs_of}
use Rattle.units.specs.Reordering.{after_resets}
use Rattle.lines.specs.Columns.{levels_filled, lines_filled, paras_filled}
use Rattle.lines.specs.ResolvedTexts.{one_line}
use Rattle.lines.specs.Room.{items_in}
use Rattle.lines.proofs.AtParas.{all_stay, text_at_paras}
use Rattle.lines.proofs.OneLevel.{all_at_para}
use Rattle.lines.proofs.TextLevels.{laid_out, para_level}
use Rattle.lines.proofs.scratch.Scratch.fill_one_line.Goals as goal

pub arrange-filled-requires-clause-paras : goal.arrange-filled-requires-clause-paras
arrange-filled-requires-clause-paras g c =
    let resolved = c.resolve_line.ensures.resolved standard c.args.direction c.args.breaks.now.positions c.requires.line
    in
    rw c.deref-2.ensures.value
    (sym (length-map (paras_filled 1 c.resolve_line.new.columns) level_of_para) ∙ ap length resolved.paras
    ∙ length-map (paragraphs_of c.args.text.now) (para_level c.args.direction))

pub arrange-filled-requires-clause-ends : goal.arrange-filled-requires-clause-ends
arrange-filled-requires-clause-ends g c =
    let resolved = c.resolve_line.ensures.resolved standard c.args.direction c.args.breaks.now.positions c.requires.line
    in
    let column = c.args.self.now.lines.bounds.items in
    let as_bounds : length c.resolve_line.new.bounds ≡ column.len = search rules in
    rw (with_items_is column c.resolve_line.new.bounds as_bounds) resolved.ends

pub arrange-filled-requires-clause-para_ends : goal.arrange-filled-requires-clause-para_ends
arrange-filled-requires-clause-para_ends g c =
    let resolved = c.resolve_line.ensures.resolved standard c.args.direction c.args.breaks.now.positions c.requires.line
    in
    rw c.deref.ensures.value resolved.para_ends

pub arrange-filled-requires-clause-uniform : goal.arrange-filled-requires-clause-uniform
arrange-filled-requires-clause-uniform g c = λ known.
    let text = c.args.text.now in
    let direction = c.args.direction in
    let found = c.resolve_line.ensures.resolved standard direction c.args.breaks.now.positions c.requires.line in
    rw (c.deref_mut-2.ensures.value, c.deref-2.ensures.value, found.paras, found.levels)
    (text_at_paras standard direction text (all_stay standard direction (paragraphs_of text) (sym found.known)))

pub returns-clause-layout : goal.returns-clause-layout
returns-clause-layout g c = λ limits.
    let n : ℕ = length c.args.text.now in
    let resolved = c.resolve_line.ensures.resolved limits c.args.direction c.args.breaks.now.positions c.requires.line
    in
    let found = c.resolve_line in
    let filled = c.arrange-filled in
    let column = found.new.columns.levels.items in
    let as_levels : length filled.new.levels ≡ column.len = search rules in
    let levels_are = with_items_is column filled.new.levels as_levels in
    let paras : List ℕ = map level_of_para (paras_filled 1 found.new.columns) in
    let reset : take n filled.new.levels ≡ after_resets (classes_of c.args.text.now) c.args.breaks.now.positions paras
    (levels_filled n found.new.columns) =
    rw (← c.deref_mut-2.ensures.value, ← c.deref-2.ensures.value) filled.ensures.levels in
    rw levels_are
    (laid_out limits c.args.text.now c.args.direction c.args.breaks.now.positions paras
    (levels_filled n found.new.columns) (take n filled.new.levels) (take n filled.new.levels)
    (lines_filled filled.result filled.new.columns) refl resolved.paras resolved.levels
    reset filled.ensures.lines)

pub returns-clause-holds : goal.returns-clause-holds
returns-clause-holds g c = λ limits.
    let resolved = c.resolve_line.ensures.resolved limits c.args.direction c.args.breaks.now.positions c.requires.line
    in
    let n : ℕ = length c.args.text.now in
    let found = c.resolve_line in
    let filled = c.arrange-filled in
    let column = found.new.columns.levels.items in
    let as_levels : length filled.new.levels ≡ column.len = search rules in
    let levels_are = with_items_is column filled.new.levels as_levels in
    record {
      units = refl;
      ends = resolved.para_ends;
      paras = resolved.paras;
      levels =
          rw levels_are
          (filled.ensures.same refl ∙ ap (take n) c.deref_mut-2.ensures.value ∙ resolved.levels);
      known = resolved.known;
      segments = λ none. search rules;
    }

pub invariant_of-self-clause-at_level : goal.invariant_of-self-clause-at_level
invariant_of-self-clause-at_level g c = λ complete.
    let n : ℕ = length c.args.text.now in
    let found = c.resolve_line in
    let filled = c.arrange-filled in
    let column = found.new.columns.levels.items in
    let as_levels : length filled.new.levels ≡ column.len = search rules in
    let levels_are = with_items_is column filled.new.levels as_levels in
    let some : 0 < items_in found.new.columns.paras = search rules in
    let at = all_at_para standard c.args.text.now c.args.direction
    c.args.breaks.now.positions one_line found.new.columns found.new.bounds (found.ensures.resolved standard c.args.direction c.args.breaks.now.positions c.requires.line)
    (record { paragraphs = refl; lines = refl; uniform = refl }) some found.ensures.complete in
    let same : take n filled.new.levels ≡ levels_filled n found.new.columns =
    filled.ensures.same refl ∙ ap (take n) c.deref_mut-2.ensures.value in
    record {
      some = omega arith;
      uniform = refl;
      levels = rw (levels_are, same) at;
    }
