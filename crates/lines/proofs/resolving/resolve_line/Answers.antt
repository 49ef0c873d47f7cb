use Rattle.std.proofs.Common.{rules, ap, subst, sym, ◌∙◌, ◌≡◌, ℕ, List, Option, Some, length, take}
use Rattle.std.specs.Box.{boxed_slice_items, boxed_slice_with_items}
use Rattle.std.specs.List.{list_all}
use Rattle.std.specs.Option.{is_some}
use Rattle.std.specs.Prelude.{replicate}
use Rattle.std.proofs.lemmas.List.{with_items_is}
use Rattle.units.specs.Isolates.{level_of_para}
use Rattle.units.specs.declared.bracket.Unit.{Unit as BidiUnit}
use Rattle.lines.specs.Columns.{levels_filled}
use Rattle.lines.specs.ResolvedTexts.{IsResolved, one_line}
use Rattle.lines.specs.declared.columns.TextColumns.{TextColumns}
use Rattle.lines.proofs.OneLevel.{all_are_some, line_is_resolved}
use Rattle.lines.proofs.OneParagraph.{paragraph_is_resolved}
use Rattle.lines.proofs.resolving.resolve_line.Goals as goal

-- the levels that were written to their column
levels_are : (n : ℕ) (old new : TextColumns) (levels : List (Option ℕ)) → length levels ≡ old.levels.items.len →
    new.levels ≡ boxed_slice_with_items old.levels levels → levels_filled n new ≡ take n levels
levels_are n old new levels long put =
    ap (λ column. take n (boxed_slice_items column)) put ∙ ap (take n) (with_items_is old.levels.items levels long)

pub returns-clause-complete : goal.returns-clause-complete
returns-clause-complete g c =
    let n : ℕ = length c.args.text.now in
    let filled = levels_are n c.args.columns.now c.write_paragraph.new.columns c.write_level.new.levels (search rules)
    c.write_paragraph.ensures.levels in
    ap (list_all is_some) (filled ∙ c.write_level.ensures.levels) ∙ all_are_some n c.level.result

pub returns-clause-resolved : goal.returns-clause-resolved
returns-clause-resolved g c = λ limits direction breaks line.
    let text : List BidiUnit = c.args.text.now in
    let n : ℕ = length text in
    let put = c.write_paragraph.ensures in
    let filled = levels_are n c.args.columns.now c.write_paragraph.new.columns c.write_level.new.levels (search rules)
    put.levels in
    let same : levels_filled n c.write_paragraph.new.columns ≡ replicate n (Some (level_of_para c.args.level)) =
    filled ∙ c.write_level.ensures.levels ∙ ap (λ (v : ℕ). replicate n (Some v)) c.level.ensures.value in
    let P : List ℕ → Type 0 =
    λ at. IsResolved limits text direction at one_line
    c.write_paragraph.new.columns c.write_paragraph.new.bounds in
    subst P (sym line.unbroken.no_break)
    (paragraph_is_resolved text line.unbroken.some line.unbroken.whole direction c.args.level
    c.write_paragraph.new.columns c.write_paragraph.new.bounds
    (λ limits. line_is_resolved limits text direction breaks
    c.args.level (levels_filled n c.write_paragraph.new.columns) line same)
    put.paras put.para_ends put.first put.last limits)
