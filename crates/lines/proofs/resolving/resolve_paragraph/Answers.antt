use Rattle.std.proofs.Common.{rules, ap, subst, sym, ◌∙◌, ◌≡◌, ℕ, List, Option, length, take, true}
use Rattle.std.specs.Box.{boxed_slice_items, boxed_slice_with_items}
use Rattle.std.proofs.lemmas.List.{with_items_is}
use Rattle.units.specs.Classes.{classes_of}
use Rattle.units.specs.Limits.{standard}
use Rattle.units.specs.declared.bracket.Unit.{Unit as BidiUnit}
use Rattle.paragraph.specs.Contents.{keeps_level}
use Rattle.paragraph.specs.Resolvers.{IsResolved as IsResolvedParagraph}
use Rattle.lines.specs.Columns.{levels_filled}
use Rattle.lines.specs.declared.columns.TextColumns.{TextColumns}
use Rattle.lines.proofs.OneParagraph.{paragraph_is_resolved}
use Rattle.lines.proofs.resolving.resolve_paragraph.Goals as goal

-- the levels that were written to their column
levels_are : (n : ℕ) (old new : TextColumns) (levels : List (Option ℕ)) → length levels ≡ old.levels.items.len →
    new.levels ≡ boxed_slice_with_items old.levels levels → levels_filled n new ≡ take n levels
levels_are n old new levels long put =
    ap (λ column. take n (boxed_slice_items column)) put ∙ ap (take n) (with_items_is old.levels.items levels long)

pub returns-in-Some-clause-known : goal.returns-in-Some-clause-known
returns-in-Some-clause-known g c =
    let known = c.in-Some.ensures.resolved standard in
    known.known ∙ ap (λ (n : ℕ). keeps_level n (classes_of c.args.text.now)) known.level

pub returns-in-Some-clause-resolved : goal.returns-in-Some-clause-resolved
returns-in-Some-clause-resolved g c = λ yes.
    let text : List BidiUnit = c.args.text.now in
    let put = c.write_paragraph.ensures in
    let written = levels_are (length text) c.args.columns.now c.write_paragraph.new.columns c.resolve_uniform.new.levels
    (search rules) put.levels in
    paragraph_is_resolved text c.requires.some c.requires.one c.args.direction c.in-Some.level
    c.write_paragraph.new.columns c.write_paragraph.new.bounds
    (λ limits.
    let P : List (Option ℕ) → Type 0 =
    IsResolvedParagraph limits text c.args.direction (record { level = c.in-Some.level; uniform = true }) in
    subst P (sym written) (c.in-Some.ensures.resolved limits))
    put.paras put.para_ends put.first put.last
