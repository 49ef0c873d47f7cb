-- A text whose positions all have one level.
use Rattle.std.proofs.Common.{arith, ap, refl, subst, sym, ◌∙◌, ◌≡◌, ◌<◌, ◌≤◌, ℕ, suc, zero, true, Option, Some, None, List, [], ◌∷◌, length}
use Rattle.std.specs.Box.{boxed_slice_items}
use Rattle.std.specs.Prelude.{map, replicate, slice_index_or}
use Rattle.std.specs.List.{list_all}
use Rattle.std.specs.Option.{is_some}
use Rattle.std.proofs.lemmas.Bool.{and_parts, not-true}
use Rattle.std.proofs.lemmas.List.{get_or-take, length-map, length-take-le}
use Rattle.units.specs.Classes.{classes_of, is_removed}
use Rattle.units.specs.Isolates.{level_of_para}
use Rattle.units.specs.Layout.{resolved_levels}
use Rattle.units.specs.Limits.{LimitsOf}
use Rattle.units.specs.Paragraphs.{paragraphs_of}
use Rattle.units.specs.declared.bracket.Unit.{Unit as BidiUnit}
use Rattle.units.specs.declared.level.Direction.{Direction}
use Rattle.units.specs.declared.level.ParaLevel.{ParaLevel}
use Rattle.units.specs.declared.level.ParaLevel.TheVariants.{Zero}
use Rattle.explicit.specs.Uniform.{level_unless_removed_at}
use Rattle.paragraph.specs.Contents.{has_none, keeps_level}
use Rattle.paragraph.specs.Resolvers.{IsResolved as IsResolvedParagraph}
use Rattle.paragraph.proofs.FlatLevels.{levels_are_unchanged, unchanged_stays}
use Rattle.lines.specs.Columns.{levels_filled, paras_filled}
use Rattle.lines.specs.LineEnds.{AreAllLineEnds}
use Rattle.lines.specs.LinePositions.{IsAtOneLevel}
use Rattle.lines.specs.OneLevel.{AllHaveLevel}
use Rattle.lines.specs.ResolvedTexts.{IsOneLine, IsResolved}
use Rattle.lines.specs.Room.{items_in}
use Rattle.lines.specs.Spaces.{AreAtParas}
use Rattle.lines.specs.Unchanged.{IsLineAtLevel}
use Rattle.lines.specs.declared.bounds.Bound.{Bound}
use Rattle.lines.specs.declared.columns.TextColumns.{TextColumns}
use Rattle.lines.specs.declared.resolving.ResolvedText.{ResolvedText}
use Rattle.lines.proofs.AtParas.{all_stay, text_at_paras}
use Rattle.lines.proofs.LineStored.{length-text_levels}
use Rattle.lines.proofs.OneLine.{line_at_para}

-- if each remaining position has the level, and none is removed, all have it
each_has : (levels : List (Option ℕ)) (level : ℕ) →
    ((p v : ℕ) → p < length levels → slice_index_or levels p None ≡ Some v → v ≡ level) →
    list_all is_some levels ≡ true → AllHaveLevel level levels
each_has [] level same all = refl
each_has (None ∷ levels) level same all = grind arith
each_has (Some v ∷ levels) level same all =
    let first : v ≡ level = same 0 v (omega arith) refl in
    let rest = each_has levels level (λ p w lt e. same (suc p) w (omega arith) e) all in
    ap (λ (n : ℕ). Some n ∷ levels) first ∙ ap (λ (xs : List (Option ℕ)). Some level ∷ xs) rest

-- all positions of a text that is resolved as one line, and whose positions all remain, have the paragraph's level
pub all_at_para : (limits : LimitsOf) (text : List BidiUnit) (direction : Direction) (breaks : List ℕ)
    (resolved : ResolvedText) (columns : TextColumns) (bounds : List Bound) →
    IsResolved limits text direction breaks resolved columns bounds → IsOneLine resolved → 0 < items_in columns.paras →
    list_all is_some (levels_filled (length text) columns) ≡ true →
    AllHaveLevel (level_of_para (slice_index_or (boxed_slice_items columns.paras) 0 Zero))
    (levels_filled (length text) columns)
all_at_para limits text direction breaks resolved columns bounds found one some all =
    let levels : List (Option ℕ) = levels_filled (length text) columns in
    let paras : List ParaLevel = paras_filled resolved.paragraphs columns in
    let stays = text_at_paras limits direction text
    (all_stay limits direction (paragraphs_of text) (sym found.known ∙ one.uniform)) in
    let at : AreAtParas (classes_of text) (map level_of_para paras) levels = rw (found.paras, found.levels) stays in
    let ends : AreAllLineEnds text breaks 1 bounds =
    subst (λ (k : ℕ). AreAllLineEnds text breaks k bounds) one.lines found.ends in
    let done : length levels ≡ length text =
    ap (λ (xs : List (Option ℕ)). length xs) found.levels ∙ length-text_levels limits text direction in
    let same : length (classes_of text) ≡ length levels = length-map text (λ u. u.class) ∙ sym done in
    let few : resolved.paragraphs ≤ items_in columns.paras = omega (arith, one.paragraphs, some) in
    let first : 0 < length paras =
    omega (arith, one.paragraphs, length-take-le resolved.paragraphs (boxed_slice_items columns.paras) few) in
    let read : slice_index_or paras 0 Zero ≡ slice_index_or (boxed_slice_items columns.paras) 0 Zero =
    get_or-take resolved.paragraphs (boxed_slice_items columns.paras) 0 Zero (omega (arith, one.paragraphs)) in
    let level : ℕ = level_of_para (slice_index_or (boxed_slice_items columns.paras) 0 Zero) in
    let line : IsAtOneLevel levels 0 (length levels) level =
    subst (λ (p : ParaLevel). IsAtOneLevel levels 0 (length levels) (level_of_para p)) read
    (line_at_para (classes_of text) breaks levels bounds (length text) ends (sym done) same paras first at) in
    each_has levels level (λ p v lt e. line.same p v (omega arith) lt e) all

-- all positions of such levels remain
pub all_are_some : (n level : ℕ) → list_all is_some (replicate n (Some level)) ≡ true
all_are_some zero level = refl
all_are_some (suc n) level = all_are_some n level

-- X9: if no class is removed, the levels that the units keep are all this one
pub remaining_levels : (us : List BidiUnit) (level : ℕ) → has_none is_removed (classes_of us) ≡ true →
    map (λ (u : BidiUnit). level_unless_removed_at level u.class) us ≡ replicate (length us) (Some level)
remaining_levels [] level none = refl
remaining_levels (u ∷ us) level none = grind (arith, and_parts, not-true, remaining_levels us level)

-- P2 to I2: a column with this level at each position is resolved, if the text is one line at this level
pub line_is_resolved : (limits : LimitsOf) (text : List BidiUnit) (direction : Direction) (breaks : List ℕ)
    (level : ParaLevel) (column : List (Option ℕ)) → IsLineAtLevel text direction breaks level →
    column ≡ replicate (length text) (Some (level_of_para level)) →
    IsResolvedParagraph limits text direction (record { level = level; uniform = true }) column
line_is_resolved limits text direction breaks level column line same =
    let known = line.uniform in
    let at : ℕ = level_of_para level in
    let keeps = ap (λ (n : ℕ). keeps_level n (classes_of text)) known.para ∙ known.keeps in
    let written = same ∙ sym (remaining_levels text at line.remain) in
    record {
      level = known.para;
      levels = written ∙ levels_are_unchanged limits text at keeps ∙ ap (resolved_levels limits text) known.para;
      known = sym keeps;
      uniform = λ e. unchanged_stays text at column written;
    }
