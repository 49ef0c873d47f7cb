-- One line of a text, from the stored resolved levels.
use Rattle.std.proofs.Common.{◌≡◌, ℕ, ◌+◌, ◌-◌, ◌<◌, ◌≤◌, Bool, true, false, Option, None, List, [], length, take, drop, refl, sym, ap, ◌∙◌, subst, arith, get_or}
use Rattle.std.specs.Prelude.{IsTrue, map, slice_range, slice_index_or, count_by}
use Rattle.std.proofs.lemmas.List.Edits.{get_or-between}
use Rattle.std.proofs.lemmas.List.{get_or-take, length-take-le, take-take}
use Rattle.std.proofs.lemmas.Slice.{between_is}
use Rattle.units.specs.Classes.{class_at, classes_of, is_separator}
use Rattle.units.specs.Isolates.{level_of_para}
use Rattle.units.specs.Layout.{layout_of, para_levels_of, text_levels}
use Rattle.units.specs.Limits.{LimitsOf}
use Rattle.units.specs.Reordering.{after_resets, line_order, para_level_at}
use Rattle.units.specs.declared.bracket.Unit.{Unit as BidiUnit}
use Rattle.units.specs.declared.class.Class.{Class}
use Rattle.units.specs.declared.level.Direction.{Direction}
use Rattle.units.specs.declared.level.ParaLevel.{ParaLevel}
use Rattle.units.specs.declared.level.ParaLevel.TheVariants.{Zero}
use Rattle.units.specs.Paragraphs.{paragraphs_of}
use Rattle.lines.specs.Unchanged.{each_keeps_level}
use Rattle.lines.specs.LinePositions.{IsAtOneLevel}
use Rattle.lines.specs.LinesAlone.{IsLineIn, IsLineLaidOut}
use Rattle.lines.specs.Spaces.{AreAtParas, levels_reset}
use Rattle.lines.proofs.AtParas.{all_stay, text_at_paras}
use Rattle.lines.proofs.UnchangedLevels.{levels_unchanged}
use Rattle.lines.proofs.Lengths.{length-levels}
use Rattle.lines.proofs.OrderAlone.{order_alone}
use Rattle.lines.proofs.ParagraphLines.{joined_line, line_uniform, para_read}
use Rattle.lines.proofs.TextEnd.{length-after_resets}

-- no paragraph ends within a line
pub plain_line : (text : List BidiUnit) (at : List ℕ) (start end p : ℕ) → IsLineIn text at start end → start < p + 1 →
    p + 1 < end → is_separator (class_at (classes_of text) p) ≡ false
plain_line text at start end p line low high =
    let e : p ≡ p + 1 - 1 = omega arith in
    ap (λ q. is_separator (class_at (classes_of text) q)) e ∙
    joined_line (classes_of text) at start end (p + 1) line low high

-- the level of the paragraph with a number, from the used part of the column
pub para_in_use : (text : List BidiUnit) (paras : List ParaLevel) (used start number : ℕ) (level : ParaLevel) →
    level ≡ slice_index_or paras number Zero → number ≡ count_by is_separator (take start (classes_of text)) →
    number < used → used ≤ length paras →
    level_of_para level ≡ para_level_at (classes_of text) (map level_of_para (take used paras)) start
para_in_use text paras used start number level read counted low within =
    ap level_of_para (read ∙ sym (get_or-take used paras number Zero low))
    ∙ para_read (classes_of text) (take used paras) start number counted (omega (
      arith,
      length-take-le used paras within,
    ))

-- a range of the used part of a list is a range of the whole list
pub range_in_use : {X : Type 0} (xs : List X) (used start end : ℕ) → end ≤ used →
    slice_range (take used xs) start end ≡ slice_range xs start end
range_in_use xs used start end within =
    between_is (take used xs) start end ∙ ap (drop start) (take-take end used xs within) ∙ sym (between_is xs start end)

pub length-text_levels : (limits : LimitsOf) (text : List BidiUnit) (direction : Direction) →
    length (text_levels limits text direction) ≡ length text
unfolding layout_of
length-text_levels limits text direction =
    sym (length-after_resets (classes_of text) [] (para_levels_of text direction) (text_levels limits text direction))
    ∙ length-levels limits text direction []

-- L1 and then L2 of the line's levels give the line in the layout of the text
pub line_laid_out : (limits : LimitsOf) (text : List BidiUnit) (direction : Direction) (breaks : List ℕ)
    (paras : List ParaLevel) (start end : ℕ) (levels : List (Option ℕ)) (order : List ℕ) →
    map level_of_para paras ≡ para_levels_of text direction → start ≤ end → end ≤ length text →
    levels ≡ slice_range (levels_reset text breaks paras (text_levels limits text direction)) start end →
    order ≡ map (λ p. start + p) (line_order levels 0 (length levels)) →
    IsLineLaidOut (layout_of limits text direction breaks) start end levels order
unfolding layout_of
line_laid_out limits text direction breaks paras start end levels order same forward within reset ordered =
    let own : List Class = classes_of text in
    let whole : List (Option ℕ) =
    after_resets own breaks (para_levels_of text direction) (text_levels limits text direction) in
    let is : levels ≡ slice_range whole start end =
    reset ∙ ap (λ ns. slice_range (after_resets own breaks ns (text_levels limits text direction)) start end) same in
    let long : length whole ≡ length text = length-levels limits text direction breaks in
    record {
      leveled = is;
      ordered = ordered ∙ order_alone whole levels start end is forward (omega (arith, long, within));
    }

module _ (limits : LimitsOf) (text : List BidiUnit) (direction : Direction) (paras : List ParaLevel)
    (same : map level_of_para paras ≡ para_levels_of text direction) where
  -- if each paragraph keeps its level, each position has the level of its paragraph
  stays : true ≡ each_keeps_level text direction →
      AreAtParas (classes_of text) (map level_of_para paras) (text_levels limits text direction)
  stays known =
      subst (λ ns. AreAtParas (classes_of text) ns (text_levels limits text direction)) (sym same)
      (text_at_paras limits direction text (all_stay limits direction (paragraphs_of text) (sym known)))

  -- the levels of a line, reset if L1 may change one
  pub line_reset_by : (breaks : List ℕ) (start end : ℕ) (uniform : Bool) (part levels : List (Option ℕ)) →
      uniform ≡ each_keeps_level text direction → slice_range (text_levels limits text direction) start end ≡ part →
      (IsTrue uniform → levels ≡ part) →
      (uniform ≡ false → levels ≡ slice_range (levels_reset text breaks paras (text_levels limits text direction)) start
      end) → levels ≡ slice_range (levels_reset text breaks paras (text_levels limits text direction)) start end
  line_reset_by breaks start end true part levels known is unchanged reset =
      unchanged refl
      ∙ sym is
      ∙ ap (λ xs. slice_range xs start end)
      (sym (levels_unchanged (classes_of text) breaks (map level_of_para paras) (text_levels limits text direction)
      (stays known)))
  line_reset_by breaks start end false part levels known is unchanged reset = reset refl

  -- if each paragraph keeps its level, the line has the level of its own paragraph
  pub line_at_level : (breaks : List ℕ) (start end level : ℕ) (part : List (Option ℕ)) →
      true ≡ each_keeps_level text direction → IsLineIn text breaks start end →
      level ≡ para_level_at (classes_of text) (map level_of_para paras) start →
      slice_range (text_levels limits text direction) start end ≡ part → IsAtOneLevel part 0 (end - start) level
  line_at_level breaks start end level part known line is_level is = record {
    same = λ p v low high h.
        let at_one = line_uniform (classes_of text) breaks (map level_of_para paras)
        (text_levels limits text direction) start end (stays known) line in
        at_one.same (start + p) v (omega arith) (omega arith)
        (sym (get_or-between (text_levels limits text direction) start end p None (omega arith)) ∙
        ap (λ xs. get_or xs p None) is ∙ h)
        ∙ sym is_level;
  }
