-- A text that is one paragraph and one line, and whose paragraph keeps its level.
use Rattle.std.specs.Prelude.{ℕ, ◌≡◌, ◌+◌, ◌<◌, true, List, [], ◌∷◌, drop, length, map, take, refl}
use Rattle.std.proofs.Common.{arith, ap, sym, subst, ◌∙◌}
use Rattle.std.specs.List.{flat_map, list_all}
use Rattle.std.proofs.Math.Bool.{and-true}
use Rattle.std.proofs.lemmas.List.{append-nil, drop_all, take_all}
use Rattle.units.specs.Classes.{classes_of}
use Rattle.units.specs.Isolates.{level_of_para}
use Rattle.units.specs.Limits.{LimitsOf}
use Rattle.units.specs.Paragraphs.{paragraphs_of}
use Rattle.units.specs.declared.bracket.Unit.{Unit as BidiUnit}
use Rattle.units.specs.declared.level.Direction.{Direction}
use Rattle.units.specs.declared.level.ParaLevel.{ParaLevel}
use Rattle.explicit.specs.FirstParagraph.{first_length}
use Rattle.explicit.proofs.LevelsComputed.OneCutting.{paragraphs_of_split}
use Rattle.paragraph.specs.Contents.{keeps_level}
use Rattle.paragraph.specs.Resolvers.{IsResolved as IsResolvedParagraph}
use Rattle.lines.specs.Bounds.{bound_at, first_bound}
use Rattle.lines.specs.Columns.{levels_filled, para_ends_filled, paras_filled}
use Rattle.lines.specs.LineEnds.{AreAllLineEnds, AreAllParagraphEnds, IsParagraphAt}
use Rattle.lines.specs.ResolvedTexts.{IsResolved, one_line}
use Rattle.lines.specs.Unchanged.{each_keeps_level, keeps_own_level}
use Rattle.lines.specs.declared.bounds.Bound.{Bound}
use Rattle.lines.specs.declared.columns.TextColumns.{TextColumns}
use Rattle.lines.proofs.ParagraphLines.{paragraph_from}
use Rattle.lines.proofs.ParagraphSearch.{paragraph_ends_more, paragraph_ends_none, paragraph_is_line}
use Rattle.lines.proofs.TextLevels.{para_level, para_levels}

module _ (text : List BidiUnit) (some : 0 < length text) (one : first_length text ≡ length text) where
  paragraph_whole : IsParagraphAt (classes_of text) 0 (length text)
  paragraph_whole =
      let P : ℕ → Type 0 = λ end. IsParagraphAt (classes_of text) 0 end in
      let same : 0 + length text ≡ length text = omega arith in
      subst P same (paragraph_from text 0 (length text) some (sym one) some (omega arith))

  pub only_one : paragraphs_of text ≡ text ∷ []
  only_one =
      paragraphs_of_split text some
      ∙ ap (λ (k : ℕ). take k text ∷ paragraphs_of (drop k text)) one
      ∙ rw (take_all (length text) text (omega arith), drop_all (length text) text (omega arith)) refl

  pub keeps_only : (direction : Direction) → each_keeps_level text direction ≡ keeps_own_level direction text
  keeps_only direction = ap (list_all (keeps_own_level direction)) only_one ∙ and-true (keeps_own_level direction text)

  ends_only : AreAllParagraphEnds text (length text ∷ [])
  ends_only = paragraph_ends_more (classes_of text) [] 0 (length text) (paragraph_ends_none (classes_of text))
      paragraph_whole

  line_only : (bounds : List Bound) → bound_at bounds 0 ≡ first_bound → (bound_at bounds 1).position ≡ length text →
      AreAllLineEnds text [] 1 bounds
  line_only bounds first last = record {
    first = first;
    cut = λ k h. let e : k ≡ 0 = omega arith in
        rw (e, first, last) (paragraph_is_line (classes_of text) 0 (length text) paragraph_whole);
    last = last;
  }

  pub paragraph_is_resolved : (direction : Direction) (level : ParaLevel) (columns : TextColumns)
      (bounds : List Bound) →
      ((limits : LimitsOf) → IsResolvedParagraph limits text direction (record { level = level; uniform = true })
      (levels_filled (length text) columns)) →
      paras_filled 1 columns ≡ level ∷ [] → para_ends_filled 1 columns ≡ length text ∷ [] →
      bound_at bounds 0 ≡ first_bound → (bound_at bounds 1).position ≡ length text →
      (limits : LimitsOf) → IsResolved limits text direction [] one_line columns bounds
  paragraph_is_resolved direction level columns bounds resolved p e first last limits =
      let known = resolved limits in
      record {
        paras = ap (map level_of_para) p ∙ ap (λ (n : ℕ). n ∷ []) known.level ∙
            ap (map (para_level direction)) (sym only_one);
        para_ends = subst (AreAllParagraphEnds text) (sym e) ends_only;
        few = omega arith;
        levels = known.levels ∙ sym (append-nil _) ∙ ap (flat_map (para_levels limits direction)) (sym only_one);
        ends = line_only bounds first last;
        few_lines = omega arith;
        known = known.known ∙ ap (λ (n : ℕ). keeps_level n (classes_of text)) known.level ∙ sym (keeps_only direction);
      }
