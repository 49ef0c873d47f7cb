-- A text that is one line: its bounds, and its order.
use Rattle.std.proofs.Common.{◌≡◌, ℕ, ◌<◌, ◌≤◌, ◌++◌, List, Option, [], ◌∷◌, length, take, refl, sym, ap, ◌∙◌, subst, arith}
use Rattle.std.specs.Prelude.{map, slice_index_or, slice_set}
use Rattle.std.proofs.lemmas.List.{take_more, take_more_set}
use Rattle.units.specs.Isolates.{level_of_para}
use Rattle.units.specs.Layout.{lines_cut_at}
use Rattle.units.specs.Reordering.{begins_line, cuts_of, line_order}
use Rattle.units.specs.declared.class.Class.{Class}
use Rattle.units.specs.declared.level.ParaLevel.{ParaLevel}
use Rattle.units.specs.declared.level.ParaLevel.TheVariants.{Zero}
use Rattle.lines.specs.Bounds.{bound_at, first_bound, lines_in}
use Rattle.lines.specs.LineEnds.{AreLineEnds, EndsLineAt}
use Rattle.lines.specs.LinePositions.{IsAtOneLevel}
use Rattle.lines.specs.Spaces.{AreAtParas}
use Rattle.lines.specs.declared.bounds.Bound.{Bound}
use Rattle.lines.proofs.LinesWritten.{Filling, filling_end, filling_more, filling_start}
use Rattle.lines.proofs.ParagraphLines.{line_uniform, para_read}

module _ (own : List Class) (breaks : List ℕ) (levels : List (Option ℕ)) (bounds : List Bound) (end : ℕ)
    (ends : AreLineEnds own breaks 1 end bounds) (done : end ≡ length levels) (same : length own ≡ length levels) where
  -- the line ends with the text
  pub line_whole : EndsLineAt (begins_line own breaks) 0 (length levels) (length levels)
  line_whole =
      let first : (bound_at bounds 0).position ≡ 0 = ap (λ (b : Bound). b.position) ends.first in
      let Whole : ℕ → ℕ → ℕ → Type 0 = λ start end stop. EndsLineAt (begins_line own breaks) start end stop in
      subst (λ n. Whole 0 n (length levels)) (ends.last ∙ done) (subst (λ n. Whole 0 (bound_at bounds 1).position n) same
      (subst (λ n. Whole n (bound_at bounds 1).position (length own)) first (ends.cut 0 (omega arith))))

  -- its remaining positions have the level of the first paragraph
  pub line_at_para : (paras : List ParaLevel) → 0 < length paras → AreAtParas own (map level_of_para paras) levels →
      IsAtOneLevel levels 0 (length levels) (level_of_para (slice_index_or paras 0 Zero))
  line_at_para paras some at =
      let read = para_read own paras 0 0 refl some in
      let long = subst (λ n. EndsLineAt (begins_line own breaks) 0 (length levels) n) (sym same) line_whole in
      subst (IsAtOneLevel levels 0 (length levels)) (sym read)
      (line_uniform own breaks (map level_of_para paras) levels 0 (length levels) at long)

  -- with the order of the line, all lines are written
  pub line_filled : (order : ℕ) (orders : List ℕ) → 1 < length bounds → orders ≡ line_order levels 0 (length levels) →
      length orders ≤ length levels → length orders ≡ order →
      Filling levels (begins_line own breaks) (length levels) orders
      (take 2 (slice_set bounds 1 (record { position = (bound_at bounds 1).position; order = order })))
  line_filled order orders room written few is =
      let test = begins_line own breaks in
      let bound : Bound = record { position = (bound_at bounds 1).position; order = order } in
      let one : take 1 bounds ≡ first_bound ∷ [] =
      take_more bounds 0 first_bound (omega arith) ∙ ap (λ (b : Bound). b ∷ []) ends.first in
      let put : take 2 (slice_set bounds 1 bound) ≡
      (first_bound ∷ []) ++ record { position = length levels; order = length orders } ∷ [] =
      take_more_set bounds 1 bound room ∙ ap (λ (bs : List Bound). bs ++ bound ∷ []) one ∙
      ap (λ (n : ℕ). (first_bound ∷ []) ++ record { position = n; order = order } ∷ []) (ends.last ∙ done) ∙
      ap (λ (n : ℕ). (first_bound ∷ []) ++ record { position = length levels; order = n } ∷ []) (sym is) in
      filling_more levels test 0 (length levels) [] orders (first_bound ∷ []) _ line_whole written few put
      (filling_start levels test)

  -- these are the lines of the text
  pub lines_filled : (order : ℕ) (orders : List ℕ) → 1 < length bounds → orders ≡ line_order levels 0 (length levels) →
      length orders ≤ length levels → length orders ≡ order →
      lines_in orders (take 2 (slice_set bounds 1 (record { position = (bound_at bounds 1).position; order = order }))) ≡
      lines_cut_at levels (cuts_of own breaks)
  lines_filled order orders room written few is =
      filling_end levels own breaks (length levels) orders _ same refl (line_filled order orders room written few is)
