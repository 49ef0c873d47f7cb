-- The levels of a text, written paragraph by paragraph.
use Rattle.std.specs.Prelude.{Option, ℕ, ◌+◌, ◌≤◌, ◌≡◌, List, [], ◌∷◌, ◌++◌, length, map, take, refl}
use Rattle.std.specs.List.{flat_map}
use Rattle.std.proofs.Common.{arith, ap, sym, subst, ◌∙◌}
use Rattle.std.proofs.lemmas.List.{append_assoc, append-nil, length-append}
use Rattle.units.specs.Classes.{classes_of}
use Rattle.units.specs.Isolates.{level_of_para, para_level_of}
use Rattle.units.specs.Layout.{LineLayout, TextLayout, layout_of, lines_cut_at, para_levels_of, resolved_levels, text_levels}
use Rattle.units.specs.Limits.{LimitsOf}
use Rattle.units.specs.Reordering.{after_resets, cuts_of}
use Rattle.units.specs.Paragraphs.{IsCut, SeparatorOnlyLast, joined, paragraphs_of}
use Rattle.units.specs.declared.bracket.Unit.{Unit as BidiUnit}
use Rattle.units.specs.declared.level.Direction.{Direction}
use Rattle.units.specs.declared.level.ParaLevel.{ParaLevel}
use Rattle.explicit.proofs.LevelsComputed.OneCutting.{joined-paragraphs_of, IsCut-paragraphs_of}

-- the level of a paragraph
abbrev pub para_level : Direction → List BidiUnit → ℕ
para_level direction us = para_level_of (classes_of us) direction

-- the resolved levels of a paragraph
abbrev pub para_levels : LimitsOf → Direction → List BidiUnit → List (Option ℕ)
para_levels limits direction us = resolved_levels limits us (para_level direction us)

-- the paragraphs before start are written, and those of `rest` are not
pub record IsWritten (limits : LimitsOf) (text : List BidiUnit) (direction : Direction) (start : ℕ)
    (paras : List ParaLevel) (levels : List (Option ℕ)) (rest : List (List BidiUnit)) : Type 0 where
  pub cut : IsCut rest
  pub ahead : start + length (joined rest) ≡ length text
  pub few : length paras ≤ start
  pub all_para_levels : map level_of_para paras ++ map (para_level direction) rest ≡ para_levels_of text direction
  pub computed_levels : take start levels ++ flat_map (para_levels limits direction) rest ≡
      text_levels limits text direction

pub written_none : (limits : LimitsOf) (text : List BidiUnit) (direction : Direction) (levels : List (Option ℕ)) →
    IsWritten limits text direction 0 [] levels (paragraphs_of text)
written_none limits text direction levels = record {
  cut = IsCut-paragraphs_of text;
  ahead = omega (arith, ap length (joined-paragraphs_of text));
  few = omega arith;
  all_para_levels = refl;
  computed_levels = refl;
}

map-push : (paras : List ParaLevel) (level : ParaLevel) (rest : List ℕ) → map level_of_para (paras ++ (level ∷ [])) ++
    rest ≡ map level_of_para paras ++ (level_of_para level ∷ rest)
map-push [] level rest = refl
map-push (para ∷ paras) level rest = ap (λ (xs : List ℕ). level_of_para para ∷ xs) (map-push paras level rest)

module _ {limits : LimitsOf} {text : List BidiUnit} {direction : Direction} {start : ℕ} {paras : List ParaLevel}
    {levels : List (Option ℕ)} where
  module _ {para : List BidiUnit} {rest : List (List BidiUnit)} (w : IsWritten limits text direction start paras levels
      (para ∷ rest)) where
    pub separator_last : SeparatorOnlyLast para
    separator_last = w.cut.1

    pub written_next : (level : ParaLevel) (now : List (Option ℕ)) → level_of_para level ≡ para_level direction para →
        take (start + length para) now ≡ take start levels ++ para_levels limits direction para →
        IsWritten limits text direction (start + length para) (paras ++ (level ∷ [])) now rest
    written_next level now at put = grind (arith, length-append, map-push, append_assoc)

    -- the same, with the end of the paragraph
    pub written_to : (end : ℕ) (level : ParaLevel) (now : List (Option ℕ)) → end ≡ start + length para →
        level_of_para level ≡ para_level direction para →
        take end now ≡ take start levels ++ para_levels limits direction para →
        IsWritten limits text direction end (paras ++ (level ∷ [])) now rest
    written_to end level now e at put =
        let P : ℕ → Type 0 = λ k. IsWritten limits text direction k (paras ++ (level ∷ [])) now rest in
        subst P (sym e) (written_next level now at (ap (λ k. take k now) (sym e) ∙ put))

  module _ (w : IsWritten limits text direction start paras levels []) where
    pub all_written : start ≡ length text
    all_written = omega (arith, w.ahead)

    pub written_paras : map level_of_para paras ≡ para_levels_of text direction
    written_paras = sym (append-nil (map level_of_para paras)) ∙ w.all_para_levels

    pub written_levels : take (length text) levels ≡ text_levels limits text direction
    written_levels = ap (λ (n : ℕ). take n levels) (sym all_written) ∙ sym (append-nil (take start levels)) ∙
        w.computed_levels

-- the written parts are those of the layout
pub laid_out : (limits : LimitsOf) (text : List BidiUnit) (direction : Direction) (breaks : List ℕ) (paras : List ℕ)
    (resolved levels front : List (Option ℕ)) (lines : List LineLayout) →
    front ≡ levels → paras ≡ para_levels_of text direction → resolved ≡ text_levels limits text direction →
    levels ≡ after_resets (classes_of text) breaks paras resolved →
    lines ≡ lines_cut_at levels (cuts_of (classes_of text) breaks) →
    (let shown : TextLayout = record { paras = paras; levels = front; lines = lines } in
    shown ≡ layout_of limits text direction breaks)
unfolding layout_of
laid_out limits text direction breaks paras resolved levels front lines e p r l w = grind arith
