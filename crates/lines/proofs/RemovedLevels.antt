-- A position of a layout has no level exactly if it is removed.
use Rattle.std.specs.Prelude.{Option, None, Some, ℕ, ◌<◌, ◌≤◌, ◌≡◌, Bool, true, List, [], ◌∷◌, length, map, is_none, slice_index_or, refl}
use Rattle.std.specs.List.{flat_map}
use Rattle.std.proofs.Common.{arith, ap, sym, ◌∙◌, get_or}
use Rattle.std.proofs.lemmas.List.{ext_get_or, get_or-map, length-map, map-append}
use Rattle.units.specs.Classes.{class_at, classes_of, is_removed}
use Rattle.units.specs.Isolates.{para_level_of}
use Rattle.units.specs.Layout.{layout_of, para_levels_of, text_levels}
use Rattle.units.specs.Limits.{LimitsOf, AreAllowed}
use Rattle.units.specs.Paragraphs.{IsCut, SeparatorOnlyLast, joined, paragraphs_of}
use Rattle.units.specs.Reordering.{is_reset, para_level_at, reset_to}
use Rattle.units.specs.declared.bracket.Unit.{Unit as BidiUnit}
use Rattle.units.specs.declared.class.Class.{Class}
use Rattle.units.specs.declared.class.Class.TheVariants.{L}
use Rattle.units.specs.declared.level.Direction.{Direction}
use Rattle.units.specs.declared.level.Direction.TheVariants.{Auto, Ltr, Rtl, AutoRtl}
use Rattle.explicit.proofs.Matched.AtMostOne.{at_most_one}
use Rattle.explicit.proofs.LevelsComputed.OneCutting.{IsCut-paragraphs_of, joined-paragraphs_of}
use Rattle.paragraph.proofs.Unresolved.{resolved_none}
use Rattle.units.proofs.Lengths.{length-resolved_levels}
use Rattle.lines.proofs.TextEnd.{get_or-after_resets}
use Rattle.lines.proofs.TextLevels.{para_level, para_levels}

-- P2, P3: the level of a paragraph is 0 or 1
pub para_level-low : (cs : List Class) (direction : Direction) → para_level_of cs direction ≤ 1
unfolding para_level_of
para_level-low cs Auto = at_most_one _
para_level-low cs Ltr = omega arith
para_level-low cs Rtl = omega arith
para_level-low cs AutoRtl = at_most_one _

none-reset : (reset : Bool) (para : ℕ) (level : Option ℕ) → is_none (reset_to reset para level) ≡ is_none level
none-reset reset para None = refl
none-reset reset para (Some level) = refl

module _ (limits : LimitsOf) (allowed : AreAllowed limits) (direction : Direction) where
  -- in a paragraph, exactly the removed positions have no level
  none_in_para : (us : List BidiUnit) → SeparatorOnlyLast us →
      map is_none (para_levels limits direction us) ≡ map is_removed (classes_of us)
  none_in_para us only =
      let levels : List (Option ℕ) = para_levels limits direction us in
      let long : length levels ≡ length us = length-resolved_levels limits us (para_level direction us) in
      let classes : length (classes_of us) ≡ length us = length-map us (λ (u : BidiUnit). u.class) in
      let left : length (map is_none levels) ≡ length levels = length-map levels is_none in
      let right : length (map is_removed (classes_of us)) ≡ length (classes_of us) =
      length-map (classes_of us) is_removed in
      ext_get_or true (map is_none levels) (map is_removed (classes_of us)) (omega arith)
      (λ p h.
      get_or-map is_none levels p None true (omega arith)
      ∙ resolved_none limits allowed us (para_level direction us) (para_level-low (classes_of us) direction) only p
      (omega arith)
      ∙ sym (get_or-map is_removed (classes_of us) p L true (omega arith)))

  none_in_pieces : (pieces : List (List BidiUnit)) → IsCut pieces →
      map is_none (flat_map (para_levels limits direction) pieces) ≡ map is_removed (classes_of (joined pieces))
  none_in_pieces [] cut = refl
  none_in_pieces (us ∷ pieces) cut = grind (arith, map-append, none_in_para, none_in_pieces pieces cut.3)

  none_in_text : (text : List BidiUnit) →
      map is_none (text_levels limits text direction) ≡ map is_removed (classes_of text)
  none_in_text text =
      none_in_pieces (paragraphs_of text) (IsCut-paragraphs_of text)
      ∙ ap (λ (us : List BidiUnit). map is_removed (classes_of us)) (joined-paragraphs_of text)

  -- X9: in a layout, exactly the removed positions have no level
  pub none_in_layout : (text : List BidiUnit) (breaks : List ℕ) (p : ℕ) → p < length text →
      is_none (slice_index_or (layout_of limits text direction breaks).levels p None) ≡
      is_removed (class_at (classes_of text) p)
  unfolding layout_of
  none_in_layout text breaks p h =
      let own : List Class = classes_of text in
      let levels : List (Option ℕ) = text_levels limits text direction in
      let classes : length own ≡ length text = length-map text (λ (u : BidiUnit). u.class) in
      let long : length levels ≡ length own = sym (length-map levels is_none) ∙ ap length (none_in_text text) ∙
      length-map own is_removed in
      ap is_none (get_or-after_resets own breaks (para_levels_of text direction) levels p (omega arith))
      ∙ none-reset (is_reset own breaks p) (para_level_at own (para_levels_of text direction) p) (get_or levels p None)
      ∙ sym (get_or-map is_none levels p None true (omega arith))
      ∙ ap (λ (xs : List Bool). get_or xs p true) (none_in_text text)
      ∙ get_or-map is_removed own p L true (omega arith)
