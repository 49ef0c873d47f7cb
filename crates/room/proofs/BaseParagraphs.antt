-- The levels of a text's paragraphs, one after another.
use Rattle.std.proofs.Common.{◌≡◌, ℕ, suc, true, false, ◌+◌, ◌<◌, List, [], ◌∷◌, ◌++◌, length, map, set, take, drop, refl, sym, ap, ◌∙◌, arith, append_assoc, length-append}
use Rattle.std.proofs.lemmas.List.{length-map, length-take-le, take_more_set}
use Rattle.units.specs.Classes.{classes_of, is_separator}
use Rattle.units.specs.Isolates.{para_level_of}
use Rattle.units.specs.Layout.{para_levels_of}
use Rattle.units.specs.Paragraphs.{paragraphs_of}
use Rattle.units.specs.declared.bracket.Unit.{Unit as BidiUnit}
use Rattle.units.specs.declared.level.Direction.{Direction}
use Rattle.explicit.specs.FirstParagraph.{first_length}
use Rattle.explicit.proofs.LevelsComputed.OneCutting.{paragraphs_of_split}
use Rattle.room.specs.BaseLevels.{base_level, first_paragraph}

-- what follows the first paragraph, depending on its first unit
pub after_separator : (unit : BidiUnit) (units : List BidiUnit) → is_separator unit.class ≡ true →
    drop (first_length (unit ∷ units)) (unit ∷ units) ≡ units
after_separator unit units ends = rw ends refl

pub after_other : (unit : BidiUnit) (units : List BidiUnit) → is_separator unit.class ≡ false →
    drop (first_length (unit ∷ units)) (unit ∷ units) ≡ drop (first_length units) units
after_other unit units inside = rw inside refl

-- a text is its first paragraph and the paragraphs of what follows
module _ (units rest : List BidiUnit) (some : 0 < length units) (is : rest ≡ drop (first_length units) units) where
  next_paragraph : paragraphs_of units ≡ first_paragraph units ∷ paragraphs_of rest
  next_paragraph = paragraphs_of_split units some ∙
      ap (λ (us : List BidiUnit). first_paragraph units ∷ paragraphs_of us) (sym is)

  pub one_counted : length (paragraphs_of units) ≡ suc (length (paragraphs_of rest))
  one_counted = ap length next_paragraph

  pub counted_more : (count total : ℕ) → count + length (paragraphs_of units) ≡ total →
      count + 1 + length (paragraphs_of rest) ≡ total
  counted_more count total so = omega (arith, so, one_counted)

  next_level : (direction : Direction) →
      para_levels_of units direction ≡ base_level units direction ∷ para_levels_of rest direction
  next_level direction = ap (map (λ (us : List BidiUnit). para_level_of (classes_of us) direction)) next_paragraph

  -- one level more is written
  pub level_more : (direction : Direction) (levels all : List ℕ) (k level : ℕ) → k < length levels →
      level ≡ base_level units direction
      → take k levels ++ para_levels_of units direction ≡ all →
      take (k + 1) (set levels k level) ++ para_levels_of rest direction ≡ all
  level_more direction levels all k level place so now =
      let others : List ℕ = para_levels_of rest direction in
      ap (λ (front : List ℕ). front ++ others) (take_more_set levels k level place)
      ∙ append_assoc (take k levels) (level ∷ []) others
      ∙ ap (λ (l : ℕ). take k levels ++ l ∷ others) so
      ∙ ap (λ (ls : List ℕ). take k levels ++ ls) (sym (next_level direction)) ∙ now

-- if a level remains to be written, a paragraph remains too
pub rest_is_not_empty : (all rest : List BidiUnit) (direction : Direction) (levels : List ℕ) (k : ℕ) →
    k < length levels → length levels ≡ length (paragraphs_of all)
    → take k levels ++ para_levels_of rest direction ≡ para_levels_of all direction → 0 < length rest
rest_is_not_empty all [] direction levels k place long so =
    let counted = ap length so ∙ length-map (paragraphs_of all) (λ us. para_level_of (classes_of us) direction) in
    absurd (omega (
      arith,
      counted,
      length-append (take k levels) (para_levels_of [] direction),
      length-take-le k levels (omega arith),
      place,
      long,
    ))
rest_is_not_empty all (unit ∷ rest) direction levels k place long so = omega arith
