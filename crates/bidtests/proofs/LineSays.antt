-- The meaning or the finding of a line, by the beginning of its content.
use Rattle.std.proofs.Common.{◌≡◌, ◌≢◌, ℕ, ◌<◌, ◌≤◌, ◌==◌, Bool, true, false, List, [], ◌∷◌, length, get_or, refl, ap, ◌∙◌, arith}
use Rattle.std.proofs.lemmas.Bool.{ne_eqb, le-ltb}
use Rattle.units.specs.Text.{longest_line, content_of, fields_of}
use Rattle.units.specs.declared.bracket.Unit.{Unit as BidiUnit}
use Rattle.bidtests.specs.Verdicts.{Silent}
use Rattle.bidtests.specs.CharactersFile.{characters_line, characters_row, characters_content, direction_field}
use Rattle.bidtests.specs.ClassesFile.{Nothing, classes_line, bit_set, classes_content, directive, classes_row}

by-content : (line content : List ℕ) → content ≡ content_of line → length line ≤ longest_line →
    classes_line line ≡ classes_content bit_set content
unfolding classes_line
by-content line content is le = grind (arith, le-ltb)

content-empty : (content : List ℕ) → length content ≡ 0 → classes_content bit_set content ≡ Nothing
content-empty [] none = refl
content-empty (b ∷ bs) none = absurd (omega arith)

content-at : (content : List ℕ) → 0 < length content → get_or content 0 0 ≡ 64 →
    classes_content bit_set content ≡ directive content
content-at [] some e = absurd (omega arith)
content-at (b ∷ bs) some e = let t : (b == 64) ≡ true = ap (λ x. x == 64) e in rw t refl

content-other : (content : List ℕ) → 0 < length content → get_or content 0 0 ≢ 64 →
    classes_content bit_set content ≡ classes_row (fields_of content)
content-other [] some ne = absurd (omega arith)
content-other (b ∷ bs) some ne = let t : (b == 64) ≡ false = ne_eqb b 64 ne in rw t refl

module _ (line content : List ℕ) (is : content ≡ content_of line) (le : length line ≤ longest_line) where
  pub says-nothing : length content ≡ 0 → classes_line line ≡ Nothing
  says-nothing none = by-content line content is le ∙ content-empty content none

  pub says-directive : 0 < length content → get_or content 0 0 ≡ 64 → classes_line line ≡ directive content
  says-directive some e = by-content line content is le ∙ content-at content some e

  pub says-row : 0 < length content → get_or content 0 0 ≢ 64 → classes_line line ≡ classes_row (fields_of content)
  says-row some ne = by-content line content is le ∙ content-other content some ne

pub not_empty : (content : List ℕ) (b : Bool) → b ≡ (length content == 0) → b ≡ false → 0 < length content
not_empty [] b e f = absurd (cc)
not_empty (x ∷ xs) b e f = omega arith

module _ (unit_of : ℕ → BidiUnit) where
  comes-by-content : (line content : List ℕ) → content ≡ content_of line → length line ≤ longest_line →
      characters_line unit_of line ≡ characters_content direction_field unit_of content
  unfolding characters_line
  comes-by-content line content is le = grind (arith, le-ltb)

  characters-empty : (content : List ℕ) → length content ≡ 0 →
      characters_content direction_field unit_of content ≡ Silent
  characters-empty [] none = refl
  characters-empty (b ∷ bs) none = absurd (omega arith)

  characters-some : (content : List ℕ) → 0 < length content →
      characters_content direction_field unit_of content ≡ characters_row unit_of (fields_of content)
  characters-some [] some = absurd (omega arith)
  characters-some (b ∷ bs) some = refl

  pub comes-silent : (line content : List ℕ) → content ≡ content_of line → length line ≤ longest_line →
      length content ≡ 0 → characters_line unit_of line ≡ Silent
  comes-silent line content is le none = comes-by-content line content is le ∙ characters-empty content none

  pub comes-row : (line content : List ℕ) → content ≡ content_of line → length line ≤ longest_line → 0 < length content
      → characters_line unit_of line ≡ characters_row unit_of (fields_of content)
  comes-row line content is le some = comes-by-content line content is le ∙ characters-some content some
