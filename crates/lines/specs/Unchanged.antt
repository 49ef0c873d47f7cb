-- Texts whose paragraphs keep their levels.
use Rattle.std.specs.Prelude.{ℕ, ◌≡◌, ◌<◌, Bool, true, List, [], length}
use Rattle.std.specs.List.{list_all}
use Rattle.units.specs.Classes.{classes_of, is_removed}
use Rattle.units.specs.Isolates.{para_level_of}
use Rattle.units.specs.Paragraphs.{paragraphs_of}
use Rattle.units.specs.declared.bracket.Unit.{Unit as BidiUnit}
use Rattle.units.specs.declared.level.Direction.{Direction}
use Rattle.units.specs.declared.level.ParaLevel.{ParaLevel}
use Rattle.explicit.specs.FirstParagraph.{first_length}
use Rattle.paragraph.specs.Contents.{IsUniformLevel, has_none, keeps_level}

-- X1 to I2: with its classes, each position of the paragraph keeps the level of the paragraph
abbrev pub keeps_own_level : Direction → List BidiUnit → Bool
keeps_own_level direction para = keeps_level (para_level_of (classes_of para) direction) (classes_of para)

-- this is so for each paragraph of the text
abbrev pub each_keeps_level : List BidiUnit → Direction → Bool
each_keeps_level text direction = list_all (keeps_own_level direction) (paragraphs_of text)

-- a text whose first paragraph has n units is this paragraph and one line
pub record IsUnbroken (n : ℕ) (text : List BidiUnit) (breaks : List ℕ) : Type 0 where
  pub some : 0 < length text
  pub whole : n ≡ length text
  pub no_break : breaks ≡ []

-- P2 to I2: the text is one paragraph and one line, X9 removes no position, and each one keeps the paragraph's level,
-- which is this one
pub record IsLineAtLevel (text : List BidiUnit) (direction : Direction) (breaks : List ℕ) (level : ParaLevel) :
    Type 0 where
  pub unbroken : IsUnbroken (first_length text) text breaks
  pub remain : has_none is_removed (classes_of text) ≡ true
  pub uniform : IsUniformLevel direction (classes_of text) level
