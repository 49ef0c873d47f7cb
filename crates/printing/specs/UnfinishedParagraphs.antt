-- The unfinished paragraph of a text that is printed paragraph by paragraph.
use Rattle.std.specs.Prelude.{◌≡◌, ◌≤◌, ℕ, ◌+◌, false, length}
use Rattle.std.specs.List.{list_any}
use Rattle.ucdfiles.specs.Tables.{TablesOf, units_by}
use Rattle.printing.specs.EndedParagraphs.{separates}
use Rattle.printing.specs.declared.passed.Passed.{Passed}
use Rattle.printing.specs.declared.unfinished.Unfinished.{Unfinished}

-- how many characters came so far
abbrev pub chars_so_far : Unfinished → ℕ
chars_so_far paragraph = paragraph.passed.characters + length paragraph.chars.items

-- the paragraph has the units that the tables give its characters, none of these ends it, and no passed paragraph was
-- empty
pub record IsUnfinished (tables : TablesOf) (paragraph : Unfinished) : Type 0 where
  pub units : paragraph.units.items ≡ units_by tables paragraph.chars.items
  pub unended : list_any (separates tables) paragraph.chars.items ≡ false
  pub few : paragraph.passed.paragraphs ≤ paragraph.passed.characters

-- the next part comes after a paragraph of so many characters
pub record Follows (passed : Passed) (characters : ℕ) (next : Passed) : Type 0 where
  pub paragraphs : next.paragraphs ≡ passed.paragraphs + 1
  pub characters_are : next.characters ≡ passed.characters + characters
