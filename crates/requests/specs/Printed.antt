-- What is printed of a file's text, and of the classes and the code points in an option's value.
use Rattle.std.specs.Prelude.{◌≡◌, ◌≤◌, ℕ, ◌^◌, List, length, Option, Some}
use Rattle.std.specs.Io.KnownBytes.{Appends}
use Rattle.std.specs.Str.{chars, IsUtf8}
use Rattle.units.specs.declared.class.Class.{Class}
use Rattle.units.specs.declared.level.Direction.{Direction}
use Rattle.ucdfiles.specs.Tables.{TablesOf}
use Rattle.explain.specs.Explained.{explained, explained_classes}
use Rattle.printing.specs.PrintedTexts.{printed_levels, printed_reorder}
use Rattle.requests.specs.ItemWords.{classes_named, codes_named}
use Rattle.requests.specs.declared.request.Print.{Print}
use Rattle.requests.specs.declared.request.Print.TheVariants.{Levels, Reorder, Explained}
use Rattle.requests.specs.declared.request.TableSource.{TableSource}
use Rattle.requests.specs.ReadFiles.{FileFacts, origin_of}
use Rattle.requests.specs.TableSources.{AreTablesBy}

-- what is printed of a text, with tables
abbrev pub printed_text : Print → Direction → TablesOf → List ℕ → List ℕ
printed_text Levels direction tables text = printed_levels tables text direction
printed_text (Reorder columns) direction tables text = printed_reorder tables text direction columns
printed_text Explained direction tables text = explained tables text direction

-- the most bytes that a text may have
abbrev pub most_text_bytes : ℕ
most_text_bytes = 2 ^ 24

-- FILE was read whole and is UTF-8, and these are its characters
pub record HoldsText (files : FileFacts) (file text : List ℕ) : Type 0 where
  pub bytes : List ℕ
  pub begins : files.Begins (origin_of file) most_text_bytes bytes
  pub read : files.Holds (origin_of file) most_text_bytes bytes
  pub utf8 : IsUtf8 bytes
  pub text_is : text ≡ chars bytes

-- FILE was read whole and is UTF-8, and the known output grew by what is printed of its characters with the tables of
-- this source
pub record HasPrinted (files : FileFacts) (printed : TablesOf → List ℕ →
    List ℕ) (source : TableSource) (file : List ℕ) (before after : Option (List ℕ)) : Type 0 where
  pub tables : TablesOf
  pub stated : AreTablesBy files source tables
  pub text : List ℕ
  pub read : HoldsText files file text
  pub noted : Appends before after (printed tables text)

-- a value lists classes, and the known output grew by what `explain` prints of them
pub record HasExplained (word : List ℕ) (direction : Direction) (before after : Option (List ℕ)) : Type 0 where
  pub short : length word ≤ most_text_bytes
  pub classes : List Class
  pub named : classes_named word ≡ Some classes
  pub noted : Appends before after (explained_classes classes direction)

-- a value lists code points, and the known output grew by what `explain` prints of a text of these characters with the
-- tables of this source
pub record HasExplainedCodes (files : FileFacts) (word : List ℕ) (source : TableSource) (direction : Direction)
    (before after : Option (List ℕ)) : Type 0 where
  pub short : length word ≤ most_text_bytes
  pub chars : List ℕ
  pub chars_named : codes_named word ≡ Some chars
  pub tables : TablesOf
  pub stated : AreTablesBy files source tables
  pub noted : Appends before after (explained tables chars direction)
