-- What decoding writes into the columns of a text.
use Rattle.std.specs.Prelude.{ℕ, ◌≡◌, ◌<◌, ◌≤◌, List, [], ◌++◌, drop, length, take, slice_index}
use Rattle.std.specs.Str.{IsUtf8}
use Rattle.units.specs.declared.bracket.Unit.{Unit as BidiUnit}
use Rattle.ucdfiles.specs.Tables.{TablesOf, units_by}
use Rattle.ucdfiles.specs.UnitStages.{UnitStages}
use Rattle.decoding.specs.Encodings.{utf8_text}
use Rattle.decoding.specs.LossyTexts.{utf8_lossy_text}
use Rattle.decoding.specs.Offsets.{Spelled, AreStarts, code_units, codes_of, offset_of}
use Rattle.decoding.specs.declared.reached.Reached.{Reached}

-- the columns begin with the units and the offsets of this text, which is the front of a longer text
pub record IsWritten (tables : TablesOf) (text : List Spelled) (reached : Reached) (known : List BidiUnit)
    (begin : List ℕ) : Type 0 where
  pub characters : reached.characters ≡ length text
  pub code_units : reached.code_units ≡ code_units text
  pub units : take reached.characters known ≡ units_by tables (codes_of text)
  pub starts : (k : ℕ) → k < length text → slice_index begin k ≡ offset_of text k

-- bytes that may be ill-formed are read up to some offset: the columns begin with the text that the bytes before it
-- spell, and the rest of the text is what the bytes after it spell
pub record IsReadTo (tables : TablesOf) (bytes : List ℕ) (text : List Spelled) (reached : Reached)
    (known : List BidiUnit) (begin : List ℕ) : Type 0 where
  pub written : IsWritten tables text reached known begin
  pub rest : utf8_lossy_text bytes ≡ text ++ utf8_lossy_text (drop reached.code_units bytes)

-- the columns begin with the units and the offsets of this text of n characters, and after the offsets comes that of
-- its end
pub record AreDecoded (tables : TablesOf) (text : List Spelled) (n : ℕ) (known : List BidiUnit)
    (begin : List ℕ) : Type 0 where
  pub count : n ≡ length text
  pub units : take n known ≡ units_by tables (codes_of text)
  pub starts : AreStarts text begin

-- these stages as tables without mirror images, which decoding doesn't use
abbrev pub tables_with : UnitStages → TablesOf
tables_with stages =
    record { classes = stages.classes; brackets = stages.brackets; mirrors = record { numbers = []; values = [] } }

-- bytes that are well formed up to some offset are read up to there: the columns begin with the text that they spell
pub record IsReadUpTo (stages : UnitStages) (bytes : List ℕ) (reached : Reached) (known : List BidiUnit)
    (begin : List ℕ) : Type 0 where
  pub few : reached.characters ≤ reached.code_units
  pub inside : reached.code_units ≤ length bytes
  pub front : IsUtf8 (take reached.code_units bytes)
  pub written : IsWritten (tables_with stages) (utf8_text (take reached.code_units bytes)) reached known begin
