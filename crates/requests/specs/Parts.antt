-- The parts of a request in their order, and the fault of the first that fails.
use Rattle.std.specs.Prelude.{◌≡◌, ◌<◌, ◌≤◌, ◌⊎◌, ℕ, List, [], ◌∷◌, ◌++◌, length, Option, Some, None, Ok}
use Rattle.std.specs.Str.{IsUtf8}
use Rattle.printing.specs.ReadTexts.{IsNotUtf8}
use Rattle.printing.specs.declared.written.Written.TheVariants.{Whole}
use Rattle.ucdfiles.specs.ClassFile.{class_fault}
use Rattle.ucdfiles.specs.PairFiles.{bracket_fault, char_of, mirror_fault}
use Rattle.ucdfiles.specs.declared.fault.Fault.{Fault as LineFault}
use Rattle.bidtests.specs.declared.kind.Kind.{Kind}
use Rattle.explain.specs.WantedRows.{RowView}
use Rattle.units.specs.ClassNames.{class_of_short}
use Rattle.units.specs.declared.class.Class.{Class}
use Rattle.rows.specs.Exhaustive.{ExhaustiveOf}
use Rattle.rows.specs.TextLines.{first_long_line}
use Rattle.units.specs.declared.level.Direction.{Direction}
use Rattle.requests.specs.DirectionWords.{EndsDirections, SaysDirections}
use Rattle.requests.specs.declared.request.AskedLines.{AskedLines}
use Rattle.requests.specs.declared.request.AskedRows.{AskedRows}
use Rattle.requests.specs.declared.request.FileKind.{FileKind}
use Rattle.requests.specs.declared.request.FileKind.TheVariants.{Classes, Characters}
use Rattle.requests.specs.declared.request.Print.TheVariants.{Levels, Reorder, Explained}
use Rattle.requests.specs.declared.request.RowLetters.{RowLetters}
use Rattle.requests.specs.declared.request.RowLetters.TheVariants.{Alphabet, OfForm}
use Rattle.requests.specs.declared.request.TableSource.{TableSource}
use Rattle.requests.specs.declared.request.TableSource.TheVariants.{Folder, BuiltIn}
use Rattle.requests.specs.declared.request.Request.{Request}
use Rattle.requests.specs.declared.request.RowsForm.{RowsForm}
use Rattle.requests.specs.declared.request.WantedRow.{WantedRow}
use Rattle.requests.specs.declared.request.Request.TheVariants.{Text, ExplainClasses, ExplainCodes, ExplainRow, Judge, Report, Rows, RowsOf}
use Rattle.requests.specs.declared.fault.Fault.{Fault}
use Rattle.requests.specs.declared.fault.Fault.TheVariants.{TablesNeeded, ClassesTooLong, CodesTooLong, NoClass, NoCodePoint, CannotRead, NotUtf8, LongLine, CannotWrite, OutOfMemory}
use Rattle.requests.specs.RowsExplained.{FindsNoRow, HasAtLine}
use Rattle.requests.specs.FaultText.{EndsOpening}
use Rattle.requests.specs.FileRows.{IsKindOfFile}
use Rattle.requests.specs.ItemWords.{EndsItems, classes_named, codes_named}
use Rattle.requests.specs.Printed.{HoldsText, most_text_bytes}
use Rattle.requests.specs.RowsPrinted.{CanBeMade, EndsMaking, EndsTexts, rows_fault_in}
use Rattle.requests.specs.LengthWords.{EndsLengths, lengths_named}
use Rattle.requests.specs.ReadFiles.{FileFacts, IsClassPath, bracket_name, mirror_name, in_folder, most_file_bytes, named_file, origin_of, word_file}
use Rattle.requests.specs.TableFaults.{EndsClasses, EndsTable, IsFaultless}

-- a part: what it means that it is done, and the faults that end it
pub record RequestPart : Type 1 where
  pub Done : Type 0
  pub EndsBy : Fault → Type 0

-- all of these parts are done
abbrev pub AreDone : List RequestPart → Type 0
AreDone [] = Unit {0}
AreDone (part ∷ parts) = part.Done × AreDone parts

-- the fault ends one of these parts, and all earlier ones are done
abbrev pub IsFirstFault : List RequestPart → Fault → Type 0
IsFirstFault [] fault = ⊥
IsFirstFault (part ∷ parts) fault = part.EndsBy fault ⊎ (part.Done × IsFirstFault parts fault)

-- the fault if no table source is named
abbrev pub EndsUnnamed : Fault → Type 0
EndsUnnamed fault = fault ≡ TablesNeeded

-- when a fault ends the reading of FILE: it can't be opened or a read of it fails, for the reason in the fault, or an
-- allocation failed
abbrev pub EndsFile : FileFacts → ℕ → List ℕ → Fault → Type 0
EndsFile files most file (CannotRead name folder limit unread Whole) =
    (named_file name folder limit ≡ word_file most file)
    × (files.Rejects (origin_of file) most unread ⊎ ((bytes : List ℕ) × files.Fails (origin_of file) most bytes unread))
EndsFile files most file OutOfMemory = Unit {0}
EndsFile files most file _ = ⊥

-- when a fault ends the search for the row at the line of this number in FILE, as a file of these rows: FILE can't be
-- opened, or the search in it ends so
abbrev pub EndsSearch : FileFacts → Kind → ℕ → List ℕ → Fault → Type 0
EndsSearch files rows number file fault =
    EndsOpening (files.Rejects (origin_of file) most_file_bytes) (word_file most_file_bytes file) fault
    ⊎ FindsNoRow files rows number file fault

-- when a fault ends the reading of the characters of FILE: its bytes are not UTF-8, or an allocation failed
abbrev pub EndsText : FileFacts → List ℕ → Fault → Type 0
EndsText files file (NotUtf8 named place Whole) = (named.now ≡ file)
    × (bytes : List ℕ) × files.Holds (origin_of file) most_text_bytes bytes × IsNotUtf8 bytes place
EndsText files file OutOfMemory = Unit {0}
EndsText files file _ = ⊥

-- when a fault ends the check of its lines: this line is the first that is too long for a row
abbrev pub EndsLines : FileFacts → List ℕ → Fault → Type 0
EndsLines files file (LongLine named line) = (named.now ≡ file) × (text : List ℕ) × HoldsText files file text ×
    (first_long_line text ≡ Some line)
EndsLines files file _ = ⊥

-- that a value has no more bytes than a text may have; otherwise this is the fault
abbrev pub length_part : Fault → List ℕ → RequestPart
length_part too_long word = record {
  Done = length word ≤ most_text_bytes;
  EndsBy = λ fault. (fault ≡ too_long) × (most_text_bytes < length word);
}

-- the reading of the names in a value
abbrev pub names_part : List ℕ → RequestPart
names_part word = record {
  Done = (classes : List Class) × (classes_named word ≡ Some classes);
  EndsBy = EndsItems class_of_short NoClass word;
}

-- what is read for a value of classes
abbrev pub classes_parts : List ℕ → List RequestPart
classes_parts word = length_part ClassesTooLong word ∷ names_part word ∷ []

-- the reading of the code points in a value
abbrev pub codes_part : List ℕ → RequestPart
codes_part word = record {
  Done = (chars : List ℕ) × (codes_named word ≡ Some chars);
  EndsBy = EndsItems char_of NoCodePoint word;
}

-- what is read for a value of code points
abbrev pub codes_parts : List ℕ → List RequestPart
codes_parts word = length_part CodesTooLong word ∷ codes_part word ∷ []

-- the reading of lengths
abbrev pub lengths_part : List ℕ → RequestPart
lengths_part word = record {
  Done = (ends : ℕ × ℕ) × (lengths_named word ≡ Some ends);
  EndsBy = EndsLengths word;
}

-- that there is a file of this form for these texts
abbrev pub making_part : RowsForm → ExhaustiveOf → RequestPart
making_part form texts = record {
  Done = rows_fault_in form texts ≡ None;
  EndsBy = EndsMaking form texts;
}

-- the reading of directions
abbrev pub directions_part : List ℕ → RequestPart
directions_part word = record {
  Done = (directions : List Direction) × SaysDirections word directions;
  EndsBy = EndsDirections word;
}

-- that there is memory
abbrev pub memory_part : RequestPart
memory_part = record {
  Done = Unit {0};
  EndsBy = λ fault. fault ≡ OutOfMemory;
}

-- what is read for the letters of a file of this kind: the names or the code points in the alphabet, if there is one;
-- the classes of a form need no tables
abbrev pub alphabet_parts : FileKind → RowLetters → List RequestPart
alphabet_parts Classes (Alphabet word) = names_part word.now ∷ []
alphabet_parts Characters (Alphabet word) = codes_part word.now ∷ []
alphabet_parts Classes (OfForm form) = memory_part ∷ []
alphabet_parts Characters (OfForm form) = []

-- when a fault ends the writing: a write failed, or an allocation did
abbrev pub EndsWriting : Fault → Type 0
EndsWriting CannotWrite = Unit {0}
EndsWriting OutOfMemory = Unit {0}
EndsWriting _ = ⊥

-- if an allocation fails, the known output is unchanged
abbrev pub MemoryLeaves : Option (List ℕ) → Option (List ℕ) → Fault → Type 0
MemoryLeaves before after fault = fault ≡ OutOfMemory → after ≡ before

-- the fault is that of the first of these parts that fails, and nothing is written; or all these parts are done, and a
-- write or an allocation failed
abbrev pub FailsOver : List RequestPart → List RequestPart → Option (List ℕ) → Option (List ℕ) → Fault → Type 0
FailsOver first all before after fault = (IsFirstFault first fault × (after ≡ before)) ⊎
    (AreDone all × EndsWriting fault)

-- the same if nothing is written before all parts are done
abbrev pub FailsIn : List RequestPart → Option (List ℕ) → Option (List ℕ) → Fault → Type 0
FailsIn parts before after fault = FailsOver parts parts before after fault

module _ (files : FileFacts) where
  -- the reading of the folder's table of this name; the fault of a line depends on the lines before it
  abbrev pub table_part : (List (List ℕ) → List ℕ → Option LineFault) → List ℕ → List ℕ → RequestPart
  table_part fault folder name = record {
    Done = IsFaultless files fault (in_folder folder name);
    EndsBy = EndsTable files fault folder name;
  }

  -- the reading of its classes
  abbrev pub class_part : List ℕ → RequestPart
  class_part folder = record {
    Done = (path : List ℕ) × IsClassPath files folder path × IsFaultless files class_fault path;
    EndsBy = EndsClasses files folder;
  }

  -- the reading of the classes, the brackets and the mirror images
  abbrev pub table_parts : List ℕ → List RequestPart
  table_parts folder =
      class_part folder ∷ table_part bracket_fault folder bracket_name ∷ table_part mirror_fault folder mirror_name ∷ []

  -- what is read for the tables of this source: nothing for the built-in ones
  abbrev pub source_parts : TableSource → List RequestPart
  source_parts (Folder folder) = table_parts folder.now
  source_parts BuiltIn = []

  -- what is read for the rows of a file of this kind: the tables of this source if they are needed
  abbrev pub row_table_parts : FileKind → Option TableSource → List RequestPart
  row_table_parts Classes source = []
  row_table_parts Characters (Some source) = source_parts source
  row_table_parts Characters None = record { Done = ⊥; EndsBy = EndsUnnamed } ∷ []

  -- that the requested texts can be enumerated or drawn
  abbrev pub texts_part : AskedRows → RequestPart
  texts_part asked = record {
    Done = CanBeMade files asked;
    EndsBy = EndsTexts files asked;
  }

  -- what is read to print rows
  unfoldable pub rows_parts : AskedRows → List RequestPart
  rows_parts asked = lengths_part asked.lengths.now ∷ directions_part asked.directions.now
      ∷ (alphabet_parts asked.kind asked.letters ++ (row_table_parts asked.kind (Some asked.tables) ++
      texts_part asked ∷ []))

  -- the reading of FILE to its end
  abbrev pub file_part : ℕ → List ℕ → RequestPart
  file_part most file = record {
    Done = (bytes : List ℕ) × files.Holds (origin_of file) most bytes;
    EndsBy = EndsFile files most file;
  }

  -- the opening of FILE, and the reading of a part of it
  abbrev pub opening_part : ℕ → List ℕ → RequestPart
  opening_part most file = record {
    Done = (bytes : List ℕ) × files.Begins (origin_of file) most bytes;
    EndsBy = EndsOpening (files.Rejects (origin_of file) most) (word_file most file);
  }

  -- the reading of the characters of FILE
  abbrev pub characters_part : List ℕ → RequestPart
  characters_part file = record {
    Done = (bytes : List ℕ) × files.Holds (origin_of file) most_text_bytes bytes × IsUtf8 bytes;
    EndsBy = EndsText files file;
  }

  abbrev pub text_parts : List ℕ → List RequestPart
  text_parts file = file_part most_text_bytes file ∷ characters_part file ∷ []

  -- that no line of the text is too long for a row
  abbrev pub lines_part : List ℕ → RequestPart
  lines_part file = record {
    Done = (text : List ℕ) × HoldsText files file text × (first_long_line text ≡ None);
    EndsBy = EndsLines files file;
  }

  -- what is read of a text for its rows
  abbrev pub row_text_parts : List ℕ → List RequestPart
  row_text_parts file = text_parts file ++ lines_part file ∷ []

  -- what is read to print the lines of a text as rows
  unfoldable pub lines_parts : AskedLines → List RequestPart
  lines_parts asked = directions_part asked.directions.now ∷ (source_parts asked.tables ++
      row_text_parts asked.file.now)

  -- what is read to explain a text
  unfoldable pub whole_parts : TableSource → List ℕ → List RequestPart
  whole_parts source file = source_parts source ++ text_parts file

  -- what is read to print a text that is printed while it is read, before its first byte
  unfoldable pub printing_parts : TableSource → List ℕ → List RequestPart
  printing_parts source file = source_parts source ++ opening_part most_text_bytes file ∷ []

  -- what is read to explain code points
  unfoldable pub explaining_parts : List ℕ → TableSource → List RequestPart
  explaining_parts word source = codes_parts word ++ source_parts source

  -- the search for the wanted row
  abbrev pub row_search_part : WantedRow → RequestPart
  row_search_part wanted = record {
    Done = (rows : Kind) × IsKindOfFile files wanted.kind wanted.tables rows
        × ((row : RowView) × HasAtLine files rows wanted.line.value wanted.file.now (Ok row));
    EndsBy = λ fault. (rows : Kind) × IsKindOfFile files wanted.kind wanted.tables rows ×
        EndsSearch files rows wanted.line.value wanted.file.now fault;
  }

  -- what is read to explain a row
  abbrev pub row_parts : WantedRow → List RequestPart
  row_parts wanted = row_table_parts wanted.kind wanted.tables ++ row_search_part wanted ∷ []

  -- what is read for a request, in this order, before anything is written
  abbrev pub parts_of : Request → List RequestPart
  parts_of (Text source direction file Levels) = printing_parts source file.now
  parts_of (Text source direction file (Reorder columns)) = printing_parts source file.now
  parts_of (Text source direction file Explained) = whole_parts source file.now
  parts_of (ExplainClasses word direction) = classes_parts word.now
  parts_of (ExplainCodes word source direction) = explaining_parts word.now source
  parts_of (ExplainRow wanted) = row_parts wanted
  parts_of (Judge kind tables file) = row_table_parts kind tables ++ file_part most_file_bytes file.now ∷ []
  parts_of (Report kind tables file options) = row_table_parts kind tables ++ opening_part most_file_bytes file.now ∷ []
  parts_of (Rows asked) = rows_parts asked
  parts_of (RowsOf asked) = lines_parts asked

  -- all that is read for a request
  abbrev pub all_parts_of : Request → List RequestPart
  all_parts_of (Text source direction file print) = whole_parts source file.now
  all_parts_of (Report kind tables file options) =
      row_table_parts kind tables ++ file_part most_file_bytes file.now ∷ []
  all_parts_of request = parts_of request
