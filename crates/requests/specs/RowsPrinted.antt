-- What is printed for requested rows: a conformance file of texts of some lengths, with right results.
use Rattle.std.specs.Prelude.{◌≡◌, ℕ, List, Option, None, Some, map}
use Rattle.std.specs.Io.KnownBytes.{Appends}
use Rattle.std.specs.Option.{option_map}
use Rattle.units.specs.Limits.{standard}
use Rattle.units.specs.declared.class.Class.{Class}
use Rattle.units.specs.declared.level.Direction.{Direction}
use Rattle.bidtests.specs.declared.kind.Kind.{Kind}
use Rattle.bidtests.specs.declared.kind.Kind.TheVariants as file
use Rattle.rows.specs.declared.fault.RowsFault.{RowsFault}
use Rattle.rows.specs.declared.letter.Letter.{Letter}
use Rattle.rows.specs.declared.letter.Letter.TheVariants as letter
use Rattle.rows.specs.Exhaustive.{ExhaustiveOf, cases_in, rejection_of}
use Rattle.rows.specs.Forms.{form_characters, form_classes}
use Rattle.rows.specs.Letters.{letter_by}
use Rattle.rows.specs.Random.{RandomOf, cases_drawn, no_drawing_of}
use Rattle.rows.specs.Judged.{JudgeSaysYes}
use Rattle.rows.specs.RowTexts.{Case, cases_text}
use Rattle.requests.specs.DirectionWords.{SaysDirections}
use Rattle.requests.specs.FileRows.{IsKindOfFile}
use Rattle.requests.specs.ItemWords.{classes_named, codes_named}
use Rattle.requests.specs.ReadFiles.{FileFacts}
use Rattle.requests.specs.LengthWords.{lengths_named}
use Rattle.requests.specs.declared.request.AskedRows.{AskedRows}
use Rattle.requests.specs.declared.request.RowLetters.{RowLetters}
use Rattle.requests.specs.declared.request.RowLetters.TheVariants.{Alphabet, OfForm}
use Rattle.requests.specs.declared.request.RowsForm.{RowsForm}
use Rattle.requests.specs.declared.request.RowsForm.TheVariants.{Exhaustive, Random}
use Rattle.requests.specs.declared.fault.Fault.{Fault}
use Rattle.requests.specs.declared.fault.Fault.TheVariants.{NoRows, OutOfMemory}

-- the requested classes for the texts: those that the alphabet names, or those of a form
abbrev pub classes_asked : RowLetters → Option (List Class)
classes_asked (Alphabet word) = classes_named word.now
classes_asked (OfForm form) = Some (form_classes form)

-- the requested characters for the texts: those with the code points of the alphabet, or those of a form
abbrev pub chars_asked : RowLetters → Option (List ℕ)
chars_asked (Alphabet word) = codes_named word.now
chars_asked (OfForm form) = Some (form_characters form)

-- the requested letters of rows of this kind
abbrev pub letters_asked : Kind → RowLetters → Option (List Letter)
letters_asked file.Classes letters = option_map (map letter.Class) (classes_asked letters)
letters_asked (file.Characters tables) letters = option_map (map (letter_by tables.now)) (chars_asked letters)

-- the texts of these lengths over these letters
abbrev pub texts_over : List Letter → ℕ → ℕ → ExhaustiveOf
texts_over letters least greatest = record { alphabet = letters; least = least; greatest = greatest }

-- so many of these texts, drawn with a seed
abbrev pub drawn_from : ℕ → ℕ → ExhaustiveOf → RandomOf
drawn_from seed count texts = record {
  alphabet = texts.alphabet;
  least = texts.least;
  greatest = texts.greatest;
  seed = seed;
  count = count;
}

-- the first reason why these texts have no file of this form
abbrev pub rows_fault_in : RowsForm → ExhaustiveOf → Option RowsFault
rows_fault_in Exhaustive texts = rejection_of texts
rows_fault_in (Random seed count) texts = no_drawing_of (drawn_from seed count texts)

-- the cases of that file under these directions: of all these texts, or of the drawn ones
abbrev pub cases_of_form : RowsForm → List Direction → ExhaustiveOf → List Case
cases_of_form Exhaustive directions texts = cases_in texts directions
cases_of_form (Random seed count) directions texts = cases_drawn (drawn_from seed count texts) directions

-- such a file exists, and the known output grew by it, with the standard limits; the judge's verdict on it is a yes
pub record HasPrintedTexts (kind : Kind) (form : RowsForm) (directions : List Direction) (texts : ExhaustiveOf)
    (before after : Option (List ℕ)) : Type 0 where
  pub some : rows_fault_in form texts ≡ None
  pub noted : Appends before after (cases_text standard kind (cases_of_form form directions texts))
  pub right : JudgeSaysYes standard kind (cases_of_form form directions texts)

-- the request contains the letters and the lengths of these texts
pub record AreTextsOf (kind : Kind) (asked : AskedRows) (texts : ExhaustiveOf) : Type 0 where
  pub letters : letters_asked kind asked.letters ≡ Some texts.alphabet
  pub ends : lengths_named asked.lengths.now ≡ Some (texts.least, texts.greatest)

-- the requested rows were printed: the file of their kind and form, of their texts under their directions
pub record HasPrintedRows (files : FileFacts) (asked : AskedRows) (before after : Option (List ℕ)) : Type 0 where
  pub kind : Kind
  pub is : IsKindOfFile files asked.kind (Some asked.tables) kind
  pub texts : ExhaustiveOf
  pub are : AreTextsOf kind asked texts
  pub directions : List Direction
  pub named : SaysDirections asked.directions.now directions
  pub made : HasPrintedTexts kind asked.form directions texts before after

-- when a fault ends the printing of texts: there is no such file, for this reason, or an allocation failed
abbrev pub EndsMaking : RowsForm → ExhaustiveOf → Fault → Type 0
EndsMaking form texts (NoRows fault) = rows_fault_in form texts ≡ Some fault
EndsMaking form texts OutOfMemory = Unit {0}
EndsMaking form texts _ = ⊥

-- the requested texts have such a file
abbrev pub CanBeMade : FileFacts → AskedRows → Type 0
CanBeMade files asked = (kind : Kind) × IsKindOfFile files asked.kind (Some asked.tables) kind
    × (texts : ExhaustiveOf) × AreTextsOf kind asked texts × (rows_fault_in asked.form texts ≡ None)

-- when a fault ends the printing of the requested texts
abbrev pub EndsTexts : FileFacts → AskedRows → Fault → Type 0
EndsTexts files asked fault = (kind : Kind) × IsKindOfFile files asked.kind (Some asked.tables) kind
    × (texts : ExhaustiveOf) × AreTextsOf kind asked texts × EndsMaking asked.form texts fault
