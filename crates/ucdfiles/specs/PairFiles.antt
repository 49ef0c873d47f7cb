-- BidiBrackets.txt and BidiMirroring.txt: what a line states by itself, and the brackets and mirror images that the
-- lines state.
use Rattle.std.specs.Prelude.{◌≡◌, ◌≤◌, ◌↔◌, Option, ℕ, Bool, ◌&&◌, nat_le, nat_lt, if◌then◌else◌, List, [], ◌∷◌, length, Some, None, Result, Ok, Err, codes}
use Rattle.std.specs.Str.{bytes_eq}
use Rattle.unicode_normalization.specs.Forms.{nfd}
use Rattle.units.specs.Text.{longest_line, content_of, fields_of, code_point_of}
use Rattle.units.specs.declared.bracket.Bracket.{Bracket}
use Rattle.units.specs.declared.bracket.Bracket.TheVariants as bracket
use Rattle.units.specs.declared.bracket.Key.{Key}
use Rattle.ucdfiles.specs.declared.fault.Fault.{Fault}
use Rattle.ucdfiles.specs.declared.fault.Fault.TheVariants.{CodePoint, Fields, BracketKind, LineTooLong, Twice}
use Rattle.ucdfiles.specs.declared.fault.TableFault.{TableFault}
use Rattle.ucdfiles.specs.declared.span.Span.{Span}
use Rattle.ucdfiles.specs.declared.span.FileLine.{FileLine}
use Rattle.ucdfiles.specs.declared.span.FileLine.TheVariants.{Silent, Data, Faulty}
use Rattle.ucdfiles.specs.declared.sided_bracket.BracketSide.{BracketSide}
use Rattle.ucdfiles.specs.declared.sided_bracket.BracketSide.TheVariants.{Open, Close}
use Rattle.ucdfiles.specs.declared.sided_bracket.SidedBracket.{SidedBracket}
use Rattle.ucdfiles.specs.Statements.{span_says, line_fault, file_fault, value_of}

-- D800 to DFFF
abbrev pub is_surrogate : ℕ → Bool
is_surrogate c = nat_le 0xD800 c && nat_le c 0xDFFF

-- the code point, if it is no surrogate
abbrev pub unless_surrogate : Option ℕ → Option ℕ
unless_surrogate None = None
unless_surrogate (Some c) = if is_surrogate c then None else Some c

-- a code point that is no surrogate
abbrev pub char_of : List ℕ → Option ℕ
char_of field = unless_surrogate (code_point_of field)

-- a value for one code point
abbrev pub single : {V : Type 0} → ℕ → V → Span V
single c v = record { first = c; last = c; value = v }

-- `o` or `c`
abbrev pub side_named : List ℕ → Option BracketSide
side_named field = if bytes_eq field (codes "o") then Some Open else if bytes_eq field
    (codes "c") then Some Close else None

-- a bracket of this side: the key of an opening one is that of its paired bracket, the key of a closing one its own
abbrev pub bracket_read : ℕ → ℕ → Option BracketSide → Result (Span SidedBracket) Fault
bracket_read char paired None = Err BracketKind
bracket_read char paired (Some Open) = Ok (single char (record { side = Open; keyed_by = paired }))
bracket_read char paired (Some Close) = Ok (single char (record { side = Close; keyed_by = char }))

-- the characters first, then the side
abbrev pub bracket_chars : Option ℕ → Option ℕ → Option BracketSide → Result (Span SidedBracket) Fault
bracket_chars (Some char) (Some paired) side = bracket_read char paired side
bracket_chars (Some char) None side = Err CodePoint
bracket_chars None paired side = Err CodePoint

-- what three fields state: a bracket, its paired bracket, and its side
abbrev pub bracket_in : List (List ℕ) → Result (Span SidedBracket) Fault
bracket_in (char ∷ paired ∷ side ∷ []) = bracket_chars (char_of char) (char_of paired) (side_named side)
bracket_in _ = Err Fields

-- a character and its mirror image
abbrev pub mirror_chars : Option ℕ → Option ℕ → Result (Span ℕ) Fault
mirror_chars (Some char) (Some image) = Ok (single char image)
mirror_chars (Some char) None = Err CodePoint
mirror_chars None image = Err CodePoint

-- what two fields state: a character and its mirror image
abbrev pub mirror_in : List (List ℕ) → Result (Span ℕ) Fault
mirror_in (char ∷ image ∷ []) = mirror_chars (char_of char) (char_of image)
mirror_in _ = Err Fields

-- what a content states: an empty one nothing
abbrev pub pair_content_says : {V : Type 0} → (List (List ℕ) → Result (Span V) Fault) → List ℕ → FileLine V
pair_content_says read [] = Silent
pair_content_says read (b ∷ bs) = span_says Data (read (fields_of (b ∷ bs)))

-- what a line states: its fields decide it
unfoldable pub pair_line_says : {V : Type 0} → (List (List ℕ) → Result (Span V) Fault) → List ℕ → FileLine V
pair_line_says read line =
    if nat_lt longest_line (length line) then Faulty LineTooLong else pair_content_says read (content_of line)

-- the fault of a line of BidiBrackets.txt after the earlier ones
abbrev pub bracket_fault : List (List ℕ) → List ℕ → Option Fault
bracket_fault earlier line = line_fault (pair_line_says bracket_in) Twice earlier line

-- the fault of a line of BidiMirroring.txt after the earlier ones
abbrev pub mirror_fault : List (List ℕ) → List ℕ → Option Fault
mirror_fault earlier line = line_fault (pair_line_says mirror_in) Twice earlier line

-- the fault of the first faulty line of BidiBrackets.txt
unfoldable pub bracket_file_fault : List ℕ → Option TableFault
bracket_file_fault bytes = file_fault (pair_line_says bracket_in) Twice bytes

-- the fault of the first faulty line of BidiMirroring.txt
unfoldable pub mirror_file_fault : List ℕ → Option TableFault
mirror_file_fault bytes = file_fault (pair_line_says mirror_in) Twice bytes

-- the side of a bracket, and the character whose key it has, from the one line whose first field it is
unfoldable pub bracket_of : List ℕ → ℕ → Option SidedBracket
bracket_of bytes c = value_of (pair_line_says bracket_in) bytes c

-- the mirror image of a character, from the one line whose first field it is
unfoldable pub mirror_of : List ℕ → ℕ → Option ℕ
mirror_of bytes c = value_of (pair_line_says mirror_in) bytes c

-- the bytes are not faulty, and these are the mirror images that they state for the characters
pub record StatesMirrors (bytes : List ℕ) (mirrored : ℕ → Option ℕ) : Type 0 where
  pub faultless : mirror_file_fault bytes ≡ None
  pub stated : (c : ℕ) → c ≤ 0x10FFFF → mirrored c ≡ mirror_of bytes c

-- BD14, BD15: the bracket of this side with this key
abbrev pub bracket_with : BracketSide → Key → Bracket
bracket_with Open key = bracket.Open key
bracket_with Close key = bracket.Close key

-- the bracket that a character's line states: none, or one with the key of the stated character
abbrev pub bracket_stated : (ℕ → Key) → Option SidedBracket → Bracket
bracket_stated key None = bracket.No
bracket_stated key (Some stated) = bracket_with stated.side (key stated.keyed_by)

-- BD16: canonically equivalent: the texts of one character each have one canonical decomposition
abbrev pub IsEquivalent : ℕ → ℕ → Type 0
IsEquivalent a b = nfd (a ∷ []) ≡ nfd (b ∷ [])

-- some line states that a bracket has the key of this character
abbrev pub IsKeyed : List ℕ → ℕ → Type 0
IsKeyed bytes a = (c : ℕ) × (stated : SidedBracket) × (c ≤ 0x10FFFF) × (bracket_of bytes c ≡ Some stated) ×
    (stated.keyed_by ≡ a)

-- BD14 to BD16: the bytes are not faulty, and these are the brackets that they state for the characters; keys are equal
-- exactly if their characters are canonically equivalent
pub record StatesBrackets (bytes : List ℕ) (brackets : ℕ → Bracket) : Type 0 where
  pub faultless : bracket_file_fault bytes ≡ None
  pub key : ℕ → Key
  pub keys : (a b : ℕ) → IsKeyed bytes a → IsKeyed bytes b → (key a ≡ key b) ↔ IsEquivalent a b
  pub stated : (c : ℕ) → c ≤ 0x10FFFF → brackets c ≡ bracket_stated key (bracket_of bytes c)
