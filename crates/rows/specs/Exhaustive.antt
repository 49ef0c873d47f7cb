-- All texts of some lengths over an alphabet, the shorter ones first.
use Rattle.std.specs.Prelude.{Option, Some, None, ℕ, ◌+◌, ◌-◌, ◌/◌, ◌%◌, ◌^◌, ◌<◌, ◌≤◌, ◌==◌, nat_lt, if◌then◌else◌, List, length, map, slice_index_or}
use Rattle.std.specs.List.{flat_map}
use Rattle.units.specs.Positions.{positions_from}
use Rattle.units.specs.declared.level.Direction.{Direction}
use Rattle.rows.specs.Letters.{no_letter}
use Rattle.rows.specs.RowTexts.{Case, longest_row}
use Rattle.rows.specs.declared.letter.Letter.{Letter}
use Rattle.rows.specs.declared.fault.RowsFault.{RowsFault}
use Rattle.rows.specs.declared.fault.RowsFault.TheVariants.{NoLetter, NoLength, TooLong, TooMany}

-- the texts over an alphabet from the least length up to the greatest
pub record ExhaustiveOf : Type 0 where
  pub alphabet : List Letter
  pub least : ℕ
  pub greatest : ℕ

-- there is a letter, no text is empty or too long, and 64 bits are enough to count the texts of each length
pub record CanBeCounted (e : ExhaustiveOf) : Type 0 where
  pub letters : 0 < length e.alphabet
  pub some : 0 < e.least
  pub short : e.greatest ≤ longest_row
  pub few : length e.alphabet ^ e.greatest < 2 ^ 64

-- the first reason why these texts can't be enumerated
abbrev pub rejection_of : ExhaustiveOf → Option RowsFault
rejection_of e =
    if length e.alphabet == 0 then Some NoLetter
    else if e.least == 0 then Some NoLength
    else if nat_lt longest_row e.greatest then Some TooLong
    else if nat_lt (length e.alphabet ^ e.greatest) (2 ^ 64) then None
    else Some TooMany

-- the number of consecutive texts in the enumeration that differ only in this many last places
abbrev pub block : List Letter → ℕ → ℕ
block alphabet places = length alphabet ^ places

-- the letter at a place of the text of this length with this number: after the block of texts with one letter there
-- comes the block of the next letter of the alphabet, and after that of the last letter comes that of the first
abbrev pub letter_in_text : List Letter → ℕ → ℕ → ℕ → Letter
letter_in_text alphabet len number place =
    slice_index_or alphabet (number / block alphabet (len - 1 - place) % length alphabet) no_letter

-- the text of this length with this number, in order place by place
abbrev pub text_of_number : List Letter → ℕ → ℕ → List Letter
text_of_number alphabet len number = map (letter_in_text alphabet len number) (positions_from 0 len)

-- a text under each of these directions
abbrev pub under_each : List Direction → List Letter → List Case
under_each directions text = map (λ direction. record { text = text; direction = direction }) directions

-- the cases of each number from start up to end
abbrev pub cases_between : (ℕ → List Case) → ℕ → ℕ → List Case
cases_between cases start end = flat_map cases (positions_from start (end - start))

-- the cases of the text of this length with this number
abbrev pub cases_of_number : List Letter → List Direction → ℕ → ℕ → List Case
cases_of_number alphabet directions len number = under_each directions (text_of_number alphabet len number)

-- the cases of all texts of this length
abbrev pub cases_of_length : List Letter → List Direction → ℕ → List Case
cases_of_length alphabet directions len =
    cases_between (cases_of_number alphabet directions len) 0 (block alphabet len)

-- the cases of all texts, by their lengths
abbrev pub cases_in : ExhaustiveOf → List Direction → List Case
cases_in e directions = cases_between (cases_of_length e.alphabet directions) e.least (e.greatest + 1)
