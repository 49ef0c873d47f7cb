-- Texts drawn from an alphabet: the same for the same seed, on each machine.
use Rattle.std.specs.Prelude.{Option, Some, None, ℕ, ◌+◌, ◌-◌, ◌%◌, ◌<◌, ◌≤◌, ◌==◌, nat_lt, if◌then◌else◌, List, length, map, slice_index_or}
use Rattle.rand_pcg.specs.Lcg.{Lcg, advance, increment_of, started}
use Rattle.rand_pcg.specs.Pcg.{multiplier_64, pcg32}
use Rattle.units.specs.Positions.{positions_from}
use Rattle.units.specs.declared.level.Direction.{Direction}
use Rattle.rows.specs.Letters.{no_letter}
use Rattle.rows.specs.declared.letter.Letter.{Letter}
use Rattle.rows.specs.RowTexts.{Case, longest_row}
use Rattle.rows.specs.Exhaustive.{cases_between, under_each}
use Rattle.rows.specs.declared.fault.RowsFault.{RowsFault}
use Rattle.rows.specs.declared.fault.RowsFault.TheVariants.{NoLetter, NoLength, TooLong, NoneBetween}

-- `count` texts, drawn with this seed from an alphabet, none shorter than the least length or longer than the greatest
pub record RandomOf : Type 0 where
  pub alphabet : List Letter
  pub least : ℕ
  pub greatest : ℕ
  pub seed : ℕ
  pub count : ℕ

-- there is a letter, no text is empty or too long, and there is a length to draw
pub record CanBeDrawn (r : RandomOf) : Type 0 where
  pub letters : 0 < length r.alphabet
  pub some : 0 < r.least
  pub short : r.greatest ≤ longest_row
  pub between : r.least ≤ r.greatest

-- the first reason why these texts can't be drawn
abbrev pub no_drawing_of : RandomOf → Option RowsFault
no_drawing_of r =
    if length r.alphabet == 0 then Some NoLetter
    else if r.least == 0 then Some NoLength
    else if nat_lt longest_row r.greatest then Some TooLong
    else if nat_lt r.greatest r.least then Some NoneBetween
    else None

-- each text has its own generator, PCG32: the seed is its state, and the text's number is its stream
abbrev pub generator_of : ℕ → ℕ → Lcg
generator_of seed number = started 64 multiplier_64 seed (increment_of 64 number)

-- the word of 32 bits that a generator gives after this many others
abbrev pub word_after : Lcg → ℕ → ℕ
word_after g words = (pcg32 (advance 64 multiplier_64 words g)).0

-- the letter that a word draws from an alphabet
abbrev pub letter_drawn : List Letter → ℕ → Letter
letter_drawn alphabet word = slice_index_or alphabet (word % length alphabet) no_letter

-- the text of this length that a generator draws, a word for each place
abbrev pub text_drawn : List Letter → Lcg → ℕ → List Letter
text_drawn alphabet g len = map (λ place. letter_drawn alphabet (word_after g place)) (positions_from 0 len)

-- the length of a text, which the first word of its generator draws
abbrev pub length_drawn : RandomOf → ℕ → ℕ
length_drawn r number = r.least + (pcg32 (generator_of r.seed number)).0 % (r.greatest - r.least + 1)

-- the text with this number: its letters are drawn after its length
abbrev pub text_of_draw : RandomOf → ℕ → List Letter
text_of_draw r number = text_drawn r.alphabet (pcg32 (generator_of r.seed number)).1 (length_drawn r number)

-- the cases of the text with this number
abbrev pub cases_of_draw : RandomOf → List Direction → ℕ → List Case
cases_of_draw r directions number = under_each directions (text_of_draw r number)

-- the cases of all texts, by their numbers
abbrev pub cases_drawn : RandomOf → List Direction → List Case
cases_drawn r directions = cases_between (cases_of_draw r directions) 0 r.count
