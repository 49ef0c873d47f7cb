-- Each text over an alphabet, enumerated or drawn, is one that a row can have; and the judge's verdict on such texts.
use Rattle.std.proofs.Common.{◌≡◌, ℕ, ◌+◌, ◌-◌, ◌/◌, ◌%◌, ◌^◌, ◌<◌, ◌≤◌, List, length, map, get_or, ◌∙◌, arith}
use Rattle.std.specs.List.{All}
use Rattle.std.proofs.Math.Nat.{mod-lt, pow-le-pow_right}
use Rattle.std.proofs.lemmas.List.{length-map}
use Rattle.std.proofs.lemmas.List.Elements.{All-map, All-from_get_or, All-weaker}
use Rattle.rand_pcg.specs.Pcg.{pcg32}
use Rattle.units.specs.Positions.{positions_from}
use Rattle.units.specs.Limits.{standard}
use Rattle.units.specs.declared.level.Direction.{Direction}
use Rattle.units.proofs.Positions.{length-positions_from, get_or-positions_from}
use Rattle.bidtests.specs.declared.kind.Kind.{Kind}
use Rattle.rows.specs.Letters.{IsLetterOf, no_letter}
use Rattle.rows.specs.RowTexts.{Case, IsRowText, longest_row}
use Rattle.rows.specs.Exhaustive.{CanBeCounted, ExhaustiveOf, cases_between, cases_in, cases_of_length, cases_of_number, letter_in_text, text_of_number, block, under_each}
use Rattle.rows.specs.Random.{CanBeDrawn, RandomOf, cases_drawn, cases_of_draw, letter_drawn, length_drawn, generator_of, text_of_draw, word_after}
use Rattle.rows.specs.TextLines.{cases_of_line, cases_of_text, kind_of, letter_named, row_lines}
use Rattle.rows.specs.Judged.{JudgeSaysYes}
use Rattle.rows.specs.declared.naming.Naming.{Naming}
use Rattle.rows.specs.declared.letter.Letter.{Letter}
use Rattle.rows.proofs.Judged.{judged-yes}
use Rattle.rows.proofs.LevelBounds.{All-flat_map}
use Rattle.rows.proofs.LineLists.{IsRowLine}
use Rattle.rows.proofs.Items.{all-of-every}

pub length-text_of_number : (alphabet : List Letter) (len number : ℕ) →
    length (text_of_number alphabet len number) ≡ len
length-text_of_number alphabet len number =
    length-map (positions_from 0 len) (letter_in_text alphabet len number) ∙ length-positions_from 0 len

module _ (kind : Kind) where
  abbrev IsRow : Case → Type 0
  IsRow c = IsRowText kind c.text

  -- for arbitrary letters at the places
  is-row_text : (letter : ℕ → Letter) (len : ℕ) → ((place : ℕ) → IsLetterOf kind (letter place)) → 0 < len →
      len ≤ longest_row
      → IsRowText kind (map letter (positions_from 0 len))
  is-row_text letter len each some short =
      let n = length-map (positions_from 0 len) letter ∙ length-positions_from 0 len in
      record {
        some = omega (arith, n);
        fits = omega (arith, n);
        letters = All-map (IsLetterOf kind) letter (positions_from 0 len)
            (all-of-every (λ place. IsLetterOf kind (letter place)) each (positions_from 0 len));
      }

  rows-under : (text : List Letter) (directions : List Direction) → IsRowText kind text →
      All IsRow (under_each directions text)
  rows-under text directions is =
      All-map IsRow (λ d. record { text = text; direction = d }) directions
      (all-of-every (λ d. IsRow (record { text = text; direction = d })) (λ d. is) directions)

  rows-between : (cases : ℕ → List Case) (start end : ℕ) → ((n : ℕ) → start ≤ n → n < end → All IsRow (cases n)) →
      All IsRow (cases_between cases start end)
  rows-between cases start end each =
      All-flat_map IsRow cases (positions_from start (end - start))
      (All-from_get_or (λ n. All IsRow (cases n)) (positions_from start (end - start)) 0
      (λ i lt.
      let count : length (positions_from start (end - start)) ≡ end - start =
      length-positions_from start (end - start) in
      let at = get_or-positions_from start (end - start) i 0 (omega arith) in
      each (get_or (positions_from start (end - start)) i 0) (omega (arith, at)) (omega (arith, at, count))))

  rows-of-length : (alphabet : List Letter) (directions : List Direction) (len : ℕ) → 0 < length alphabet →
      All (IsLetterOf kind) alphabet → 0 < len → len ≤ longest_row
      → All IsRow (cases_of_length alphabet directions len)
  rows-of-length alphabet directions len letters are some short =
      rows-between (cases_of_number alphabet directions len) 0 (block alphabet len)
      (λ number ge lt. rows-under (text_of_number alphabet len number) directions
      (is-row_text (letter_in_text alphabet len number) len
      (λ place. are (number / block alphabet (len - 1 - place) % length alphabet) no_letter
      (mod-lt (number / block alphabet (len - 1 - place)) letters)) some short))

-- 64 bits are enough to count the texts of each length
pub few-of-length : (e : ExhaustiveOf) (len : ℕ) → CanBeCounted e → len ≤ e.greatest → length e.alphabet ^ len < 2 ^ 64
few-of-length e len counted le =
    let some : 1 ≤ length e.alphabet = omega (arith, counted.letters) in
    let m : length e.alphabet ^ len ≤ length e.alphabet ^ e.greatest = pow-le-pow_right some le in
    omega (arith, m, counted.few)

pub rows-right : (kind : Kind) (e : ExhaustiveOf) (directions : List Direction) → CanBeCounted e →
    All (IsLetterOf kind) e.alphabet → JudgeSaysYes standard kind (cases_in e directions)
rows-right kind e directions counted are =
    judged-yes standard kind (cases_in e directions) (omega arith)
    (rows-between kind (cases_of_length e.alphabet directions) e.least (e.greatest + 1)
    (λ len ge lt. rows-of-length kind e.alphabet directions len counted.letters are (omega (arith, counted.some))
    (omega (arith, counted.short))))

-- a drawn length is between the least and the greatest
length_drawn-between : (r : RandomOf) (number : ℕ) → CanBeDrawn r → r.least ≤ length_drawn r number ×
    length_drawn r number ≤ r.greatest
length_drawn-between r number can =
    let word = (pcg32 (generator_of r.seed number)).0 in
    let below : word % (r.greatest - r.least + 1) < r.greatest - r.least + 1 = mod-lt word (omega arith) in
    (omega arith, omega (arith, below, can.between))

pub drawn-right : (kind : Kind) (r : RandomOf) (directions : List Direction) → CanBeDrawn r →
    All (IsLetterOf kind) r.alphabet → JudgeSaysYes standard kind (cases_drawn r directions)
drawn-right kind r directions can are =
    judged-yes standard kind (cases_drawn r directions) (omega arith)
    (rows-between kind (cases_of_draw r directions) 0 r.count
    (λ number ge lt.
    let within = length_drawn-between r number can in
    let g = (pcg32 (generator_of r.seed number)).1 in
    rows-under kind (text_of_draw r number) directions
    (is-row_text kind (λ place. letter_drawn r.alphabet (word_after g place)) (length_drawn r number)
    (λ place. are (word_after g place % length r.alphabet) no_letter (mod-lt (word_after g place) can.letters))
    (omega (arith, can.some, within.0)) (omega (arith, can.short, within.1)))))

-- the lines of a text, if the letters of each are a text of a row
pub lines-right : (naming : Naming) (directions : List Direction) (text : List ℕ) →
    All (IsRowLine naming) (row_lines text)
    → JudgeSaysYes standard (kind_of naming) (cases_of_text naming directions text)
lines-right naming directions text are =
    let kind : Kind = kind_of naming in
    judged-yes standard kind (cases_of_text naming directions text) (omega arith)
    (All-flat_map (IsRow kind) (cases_of_line naming directions) (row_lines text)
    (All-weaker (IsRowLine naming) (λ line. All (IsRow kind) (cases_of_line naming directions line))
    (λ line is. rows-under kind (map (letter_named naming) line) directions is) (row_lines text) are))
