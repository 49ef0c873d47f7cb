-- The line of a row, read back by the grammar.
use Rattle.std.proofs.Common.{◌≡◌, ◌≢◌, ℕ, ◌-◌, ◌*◌, ◌<◌, ◌≤◌, ◌==◌, true, false, Option, Some, List, [], ◌∷◌, length, get_or, refl, sym, ap, ◌∙◌, subst, arith, ne_eqb}
use Rattle.std.specs.Prelude.{◌&&◌, not, nat_le}
use Rattle.std.specs.List.{All, list_all}
use Rattle.std.proofs.lemmas.Bool.Decides.{nat_tests}
use Rattle.std.proofs.lemmas.List.{length-append, get_or_append_left}
use Rattle.std.proofs.lemmas.List.Elements.{All-append, All-weaker}
use Rattle.units.specs.Text.{cut_at, is_blank, trimmed, fields_of, items_of, each_trimmed}
use Rattle.units.specs.declared.bracket.Unit.{Unit as BidiUnit}
use Rattle.units.specs.declared.level.Direction.{Direction}
use Rattle.units.specs.declared.level.Direction.TheVariants.{Auto}
use Rattle.bidtests.specs.ClassesFile.{RowOf, bit_set, classes_content, classes_row_as_read, classes_row_by, classes_row_of_items, unit_item}
use Rattle.bidtests.specs.declared.kind.Kind.TheVariants.{Classes}
use Rattle.rows.specs.Letters.{IsLetterOf, letter_name, unit_of, units_of}
use Rattle.rows.specs.RowTexts.{IsRowText, between_blanks, bit_text, row_line}
use Rattle.rows.specs.declared.letter.Letter.{Letter}
use Rattle.rows.proofs.Between.{IsField, between-ends, between-field, between-first, between-items, length-between}
use Rattle.rows.proofs.Contents.{cut-first}
use Rattle.rows.proofs.Items.{IsItem, IsItemByte, all-tested, each-read-as, no-blank}
use Rattle.rows.proofs.ItemTexts.{class-read, name-few, name-item}
use Rattle.rows.proofs.LineTexts.{EndsPlain, IsFieldByte, IsLineByte, IsReadableLine, Says, ends-append, line-field, whole-line}

is-line-byte : (b : ℕ) → (nat_le 32 b && not (b == 35)) ≡ true → IsLineByte b
is-line-byte b test =
    let low : 32 ≤ b = grind (arith, nat_tests) in
    let comment : b ≢ 35 = λ e. grind (arith, nat_tests) in
    record { printed = low; comment = comment }

-- the text after the names of a row, and how it is read
record IsBits (direction : Direction) : Type 0 where
  pub read : bit_set (bit_text direction) ≡ Some (direction ∷ [])
  pub trim : trimmed (32 ∷ bit_text direction) ≡ bit_text direction
  pub bytes : list_all (λ b. nat_le 32 b && not (b == 35)) (59 ∷ 32 ∷ bit_text direction) ≡ true
  pub uncut : cut_at 59 (32 ∷ bit_text direction) ≡ (32 ∷ bit_text direction) ∷ []
  pub last : is_blank (get_or (59 ∷ 32 ∷ bit_text direction) 2 0) ≡ false
  pub count : length (bit_text direction) ≡ 1

bits : (direction : Direction) → IsBits direction
bits Auto = record { read = refl; trim = refl; bytes = refl; uncut = refl; last = refl; count = refl }
bits _ = record { read = refl; trim = refl; bytes = refl; uncut = refl; last = refl; count = refl }

bits-end : (direction : Direction) → EndsPlain (59 ∷ 32 ∷ bit_text direction)
bits-end direction =
    let is = bits direction in
    let two : 2 ≡ length (59 ∷ 32 ∷ bit_text direction) - 1 = omega (arith, is.count) in
    record {
      some = omega arith;
      last = ap (λ k. is_blank (get_or (59 ∷ 32 ∷ bit_text direction) k 0)) (sym two) ∙
          is.last;
    }

no-directive : (bs : List ℕ) → 0 < length bs → get_or bs 0 0 ≢ 64 →
    classes_content bit_set bs ≡ classes_row_by bit_set (fields_of bs)
no-directive [] some ne = absurd (omega arith)
no-directive (b ∷ bs) some ne = rw (ne_eqb b 64 ne) refl

module _ (l : Letter) (ls : List Letter) (direction : Direction) (letters : All (IsLetterOf Classes) (l ∷ ls)) where
  abbrev text : List Letter
  text = l ∷ ls

  abbrev names : List ℕ
  names = between_blanks letter_name text

  items : All (λ x. IsItem (letter_name x)) text
  items = All-weaker (IsLetterOf Classes) (λ x. IsItem (letter_name x)) (name-item Classes) text letters

  names-field : IsField names
  names-field = between-field letter_name text items

  names-end : EndsPlain names
  names-end = between-ends letter_name l ls items

  length-names : length names ≤ length text * 7
  length-names =
      length-between letter_name 6 text (All-weaker (IsLetterOf Classes) (λ x. length (letter_name x) ≤ 6)
      (name-few Classes) text letters)

  line-first : IsItemByte (get_or (row_line text direction) 0 0)
  line-first =
      let begins : get_or (row_line text direction) 0 0 ≡ get_or names 0 0 =
      get_or_append_left names (59 ∷ 32 ∷ bit_text direction) 0 0 names-end.some in
      subst IsItemByte (sym begins) (between-first letter_name l ls items)

  row-noted : length text ≤ 4096 → IsReadableLine (row_line text direction)
  row-noted fits =
      let is = bits direction in
      let ends = ends-append names (59 ∷ 32 ∷ bit_text direction) (bits-end direction) in
      record {
        bytes = All-append IsLineByte names (59 ∷ 32 ∷ bit_text direction)
            (All-weaker IsFieldByte IsLineByte line-field names names-field.bytes)
            (all-tested IsLineByte (λ b. nat_le 32 b && not (b == 35)) is-line-byte
            (59 ∷ 32 ∷ bit_text direction) is.bytes);
        ends = record {
          some = ends.some;
          first = no-blank (get_or (row_line text direction) 0 0) line-first;
          last =
              ends.last;
        };
        short = omega (arith, length-append names (59 ∷ 32 ∷ bit_text direction), length-names, is.count);
      }

  fields-read : fields_of (row_line text direction) ≡ names ∷ bit_text direction ∷ []
  fields-read =
      let is = bits direction in
      ap each_trimmed (cut-first 59 names (32 ∷ bit_text direction) (All-weaker IsFieldByte (λ b. b ≢ 59) (λ b h.
      h.separator) names names-field.bytes) ∙ ap (λ (ps : List (List ℕ)). names ∷ ps) is.uncut)
      ∙ ap (λ (n : List ℕ). n ∷ trimmed (32 ∷ bit_text direction) ∷ []) names-field.trim
      ∙ ap (λ (b : List ℕ). names ∷ b ∷ []) is.trim

  row-of-names : classes_row_of_items bit_set (items_of names) (bit_text direction) ≡
      RowOf (units_of text) (direction ∷ [])
  row-of-names =
      let reads = All-weaker (IsLetterOf Classes) (λ x. unit_item (letter_name x) ≡
      Some (unit_of x)) class-read text letters in
      ap (λ (ws : List (List ℕ)). classes_row_of_items bit_set ws (bit_text direction))
      (between-items letter_name text items)
      ∙ ap (λ (units : Option (List BidiUnit)). classes_row_as_read units (bit_set (bit_text direction)))
      (each-read-as letter_name unit_item unit_of text reads)
      ∙ ap (classes_row_as_read (Some (units_of text))) (bits direction).read

  row-read-some : length text ≤ 4096 → Says (row_line text direction) (RowOf (units_of text) (direction ∷ []))
  row-read-some fits =
      let by = row-noted fits in
      record {
        by = by;
        read = whole-line (row_line text direction) by
            ∙ no-directive (row_line text direction) by.ends.some line-first.plain
            ∙ ap (classes_row_by bit_set) fields-read
            ∙ row-of-names;
      }

pub row-read : (text : List Letter) (direction : Direction) → IsRowText Classes text →
    Says (row_line text direction) (RowOf (units_of text) (direction ∷ []))
row-read [] direction is = absurd (omega (arith, is.some))
row-read (l ∷ ls) direction is = row-read-some l ls direction is.letters (omega (arith, is.fits))
