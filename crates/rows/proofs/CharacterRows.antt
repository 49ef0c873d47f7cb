-- The row of a case in a file of characters, read back by the grammar.
use Rattle.std.proofs.Common.{◌≡◌, ◌≢◌, ℕ, zero, suc, ◌*◌, ◌<◌, ◌≤◌, true, false, cond, Option, Some, List, [], ◌∷◌, ◌++◌, length, map, get_or, refl, sym, ap, ◌∙◌, subst, arith}
use Rattle.std.specs.Prelude.{nat_lt}
use Rattle.std.specs.Borrow.{Bor}
use Rattle.std.specs.Fmt.{decimal}
use Rattle.std.specs.List.{All}
use Rattle.std.proofs.lemmas.Bool.Decides.{nat_tests}
use Rattle.std.proofs.lemmas.Fmt.{decimal_digit}
use Rattle.std.proofs.lemmas.List.{get_or_append_left, length-append, length-map}
use Rattle.std.proofs.lemmas.List.Elements.{All-nil, All-cons, All-weaker}
use Rattle.units.specs.Classes.{classes_of, is_separator}
use Rattle.units.specs.Isolates.{level_of_para, para_level_of}
use Rattle.units.specs.Layout.{all_orders, layout_of}
use Rattle.units.specs.Limits.{LimitsOf}
use Rattle.units.specs.Paragraphs.{begin_with, paragraphs_of}
use Rattle.units.specs.Text.{each_read, fields_of, longest_line}
use Rattle.units.specs.declared.bracket.Unit.{Unit as BidiUnit}
use Rattle.units.specs.declared.level.Direction.{Direction}
use Rattle.units.specs.declared.level.Direction.TheVariants.{Auto, Ltr, Rtl, AutoRtl}
use Rattle.units.specs.declared.level.ParaLevel.{ParaLevel}
use Rattle.units.specs.declared.level.ParaLevel.TheVariants.{Zero, One}
use Rattle.ucdfiles.specs.Tables.{TablesOf, unit_by}
use Rattle.lines.proofs.Lengths.{length-levels}
use Rattle.lines.proofs.RemovedLevels.{para_level-low}
use Rattle.printing.specs.LevelsText.{level_text}
use Rattle.bidtests.specs.CharactersFile.{character_item, characters_content, characters_line, characters_row_by, characters_row_of_items, direction_field, para_field}
use Rattle.bidtests.specs.ClassesFile.{level_item, order_item}
use Rattle.bidtests.specs.Verdicts.{Expected, Row}
use Rattle.bidtests.specs.declared.kind.Kind.TheVariants.{Characters}
use Rattle.rows.specs.Letters.{IsLetterOf, letter_name, unit_of, units_of}
use Rattle.rows.specs.RowTexts.{Case, IsRowText, between_blanks, direction_text, fields_with_layout, in_fields, layout_of_case, para_text}
use Rattle.rows.specs.declared.letter.Letter.{Letter}
use Rattle.rows.proofs.Between.{IsField, between-field, between-first, between-ends, between-items, item-field, length-between}
use Rattle.rows.proofs.Contents.{content-whole}
use Rattle.rows.proofs.FieldTexts.{fields-bytes, fields-read}
use Rattle.rows.proofs.Items.{IsItem, IsItemByte, each-read, each-read-as, no-blank}
use Rattle.rows.proofs.ItemTexts.{character-read, level-few, level-item, level-read, name-few, name-item, position-few, position-item, position-read}
use Rattle.rows.proofs.LevelBounds.{IsLevel, levels-low}
use Rattle.rows.proofs.LineTexts.{EndsPlain, IsLineByte, IsReadableLine, ends-append}
use Rattle.rows.proofs.OrderBounds.{order-few}
use Rattle.rows.proofs.ReadNumbers.{decimal-item}

-- how a direction is read
record IsDirection (direction : Direction) : Type 0 where
  pub item : IsField (direction_text direction)
  pub read : direction_field (direction_text direction) ≡ Some direction
  pub count : length (direction_text direction) ≡ 1

digit-field : (b : ℕ) → IsItemByte b → IsField (b ∷ [])
digit-field b is = item-field (b ∷ []) (record {
  some = omega arith;
  bytes =
      All-cons IsItemByte b [] is (All-nil IsItemByte);
})

digit : (b : ℕ) → 48 ≤ b → b ≤ 57 → IsItemByte b
digit b low high = record { above = low; within = λ e. omega arith; plain = λ e. omega arith }

direction-read : (direction : Direction) → IsDirection direction
direction-read Ltr = record { item = digit-field 48 (digit 48 (omega arith) (omega arith)); read = refl; count = refl }
direction-read Rtl = record { item = digit-field 49 (digit 49 (omega arith) (omega arith)); read = refl; count = refl }
direction-read Auto = record { item = digit-field 50 (digit 50 (omega arith) (omega arith)); read = refl; count = refl }
direction-read AutoRtl = record {
  item = digit-field 51 (digit 51 (omega arith) (omega arith));
  read = refl;
  count =
      refl;
}

-- how the level of a paragraph is read
record IsPara (level : ℕ) : Type 0 where
  pub para : ParaLevel
  pub read : para_field (decimal level) ≡ Some para
  pub is : level_of_para para ≡ level
  pub item : IsField (decimal level)
  pub count : length (decimal level) ≡ 1

para-read : (level : ℕ) → level ≤ 1 → IsPara level
para-read zero low =
    let text = decimal_digit 0 (omega arith) in
    record {
      para = Zero;
      read = rw text refl;
      is = refl;
      item = item-field (decimal 0) (decimal-item 0 (omega arith));
      count = rw text refl;
    }
para-read (suc zero) low =
    let text = decimal_digit 1 (omega arith) in
    record {
      para = One;
      read = rw text refl;
      is = refl;
      item = item-field (decimal 1) (decimal-item 1 (omega arith));
      count = rw text refl;
    }
para-read (suc (suc level)) low = absurd (omega arith)

-- the levels of a text's paragraphs: there is one, and it is 0 or 1
record HasFirst (paras : List ℕ) : Type 0 where
  pub first : ℕ
  pub others : List ℕ
  pub is : paras ≡ first ∷ others
  pub low : first ≤ 1

some-of : (level : List BidiUnit → ℕ) → ((us : List BidiUnit) → level us ≤ 1) →
    (unit : BidiUnit) (piece : List BidiUnit) (pieces : List (List BidiUnit))
    → HasFirst (map level (begin_with unit (piece ∷ pieces)))
some-of level low unit piece pieces =
    elim (is_separator unit.class) as (λ b.
    HasFirst (map level (cond b ((unit ∷ []) ∷ piece ∷ pieces) ((unit ∷ piece) ∷ pieces)))) [
      | true ↦ record {
        first = level (unit ∷ []);
        others = map level (piece ∷ pieces);
        is = refl;
        low =
            low (unit ∷ []);
      }
      | false ↦ record { first = level (unit ∷ piece); others = map level pieces; is = refl; low = low (unit ∷ piece) }
    ]

some-paragraph : (level : List BidiUnit → ℕ) → ((us : List BidiUnit) → level us ≤ 1) →
    (unit : BidiUnit) (pieces : List (List BidiUnit)) → HasFirst (map level (begin_with unit pieces))
some-paragraph level low unit [] = record { first = level (unit ∷ []); others = []; is = refl; low = low (unit ∷ []) }
some-paragraph level low unit (piece ∷ pieces) = some-of level low unit piece pieces

paras-first : (limits : LimitsOf) (text : List BidiUnit) (direction : Direction) → 0 < length text →
    HasFirst (layout_of limits text direction []).paras
unfolding layout_of
paras-first limits [] direction some = absurd (omega arith)
paras-first limits (unit ∷ units) direction some =
    some-paragraph (λ us. para_level_of (classes_of us) direction) (λ us. para_level-low (classes_of us) direction) unit
    (paragraphs_of units)

-- a line that is read as exactly this row
pub record SaysRow (tables : Bor TablesOf) (line : List ℕ) (expected : Expected) : Type 0 where
  pub by : IsReadableLine line
  pub read : characters_line (unit_by tables.now) line ≡ Row expected

whole-row : (unit_by : ℕ → BidiUnit) (line : List ℕ) → IsReadableLine line →
    characters_line unit_by line ≡ characters_content direction_field unit_by line
unfolding characters_line
whole-row unit_by line noted =
    let short : nat_lt longest_line (length line) ≡ false = let s = noted.short in grind (arith, nat_tests) in
    rw short (ap (characters_content direction_field unit_by)
    (content-whole line (All-weaker IsLineByte (λ b. b ≢ 35) (λ b h. h.comment) line noted.bytes) noted.ends))

no-silence : (unit_by : ℕ → BidiUnit) (bs : List ℕ) → 0 < length bs →
    characters_content direction_field unit_by bs ≡ characters_row_by direction_field unit_by (fields_of bs)
no-silence unit_by [] some = absurd (omega arith)
no-silence unit_by (b ∷ bs) some = refl

-- the expected levels and order of a case in a file of characters
abbrev pub expected_of_row : LimitsOf → Case → ℕ → Expected
expected_of_row limits c para = record {
  text = units_of c.text;
  directions = c.direction ∷ [];
  para_level = Some para;
  levels = (layout_of_case limits c).levels;
  order = all_orders (layout_of_case limits c);
}

-- the properties of the fields of a row
record AreFields (n l o : List ℕ) (count : ℕ) : Type 0 where
  pub names : IsField n
  pub levels : IsField l
  pub order : IsField o
  pub few_names : length n ≤ count * 7
  pub few_levels : length l ≤ count * 4
  pub few_order : length o ≤ count * 5

module _ (tables : Bor TablesOf) (limits : LimitsOf) (l : Letter) (ls : List Letter) (direction : Direction)
    (is : IsRowText (Characters tables) (l ∷ ls)) (deep : limits.depth ≤ 125) where
  abbrev text : List Letter
  text = l ∷ ls

  abbrev c : Case
  c = record { text = text; direction = direction }

  abbrev levels : List (Option ℕ)
  levels = (layout_of_case limits c).levels

  abbrev order : List ℕ
  order = all_orders (layout_of_case limits c)

  abbrev names : List ℕ
  names = between_blanks letter_name text

  abbrev level_texts : List ℕ
  level_texts = between_blanks level_text levels

  abbrev order_texts : List ℕ
  order_texts = between_blanks decimal order

  -- the fields, from the text of the first paragraph's level
  abbrev fields_by : List ℕ → List (List ℕ)
  fields_by para = names ∷ direction_text direction ∷ para ∷ level_texts ∷ order_texts ∷ []

  name-items : All (λ x. IsItem (letter_name x)) text
  name-items = All-weaker (IsLetterOf (Characters tables)) (λ x. IsItem (letter_name x))
      (name-item (Characters tables)) text is.letters

  within : All IsLevel levels
  within = levels-low limits (units_of text) direction [] deep

  level-items : All (λ x. IsItem (level_text x)) levels
  level-items = All-weaker IsLevel (λ x. IsItem (level_text x)) level-item levels within

  places : All (λ p. p < 4096) order
  places =
      let fits : length (units_of text) ≤ 4095 = omega (arith, length-map text unit_of, is.fits) in
      All-weaker (λ p. p < length (units_of text)) (λ p. p < 4096) (λ p lt.
      omega arith) order (order-few limits (units_of text) direction).places

  order-items : All (λ p. IsItem (decimal p)) order
  order-items = All-weaker (λ p. p < 4096) (λ p. IsItem (decimal p)) position-item order places

  are-fields : AreFields names level_texts order_texts (length text)
  are-fields =
      let count : length levels ≡ length text = length-levels limits (units_of text) direction [] ∙
      length-map text unit_of in
      let few : length order ≤ length text = omega (
        arith,
        (order-few limits (units_of text) direction).few,
        length-map text unit_of,
      ) in
      let by_levels = length-between level_text 3 levels (All-weaker IsLevel (λ x. length (level_text x) ≤
      3) level-few levels within) in
      let by_order = length-between decimal 4 order (All-weaker (λ p. p < 4096) (λ p.
      length (decimal p) ≤ 4) position-few order places) in
      record {
        names = between-field letter_name text name-items;
        levels = between-field level_text levels level-items;
        order = between-field decimal order order-items;
        few_names = length-between letter_name 6 text (All-weaker (IsLetterOf (Characters tables)) (λ x.
            length (letter_name x) ≤ 6) (name-few (Characters tables)) text is.letters);
        few_levels = omega (arith, by_levels, count);
        few_order = omega (arith, by_order, few);
      }

  row-ends : (front : List ℕ) (ps : List ℕ) → All (λ p. IsItem (decimal p)) ps →
      EndsPlain (front ++ 59 ∷ between_blanks decimal ps)
  row-ends front [] items = ends-append front (59 ∷ []) (record { some = omega arith; last = refl })
  row-ends front (p ∷ ps) items =
      ends-append front (59 ∷ between_blanks decimal (p ∷ ps)) (ends-append (59 ∷ []) (between_blanks decimal (p ∷ ps))
      (between-ends decimal p ps items))

  module _ (level : ℕ) (para : IsPara level) where
    abbrev line : List ℕ
    line = in_fields (fields_by (decimal level))

    all-fields : All IsField (fields_by (decimal level))
    all-fields =
        let are = are-fields in
        let way = direction-read direction in
        All-cons IsField names (direction_text direction ∷ decimal level ∷ level_texts ∷ order_texts ∷ []) are.names
        (All-cons IsField (direction_text direction) (decimal level ∷ level_texts ∷ order_texts ∷ []) way.item
        (All-cons IsField (decimal level) (level_texts ∷ order_texts ∷ []) para.item
        (All-cons IsField level_texts (order_texts ∷ []) are.levels
        (All-cons IsField order_texts [] are.order (All-nil IsField)))))

    line-ends : EndsPlain line
    line-ends =
        ends-append names _ (ends-append (59 ∷ []) _
        (ends-append (direction_text direction) _
        (ends-append (59 ∷ []) _
        (ends-append (decimal level) _ (ends-append (59 ∷ []) _ (row-ends level_texts order order-items))))))

    line-first : IsItemByte (get_or line 0 0)
    line-first =
        let begins : get_or line 0 0 ≡ get_or names 0 0 =
        get_or_append_left names _ 0 0 (between-ends letter_name l ls name-items).some in
        subst IsItemByte (sym begins) (between-first letter_name l ls name-items)

    line-short : length line ≤ 65536
    line-short =
        let are = are-fields in
        let last = level_texts ++ 59 ∷ order_texts in
        let third = decimal level ++ 59 ∷ last in
        let second = direction_text direction ++ 59 ∷ third in
        omega (
          arith,
          length-append names (59 ∷ second),
          length-append (direction_text direction) (59 ∷ third),
          length-append (decimal level) (59 ∷ last),
          length-append level_texts (59 ∷ order_texts),
          (direction-read direction).count,
          para.count,
          are.few_names,
          are.few_levels,
          are.few_order,
          is.fits,
        )

    line-noted : IsReadableLine line
    line-noted = record {
      bytes = fields-bytes (fields_by (decimal level)) all-fields;
      ends = record { some = line-ends.some; first = no-blank (get_or line 0 0) line-first; last = line-ends.last };
      short = line-short;
    }

    row-of-fields : characters_row_by direction_field (unit_by tables.now) (fields_by (decimal level)) ≡
        Row (expected_of_row limits c level)
    row-of-fields =
        let texts : each_read (character_item (unit_by tables.now)) (map letter_name text) ≡ Some (units_of text) =
        each-read-as letter_name (character_item (unit_by tables.now)) unit_of text
        (All-weaker (IsLetterOf (Characters tables)) (λ x. character_item (unit_by tables.now) (letter_name x) ≡
        Some (unit_of x)) (character-read tables) text is.letters) in
        let levels_read : each_read level_item (map level_text levels) ≡ Some levels =
        each-read level_text level_item levels (All-weaker IsLevel (λ x. level_item (level_text x) ≡
        Some x) level-read levels within) in
        let order_read : each_read order_item (map decimal order) ≡ Some order =
        each-read decimal order_item order (All-weaker (λ p. p < 4096) (λ p. order_item (decimal p) ≡
        Some p) position-read order places) in
        let way : direction_field (direction_text direction) ≡ Some direction = (direction-read direction).read in
        ap (λ (ws : List (List ℕ)). characters_row_of_items direction_field (unit_by tables.now) ws
        (direction_text direction) (decimal level) level_texts order_texts)
        (between-items letter_name text name-items)
        ∙ rw (
          texts,
          way,
          para.read,
          between-items level_text levels level-items,
          levels_read,
          between-items decimal order order-items,
          order_read,
        )
        (ap (λ (n : ℕ). Row (expected_of_row limits c n)) para.is)

    row-noted : SaysRow tables line (expected_of_row limits c level)
    row-noted = record {
      by = line-noted;
      read = whole-row (unit_by tables.now) line line-noted ∙ no-silence (unit_by tables.now) line line-ends.some
          ∙ ap (characters_row_by direction_field (unit_by tables.now))
          (fields-read names (direction_text direction ∷ decimal level ∷ level_texts ∷ order_texts ∷ []) all-fields)
          ∙ row-of-fields;
    }

-- the row of a case, and its expected levels and order
pub record SaysCase (tables : Bor TablesOf) (limits : LimitsOf) (c : Case) : Type 0 where
  pub para : ℕ
  pub first : (others : List ℕ) × ((layout_of_case limits c).paras ≡ para ∷ others)
  pub row : SaysRow tables (in_fields (fields_with_layout (layout_of_case limits c) c)) (expected_of_row limits c para)

says-some : (tables : Bor TablesOf) (limits : LimitsOf) (l : Letter) (ls : List Letter) (direction : Direction) →
    limits.depth ≤ 125 → IsRowText (Characters tables) (l ∷ ls)
    → SaysCase tables limits (record { text = l ∷ ls; direction = direction })
says-some tables limits l ls direction deep is =
    let c : Case = record { text = l ∷ ls; direction = direction } in
    let paras = paras-first limits (units_of (l ∷ ls)) direction (omega arith) in
    let first : ℕ = paras.first in
    let text : decimal first ≡ para_text (layout_of_case limits c).paras = sym (ap para_text paras.is) in
    record {
      para = first;
      first = (paras.others, paras.is);
      row = subst (λ (para : List ℕ). SaysRow tables (in_fields (fields_by tables limits l ls direction is deep para))
          (expected_of_row limits c first)) text
          (row-noted tables limits l ls direction is deep first (para-read first paras.low));
    }

says-any : (tables : Bor TablesOf) (limits : LimitsOf) (text : List Letter) (direction : Direction) →
    limits.depth ≤ 125 → IsRowText (Characters tables) text
    → SaysCase tables limits (record { text = text; direction = direction })
says-any tables limits [] direction deep is = absurd (omega (arith, is.some))
says-any tables limits (l ∷ ls) direction deep is = says-some tables limits l ls direction deep is

pub case-row : (tables : Bor TablesOf) (limits : LimitsOf) (c : Case) → limits.depth ≤ 125 →
    IsRowText (Characters tables) c.text → SaysCase tables limits c
case-row tables limits c deep is = says-any tables limits c.text c.direction deep is
