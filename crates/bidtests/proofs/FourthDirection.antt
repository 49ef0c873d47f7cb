-- Findings with three directions are the same with four, up to a malformed bit set or direction field.
use Rattle.std.proofs.Common.{◌≡◌, ℕ, ◌≤◌, Option, None, Some, List, [], ◌∷◌, map, inl, inr, refl, arith}
use Rattle.std.specs.Prelude.{◌⊎◌}
use Rattle.std.proofs.lemmas.Bool.{cases_eq, and_parts, leb-true}
use Rattle.units.specs.Limits.{LimitsOf}
use Rattle.units.specs.Text.{each_read, fields_of, items_of, lines_of}
use Rattle.units.specs.declared.bracket.Unit.{Unit as BidiUnit}
use Rattle.units.specs.declared.level.Direction.{Direction}
use Rattle.units.specs.declared.level.ParaLevel.{ParaLevel}
use Rattle.bidtests.specs.declared.kind.Kind.{Kind}
use Rattle.bidtests.specs.declared.kind.Kind.TheVariants.{Classes, Characters}
use Rattle.bidtests.specs.declared.verdict.Cause.TheVariants.{BitSet, DirectionField}
use Rattle.bidtests.specs.declared.verdict.Verdict.TheVariants.{Malformed}
use Rattle.bidtests.specs.Verdicts.{Finding, Faulty}
use Rattle.bidtests.specs.ClassesFile.{ClassesLine, Broken, bit_set, unit_item, classes_row_as_read, classes_row_of_items, classes_row_by, classes_content, classes_line, findings_after, classes_verdict}
use Rattle.bidtests.specs.CharactersFile.{direction_field, characters_row_as_read, characters_row_by, characters_line, characters_verdict, characters_content, characters_row_of_items}
use Rattle.bidtests.specs.FileKinds.{verdict_of}
use Rattle.ucdfiles.specs.Tables.{unit_by}
use Rattle.bidtests.specs.ThreeDirections.{one_digit, zero_to_two, three_classes_line, three_characters_line, three_verdict_of}
use Rattle.bidtests.proofs.SameUpTo.{AreSameUpTo, verdict-same}

-- the first is none, or both are the same
abbrev IsSameOrNone : {A : Type 0} → Option A → Option A → Type 0
IsSameOrNone few all = (few ≡ None) ⊎ (few ≡ all)

digit-names : (d : ℕ) → 49 ≤ d → d ≤ 55 → one_digit (d ∷ []) ≡ bit_set (d ∷ [])
digit-names d low high =
    elim (cases_eq d 49) [
      | inl here ↦ rw here refl
      | inr ne1 ↦ elim (cases_eq d 50) [
        | inl here ↦ rw here refl
        | inr ne2 ↦ elim (cases_eq d 51) [
          | inl here ↦ rw here refl
          | inr ne3 ↦ elim (cases_eq d 52) [
            | inl here ↦ rw here refl
            | inr ne4 ↦ elim (cases_eq d 53) [
              | inl here ↦ rw here refl
              | inr ne5 ↦ elim (cases_eq d 54) [
                | inl here ↦ rw here refl
                | inr ne6 ↦ let here : d ≡ 55 = omega arith in rw here refl
              ]
            ]
          ]
        ]
      ]
    ]

bit_sets : (bits : List ℕ) → IsSameOrNone (one_digit bits) (bit_set bits)
bit_sets [] = inl refl
bit_sets (d ∷ e ∷ bits) = inl refl
bit_sets (d ∷ []) = grind (arith, and_parts, digit-names, leb-true)

direction_fields : (field : List ℕ) → IsSameOrNone (zero_to_two field) (direction_field field)
direction_fields field = grind arith

-- Files of classes

abbrev IsLineAlike : ClassesLine → ClassesLine → Type 0
IsLineAlike few all = (few ≡ Broken BitSet) ⊎ (few ≡ all)

classes_row_as_read-alike : (text : Option (List BidiUnit)) (few all : Option (List Direction)) → IsSameOrNone few all →
    IsLineAlike (classes_row_as_read text few) (classes_row_as_read text all)
classes_row_as_read-alike None few all h = inr refl
classes_row_as_read-alike (Some text) few all (inl none) = inl (rw none refl)
classes_row_as_read-alike (Some text) few all (inr same) = inr (rw same refl)

classes_row_of_items-alike : (names : List (List ℕ)) (bits : List ℕ) →
    IsLineAlike (classes_row_of_items one_digit names bits) (classes_row_of_items bit_set names bits)
classes_row_of_items-alike [] bits = inr refl
classes_row_of_items-alike (name ∷ names) bits =
    classes_row_as_read-alike (each_read unit_item (name ∷ names)) (one_digit bits) (bit_set bits) (bit_sets bits)

classes_row_by-alike : (fields : List (List ℕ)) →
    IsLineAlike (classes_row_by one_digit fields) (classes_row_by bit_set fields)
classes_row_by-alike [] = inr refl
classes_row_by-alike (names ∷ []) = inr refl
classes_row_by-alike (names ∷ bits ∷ []) = classes_row_of_items-alike (items_of names) bits
classes_row_by-alike (names ∷ bits ∷ more ∷ fields) = inr refl

content-alike : (content : List ℕ) → IsLineAlike (classes_content one_digit content) (classes_content bit_set content)
content-alike [] = inr refl
content-alike (b ∷ bs) = grind (arith, classes_row_by-alike)

line-alike : (line : List ℕ) → IsLineAlike (three_classes_line line) (classes_line line)
unfolding three_classes_line classes_line
line-alike line = grind (arith, content-alike)

lines-alike : (earlier : List ClassesLine) (lines : List (List ℕ)) →
    AreSameUpTo BitSet (findings_after earlier (map three_classes_line lines))
    (findings_after earlier (map classes_line lines))
lines-alike earlier [] = tt
lines-alike earlier (line ∷ lines) = grind (arith, line-alike, lines-alike (three_classes_line line ∷ earlier) lines)

-- Files of characters

abbrev IsRowAlike : Finding → Finding → Type 0
IsRowAlike few all = (few ≡ Faulty DirectionField) ⊎ (few ≡ all)

expected-alike : (text : Option (List BidiUnit)) (few all : Option Direction) (para_level : Option ParaLevel)
    (levels : Option (List (Option ℕ))) (order : Option (List ℕ)) → IsSameOrNone few all
    → IsRowAlike (characters_row_as_read text few para_level levels order)
    (characters_row_as_read text all para_level levels order)
expected-alike None few all para_level levels order h = inr refl
expected-alike (Some text) few all para_level levels order (inl none) = inl (rw none refl)
expected-alike (Some text) few all para_level levels order (inr same) = inr (rw same refl)

module _ (unit_of : ℕ → BidiUnit) where
  characters-alike : (items : List (List ℕ)) (direction para_level levels order : List ℕ)
      → IsRowAlike (characters_row_of_items zero_to_two unit_of items direction para_level levels order)
      (characters_row_of_items direction_field unit_of items direction para_level levels order)
  characters-alike [] direction para_level levels order = inr refl
  characters-alike (item ∷ items) direction para_level levels order = grind (arith, expected-alike, direction_fields)

  fields-alike : (fields : List (List ℕ)) →
      IsRowAlike (characters_row_by zero_to_two unit_of fields) (characters_row_by direction_field unit_of fields)
  fields-alike [] = inr refl
  fields-alike (a ∷ []) = inr refl
  fields-alike (a ∷ b ∷ []) = inr refl
  fields-alike (a ∷ b ∷ c ∷ []) = inr refl
  fields-alike (a ∷ b ∷ c ∷ d ∷ []) = inr refl
  fields-alike (characters ∷ direction ∷ para_level ∷ levels ∷ order ∷ []) =
      characters-alike (items_of characters) direction para_level levels order
  fields-alike (a ∷ b ∷ c ∷ d ∷ e ∷ f ∷ fields) = inr refl

  written-alike : (content : List ℕ) →
      IsRowAlike (characters_content zero_to_two unit_of content) (characters_content direction_field unit_of content)
  written-alike [] = inr refl
  written-alike (b ∷ bs) = fields-alike (fields_of (b ∷ bs))

  row-alike : (line : List ℕ) → IsRowAlike (three_characters_line unit_of line) (characters_line unit_of line)
  unfolding three_characters_line characters_line
  row-alike line = grind (arith, written-alike)

  rows-alike : (lines : List (List ℕ)) →
      AreSameUpTo DirectionField (map (three_characters_line unit_of) lines) (map (characters_line unit_of) lines)
  rows-alike [] = tt
  rows-alike (line ∷ lines) = elim (row-alike line) [
    | inl broken ↦ inl broken
    | inr same ↦
        inr (same, rows-alike lines)
  ]

-- allowing a fourth direction doesn't change the verdict on a file, unless the verdict without it is that a bit set or
-- a direction field is malformed
pub verdict-alike : (limits : LimitsOf) (kind : Kind) (bytes : List ℕ) →
    ((line : ℕ) → three_verdict_of limits kind bytes ≡ Malformed line BitSet → ⊥) →
    ((line : ℕ) → three_verdict_of limits kind bytes ≡ Malformed line DirectionField → ⊥)
    → verdict_of limits kind bytes ≡ three_verdict_of limits kind bytes
unfolding classes_verdict characters_verdict
verdict-alike limits Classes bytes bits fields = verdict-same limits BitSet _ _ (lines-alike [] (lines_of bytes)) bits
verdict-alike limits (Characters tables) bytes bits fields =
    verdict-same limits DirectionField _ _ (rows-alike (unit_by tables.now) (lines_of bytes)) fields
