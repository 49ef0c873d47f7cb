-- A text is cut into paragraphs in exactly one way.
use Rattle.std.proofs.Common.{Some, None, ◌≡◌, ℕ, ◌+◌, ◌<◌, ◌≤◌, true, false, List, [], ◌∷◌, length, take, drop, inl, inr, refl, ap, ◌∙◌, arith, ◌↔◌}
use Rattle.std.proofs.lemmas.Bool.{cases_Bool, lt-ltb, le-ltb}
use Rattle.std.proofs.lemmas.Option.{same_Some, none-some}
use Rattle.std.specs.List.{position_or_len, position}
use Rattle.units.specs.Classes.{is_separator}
use Rattle.units.specs.declared.bracket.Unit.{Unit as BidiUnit}
use Rattle.explicit.specs.FirstParagraph.{first_length}
use Rattle.units.specs.Paragraphs.{SeparatorOnlyLast, EndsWithSeparator, IsCut, begin_with, paragraphs_of, joined, IsCutting}

-- the defined pieces, joined, are the text
pub joined-begin_with : (unit : BidiUnit) (pieces : List (List BidiUnit)) →
    joined (begin_with unit pieces) ≡ unit ∷ joined pieces
joined-begin_with unit [] = refl
joined-begin_with unit (piece ∷ pieces) = grind arith

pub joined-paragraphs_of : (text : List BidiUnit) → joined (paragraphs_of text) ≡ text
joined-paragraphs_of [] = refl
joined-paragraphs_of (unit ∷ units) = joined-begin_with unit (paragraphs_of units) ∙
    ap (λ us. unit ∷ us) (joined-paragraphs_of units)

-- and they are a cutting
pub ends_longer : (unit : BidiUnit) (piece : List BidiUnit) → EndsWithSeparator piece → EndsWithSeparator (unit ∷ piece)
ends_longer unit [] h = absurd h
ends_longer unit (second ∷ others) h = h

pub only_last_longer : (unit : BidiUnit) (piece : List BidiUnit) → is_separator unit.class ≡ false →
    SeparatorOnlyLast piece → SeparatorOnlyLast (unit ∷ piece)
only_last_longer unit [] plain h = tt
only_last_longer unit (second ∷ others) plain h = (plain, h)

pub IsCut-begin_with : (unit : BidiUnit) (pieces : List (List BidiUnit)) → IsCut pieces → IsCut (begin_with unit pieces)
IsCut-begin_with unit [] h = (omega arith, tt, (λ lt. absurd (omega arith)), tt)
IsCut-begin_with unit (piece ∷ pieces) h =
    elim (cases_Bool (is_separator unit.class)) [
      | inl separates ↦ rw separates (omega arith, tt, (λ lt. separates), h)
      | inr plain ↦ rw plain (
        omega arith,
        only_last_longer unit piece plain h.1,
        (λ lt. ends_longer unit piece (h.2 lt)),
        h.3,
      )
    ]

pub IsCut-paragraphs_of : (text : List BidiUnit) → IsCut (paragraphs_of text)
IsCut-paragraphs_of [] = tt
IsCut-paragraphs_of (unit ∷ units) = IsCut-begin_with unit (paragraphs_of units) (IsCut-paragraphs_of units)

-- no other pieces that fulfil P1 join to the text
pub one_cutting : (text : List BidiUnit) (pieces : List (List BidiUnit)) → IsCut pieces → joined pieces ≡ text →
    pieces ≡ paragraphs_of text
one_cutting [] [] h e = refl
one_cutting [] ([] ∷ pieces) h e = absurd (omega (arith, h.0))
one_cutting [] ((unit ∷ piece) ∷ pieces) h e = absurd (cc)
one_cutting (unit ∷ units) [] h e = absurd (cc)
one_cutting (unit ∷ units) ([] ∷ pieces) h e = absurd (omega (arith, h.0))
one_cutting (unit ∷ units) ((first ∷ []) ∷ pieces) h e = grind (arith, one_cutting units pieces h.3)
one_cutting (unit ∷ units) ((first ∷ second ∷ others) ∷ pieces) h e =
    let same : first ≡ unit = cc in
    let plain : is_separator unit.class ≡ false = rw same at h.1.0 in
    let rest : joined ((second ∷ others) ∷ pieces) ≡ units = cc in
    let ih : (second ∷ others) ∷ pieces ≡ paragraphs_of units =
    one_cutting units ((second ∷ others) ∷ pieces) (omega arith, h.1.1, h.2, h.3) rest in
    rw (same, ← ih, plain) refl

pub cutting_theorem : (text : List BidiUnit) (pieces : List (List BidiUnit)) →
    IsCutting text pieces ↔ (pieces ≡ paragraphs_of text)
cutting_theorem text pieces =
    ((λ h. one_cutting text pieces h.1 h.0), (λ e. rw e (joined-paragraphs_of text, IsCut-paragraphs_of text)))

-- the first paragraph, and the paragraphs of the rest
pub begin_with_separator : (unit : BidiUnit) (pieces : List (List BidiUnit)) → is_separator unit.class ≡ true →
    begin_with unit pieces ≡ (unit ∷ []) ∷ pieces
begin_with_separator unit [] separates = refl
begin_with_separator unit (piece ∷ pieces) separates = rw separates refl

pub begin_with_other : (unit : BidiUnit) (piece : List BidiUnit) (pieces : List (List BidiUnit)) →
    is_separator unit.class ≡ false → begin_with unit (piece ∷ pieces) ≡ (unit ∷ piece) ∷ pieces
begin_with_other unit piece pieces plain = rw plain refl

pub paragraphs_of-cons : (unit : BidiUnit) (units : List BidiUnit) →
    paragraphs_of (unit ∷ units) ≡ take (first_length (unit ∷ units)) (unit ∷ units) ∷
    paragraphs_of (drop (first_length (unit ∷ units)) (unit ∷ units))
paragraphs_of-cons unit [] =
    elim (cases_Bool (is_separator unit.class)) [ inl separates ↦ rw separates refl | inr plain ↦ rw plain refl ]
paragraphs_of-cons unit (second ∷ others) =
    grind (arith, begin_with_separator, begin_with_other, paragraphs_of-cons second others)

-- the index of the first separator
abbrev pub separator_place : List BidiUnit → ℕ
separator_place text = position_or_len (λ u. is_separator u.class) text

pub first_length_separated : (text : List BidiUnit) → separator_place text < length text →
    first_length text ≡ separator_place text + 1
first_length_separated [] h = absurd (omega arith)
first_length_separated (unit ∷ units) h = grind (arith, first_length_separated units)

pub first_length_all : (text : List BidiUnit) → length text ≤ separator_place text → first_length text ≡ length text
first_length_all [] h = refl
first_length_all (unit ∷ units) h = grind (arith, first_length_all units)

pub first_length_within : (text : List BidiUnit) → first_length text ≤ length text
first_length_within [] = omega arith
first_length_within (unit ∷ units) = grind (arith, first_length_within units)

-- the length of the first paragraph, by the result of `position`
pub first_length_at : (text : List BidiUnit) (k : ℕ) → position (λ u. is_separator u.class) text ≡ Some k →
    first_length text ≡ k + 1
first_length_at text k e = grind (arith, lt-ltb, same_Some, first_length_separated, le-ltb, none-some)

pub first_length_nowhere : (text : List BidiUnit) → position (λ u. is_separator u.class) text ≡ None →
    first_length text ≡ length text
first_length_nowhere text e = grind (arith, lt-ltb, none-some, first_length_all)

pub paragraphs_of_split : (text : List BidiUnit) → 0 < length text →
    paragraphs_of text ≡ take (first_length text) text ∷ paragraphs_of (drop (first_length text) text)
paragraphs_of_split [] h = absurd (omega arith)
paragraphs_of_split (unit ∷ units) h = paragraphs_of-cons unit units

-- one unit in front adds at most one paragraph
pub length-begin_with : (unit : BidiUnit) (pieces : List (List BidiUnit)) →
    length (begin_with unit pieces) ≤ length pieces + 1
length-begin_with unit [] = omega arith
length-begin_with unit (piece ∷ pieces) =
    elim (cases_Bool (is_separator unit.class)) [
      | inl separates ↦ rw separates (omega arith)
      | inr plain ↦
          rw plain (omega arith)
    ]

-- a text has no more paragraphs than units
pub no_more_paragraphs : (text : List BidiUnit) → length (paragraphs_of text) ≤ length text
no_more_paragraphs [] = omega arith
no_more_paragraphs (unit ∷ units) =
    omega (arith, length-begin_with unit (paragraphs_of units), no_more_paragraphs units)
