-- Lines of a text: which have a character, and that none is too long for a row.
use Rattle.std.proofs.Common.{◌≡◌, ℕ, ◌+◌, ◌<◌, ◌≤◌, Bool, true, false, Option, Some, None, cond, List, [], ◌∷◌, length, map, refl, ap, subst, arith}
use Rattle.std.specs.Prelude.{filter}
use Rattle.std.specs.Borrow.{Bor}
use Rattle.std.specs.List.{All, position_from}
use Rattle.std.proofs.lemmas.Bool.{ltb-false}
use Rattle.std.proofs.lemmas.List.Elements.{All-nil, All-cons, All-head, All-tail}
use Rattle.units.specs.Cuts.{pieces_after}
use Rattle.printing.proofs.Passing.{HasPrintedUpTo}
use Rattle.rows.specs.Placing.{has_some}
use Rattle.rows.specs.RowTexts.{IsRowText, longest_row}
use Rattle.rows.specs.TextLines.{is_long, kind_of, letter_named}
use Rattle.rows.specs.declared.naming.Naming.{Naming}

-- the lines of the rest of a text
abbrev pub remaining_lines : Option (Bor (List ℕ)) → List (List ℕ)
remaining_lines remaining = pieces_after 10 remaining

-- the size of the rest: its number of characters plus one, or 0 if no line remains
abbrev pub remaining_size : Option (Bor (List ℕ)) → ℕ
remaining_size None = 0
remaining_size (Some rest) = length rest.now + 1

-- a line's letters are a text of a row
abbrev pub IsRowLine : Naming → List ℕ → Type 0
IsRowLine naming line = IsRowText (kind_of naming) (map (letter_named naming) line)

-- a line is no longer than a row
abbrev pub IsShort : List ℕ → Type 0
IsShort line = length line ≤ longest_row

following-none : (b : Bool) (number : ℕ) (later : Option ℕ) → cond b (Some number) later ≡ None →
    (b ≡ false) × (later ≡ None)
following-none true number later e = absurd (cc)
following-none false number later e = (refl, e)

pub none-longer : (number : ℕ) (lines : List (List ℕ)) → position_from is_long number lines ≡ None → All IsShort lines
none-longer number [] e = All-nil IsShort
none-longer number (line ∷ lines) e =
    let none = following-none (is_long line) number (position_from is_long (number + 1) lines) e in
    All-cons IsShort line lines (ltb-false longest_row (length line) none.0) (none-longer (number + 1) lines none.1)

pub some-line : (line : List ℕ) (lines more : List (List ℕ)) → lines ≡ line ∷ more → 0 < length line →
    filter has_some lines ≡ line ∷ filter has_some more
some-line [] lines more e some = absurd (omega (arith, some))
some-line (code ∷ line) lines more e some = ap (filter has_some) e

pub empty-line : (line : List ℕ) (lines more : List (List ℕ)) → lines ≡ line ∷ more → length line ≡ 0 →
    filter has_some lines ≡ filter has_some more
empty-line [] lines more e none = ap (filter has_some) e
empty-line (code ∷ line) lines more e none = absurd (omega (arith, none))

-- the first of the remaining lines is short, and so are the others
pub short-first : (line : List ℕ) (lines more : List (List ℕ)) → lines ≡ line ∷ more → All IsShort lines →
    IsShort line × All IsShort more
short-first line lines more e short =
    let both : All IsShort (line ∷ more) = subst (All IsShort) e short in
    (All-head IsShort line more both, All-tail IsShort line more both)

-- what was printed is what comes before an equal rest
pub same-passed : (text : List ℕ → List ℕ) (old new : Option (List ℕ)) (whole rest others : List (List ℕ)) →
    rest ≡ others
    → HasPrintedUpTo old new text whole rest → HasPrintedUpTo old new text whole others
same-passed text old new whole rest others e passed = subst (HasPrintedUpTo old new text whole) e passed
