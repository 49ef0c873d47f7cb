-- BD14 to BD16: the bracket that a bracket pairs with.
use Rattle.std.specs.Prelude.{ℕ, ◌≡◌, ◌==◌, ◌<◌, ◌⊎◌, Bool, true, false, if◌then◌else◌, Option, None, Some, IfSome, List, [], ◌∷◌}
use Rattle.std.specs.Char.{IsScalar}
use Rattle.unicode_normalization.specs.Decompose.{decompose_canonical}
use Rattle.units.specs.declared.bracket.Bracket.{Bracket}
use Rattle.units.specs.declared.bracket.Bracket.TheVariants.{Open, Close}
use Rattle.ucdfiles.specs.Tables.{TablesOf, bracket_by, mirror_by}

-- one of the two brackets opens and the other closes, and their keys are equal
abbrev pub are_paired : Bracket → Bracket → Bool
are_paired (Open key) (Close closed) = key.0 == closed.0
are_paired (Close key) (Open opened) = key.0 == opened.0
are_paired _ _ = false

-- the one character of a list, or another one
abbrev pub only_of : List ℕ → ℕ → ℕ
only_of (only ∷ []) c = only
only_of _ c = c

-- the one character that this one is canonically equivalent to by its decomposition, or itself
abbrev pub canonical_of : ℕ → ℕ
canonical_of c = only_of (decompose_canonical c) c

-- the character, if there is one and the bracket pairs with it
abbrev pub if_paired : TablesOf → Bracket → Option ℕ → Option ℕ
if_paired tables bracket None = None
if_paired tables bracket (Some image) =
    if are_paired bracket (bracket_by tables.brackets image) then Some image else None

-- the mirrored character of what a character is canonically equivalent to, if the bracket pairs with it
abbrev pub mirrored_partner : TablesOf → ℕ → Bracket → Option ℕ
mirrored_partner tables c bracket = if_paired tables bracket (mirror_by tables.mirrors (canonical_of c))

-- the code point is a bracket that pairs with this one; it is the mirrored one, if that pairs with it, and else the
-- least
pub record IsPartner (tables : TablesOf) (code partner : ℕ) : Type 0 where
  pub bracket : IsScalar code
  pub scalar : IsScalar partner
  pub paired : are_paired (bracket_by tables.brackets code) (bracket_by tables.brackets partner) ≡ true
  pub mirrored : IfSome (mirrored_partner tables code (bracket_by tables.brackets code)) (λ image. partner ≡ image)
  pub least : mirrored_partner tables code (bracket_by tables.brackets code) ≡ None → (other : ℕ) → IsScalar other →
      other < partner
      → are_paired (bracket_by tables.brackets code) (bracket_by tables.brackets other) ≡ false

-- no code point pairs with this one
pub record HasNoPartner (tables : TablesOf) (code : ℕ) : Type 0 where
  pub none : IsScalar code → (other : ℕ) → IsScalar other →
      are_paired (bracket_by tables.brackets code) (bracket_by tables.brackets other) ≡ false

-- the bracket that the code point pairs with, or 0 if there is none
abbrev pub IsPairedBracket : TablesOf → ℕ → ℕ → Type 0
IsPairedBracket tables code partner = IsPartner tables code partner ⊎ ((partner ≡ 0) × HasNoPartner tables code)
