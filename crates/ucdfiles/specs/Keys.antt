-- BD16: keys of brackets.
use Rattle.std.specs.Prelude.{◌≡◌, ◌<◌, ℕ, Option, Some, List, [], ◌∷◌, length, map, All}
use Rattle.std.specs.Map.{lookup}
use Rattle.std.specs.Str.{bytes_eq}
use Rattle.std.specs.Option.{unwrap_or}
use Rattle.unicode_normalization.specs.Forms.{nfd}
use Rattle.units.specs.declared.bracket.Bracket.{Bracket}
use Rattle.units.specs.declared.bracket.Key.{Key}
use Rattle.ucdfiles.specs.declared.span.Span.{Span}
use Rattle.ucdfiles.specs.declared.sided_bracket.SidedBracket.{SidedBracket}
use Rattle.ucdfiles.specs.Spans.{revalued}
use Rattle.ucdfiles.specs.PairFiles.{bracket_with}

-- the number of a decomposition, if it has one
abbrev pub number_in : List (List ℕ × ℕ) → List ℕ → Option ℕ
number_in numbers decomposition = lookup (bytes_eq decomposition) numbers

-- no two decompositions have one number, and each number is below their count
pub record IsNumbering (numbers : List (List ℕ × ℕ)) : Type 0 where
  pub apart : (a b : List ℕ) (n : ℕ) → number_in numbers a ≡ Some n → number_in numbers b ≡ Some n → a ≡ b
  pub below : (a : List ℕ) (n : ℕ) → number_in numbers a ≡ Some n → n < length numbers

-- each decomposition that had a number still has it
abbrev pub Keeps : List (List ℕ × ℕ) → List (List ℕ × ℕ) → Type 0
Keeps old new = (a : List ℕ) (n : ℕ) → number_in old a ≡ Some n → number_in new a ≡ Some n

-- the key of a character: the number of its decomposition
abbrev pub key_in : List (List ℕ × ℕ) → ℕ → Key
key_in numbers a = record { 0 = unwrap_or (number_in numbers (nfd (a ∷ []))) 0 }

-- the bracket with the key of its character
abbrev pub keyed_value : (ℕ → Key) → SidedBracket → Bracket
keyed_value key stated = bracket_with stated.side (key stated.keyed_by)

-- the same of a span
abbrev pub keyed_span : (ℕ → Key) → Span SidedBracket → Span Bracket
keyed_span key span = revalued (keyed_value key) span

-- the character's decomposition has a number
abbrev pub IsNumbered : List (List ℕ × ℕ) → ℕ → Type 0
IsNumbered numbers a = (n : ℕ) × (number_in numbers (nfd (a ∷ [])) ≡ Some n)

-- each character of these spans has a number
abbrev pub AreNumbered : List (List ℕ × ℕ) → List (Span SidedBracket) → Type 0
AreNumbered numbers spans = All (λ (s : Span SidedBracket). IsNumbered numbers s.value.keyed_by) spans

-- these brackets have the keys of their characters
pub record AreKeyed (spans : List (Span SidedBracket)) (brackets : List (Span Bracket)) : Type 0 where
  pub numbers : List (List ℕ × ℕ)
  pub numbering : IsNumbering numbers
  pub numbered : AreNumbered numbers spans
  pub keyed : brackets ≡ map (keyed_span (key_in numbers)) spans
