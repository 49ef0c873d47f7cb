-- Brackets of class ON: no other code point is a bracket.
use Rattle.std.proofs.Common.{arith, ◌≡◌, ◌<◌, ◌≤◌, ℕ, true, List, [], length, get_or}
use Rattle.std.specs.Option.{unwrap_or}
use Rattle.units.specs.declared.bracket.Bracket.{Bracket}
use Rattle.units.specs.declared.bracket.Bracket.TheVariants.{No}
use Rattle.units.specs.declared.class.Class.{Class}
use Rattle.units.specs.declared.class.Class.TheVariants.{ON}
use Rattle.ucdfiles.specs.declared.span.Span.{Span}
use Rattle.ucdfiles.specs.Spans.{holds, value_in}
use Rattle.ucdfiles.specs.Stages.{Stages, stage_at}
use Rattle.ucdfiles.specs.Tables.{class_by, bracket_by, IsTableOf, AreNeutral}
use Rattle.ucdfiles.proofs.Rising.{find-none}

-- a table made of spans
pub is-table : (spans : List (Span Bracket)) (table : Stages Bracket) →
    ((c : ℕ) (d : Bracket) → c ≤ 0x10FFFF → stage_at table c d ≡ unwrap_or (value_in spans [] c) No) →
    IsTableOf spans table
unfolding bracket_by
is-table spans table looks c le = looks c No le

-- the code points of the spans before an index have class ON
abbrev pub HoldsNeutrals : Stages Class → List (Span Bracket) → ℕ → Type 0
HoldsNeutrals classes spans n = (k : ℕ) (d : Span Bracket) → k < n → (c : ℕ) → holds c (get_or spans k d) ≡ true →
    class_by classes c ≡ ON

pub neutrals-all : (classes : Stages Class) (spans : List (Span Bracket)) (table : Stages Bracket) →
    IsTableOf spans table → HoldsNeutrals classes spans (length spans) → AreNeutral classes table
neutrals-all classes spans table is neutral c le other = grind (arith, find-none)
