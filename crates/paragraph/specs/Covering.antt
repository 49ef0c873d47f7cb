-- The sequences of a paragraph (BD13), of which no two share a position, and the levels that they give it.
use Rattle.std.specs.Prelude.{Option, ℕ, Bool, ◌<◌, ◌≤◌, ◌≡◌, if◌then◌else◌, List, length, take}
use Rattle.std.specs.List.{All, flat_map}
use Rattle.units.specs.Classes.{classes_of}
use Rattle.units.specs.Layout.{current_of, levels_in, value_beside}
use Rattle.units.specs.Runs.{SequenceView}
use Rattle.units.specs.declared.bracket.Unit.{Unit as BidiUnit}
use Rattle.units.specs.declared.class.Class.{Class}
use Rattle.sequences.specs.Once.{times}
use Rattle.resolve.specs.Raised.{resolved_at}

-- X1 to X8: the classes before W1: the own ones of a flat paragraph, else the current ones
abbrev pub classes_before : Bool → List BidiUnit → List (Option (ℕ × Class)) → List Class
classes_before flat us explicit = if flat then classes_of us else current_of (take (length us) explicit)

-- the positions of these sequences, sequence by sequence
abbrev pub positions_in : List SequenceView → List ℕ
positions_in all = flat_map (λ s. s.positions) all

-- sequences of a paragraph of `extent` positions: no position is in two of them, or twice in one
pub record AreDisjoint (extent : ℕ) (all : List SequenceView) : Type 0 where
  pub extents : All (λ s. s.extent ≡ extent) all
  pub within : All (λ s. All (λ p. p < extent) s.positions) all
  pub once : (p : ℕ) → p < extent → times (positions_in all) p ≤ 1
  pub few : length all ≤ extent
  pub fit : length (positions_in all) ≤ extent

-- BD13: each sequence has a position
abbrev pub HavePositions : List SequenceView → Type 0
HavePositions all = All (λ s. 0 < length s.positions) all

-- W1 to I2: each position has the level that these sequences give it, from the classes before W1 and with at most this
-- number of open brackets; it has none if it is in no sequence
abbrev pub HasLevelsBy : ℕ → List BidiUnit → List Class → List SequenceView → List (Option ℕ) → Type 0
HasLevelsBy most_open us before all levels =
    (p : ℕ) → p < length us → resolved_at levels p ≡ value_beside (flat_map (levels_in most_open us before) all) p
