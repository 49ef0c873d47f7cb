-- The levels of all positions of a line, also of those that X9 removed.
use Rattle.std.specs.Prelude.{Option, None, ℕ, ◌-◌, List, unwrap_or, slice_index_or}
use Rattle.std.specs.Option.{option_map_or}
use Rattle.units.specs.Positions.{first_from}
use Rattle.lines.specs.LinePositions.{is_remaining}

-- X9: the first remaining position from p on, in a line that ends before end
abbrev pub next_remaining : List (Option ℕ) → ℕ → ℕ → Option ℕ
next_remaining levels end p = first_from (is_remaining levels) p (end - p)

-- the level of a position in a line that ends before end; a removed position has that of the next remaining position in
-- the line, or that of the paragraph if there is none
unfoldable pub effective_level : List (Option ℕ) → ℕ → ℕ → ℕ → ℕ
effective_level levels para_level end p =
    option_map_or (λ q. unwrap_or (slice_index_or levels q None) para_level) (next_remaining levels end p) para_level
