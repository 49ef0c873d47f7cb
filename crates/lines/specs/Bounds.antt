-- The lines of a text, as their bounds and the list of their orders.
use Rattle.std.specs.Prelude.{Option, ℕ, ◌+◌, ◌-◌, ◌<◌, ◌≤◌, List, length, map, slice_index_or, slice_range}
use Rattle.std.specs.List.{All}
use Rattle.units.specs.Layout.{LineLayout}
use Rattle.units.specs.Positions.{positions_from}
use Rattle.lines.specs.declared.bounds.Bound.{Bound}

-- the first bound of each text
abbrev pub first_bound : Bound
first_bound = record { position = 0; order = 0 }

-- the bound with the number k: the line with the number k begins there, and the one before it ends there
abbrev pub bound_at : List Bound → ℕ → Bound
bound_at bounds k = slice_index_or bounds k first_bound

-- L2: the line between two bounds, with its order
abbrev pub line_between : List ℕ → Bound → Bound → LineLayout
line_between orders from to = record {
  start = from.position;
  end = to.position;
  order =
      slice_range orders from.order to.order;
}

-- the line with the number k
abbrev pub line_in : List ℕ → List Bound → ℕ → LineLayout
line_in orders bounds k = line_between orders (bound_at bounds k) (bound_at bounds (k + 1))

-- the lines, one between each two consecutive bounds
abbrev pub lines_in : List ℕ → List Bound → List LineLayout
lines_in orders bounds = map (line_in orders bounds) (positions_from 0 (length bounds - 1))

-- the second bound is not before the first
pub record Follows (from to : Bound) : Type 0 where
  pub position : from.position ≤ to.position
  pub order : from.order ≤ to.order

-- the bounds rise within the text and its orders, and the orders list positions of the text
pub record AreBounds (levels : List (Option ℕ)) (orders : List ℕ) (bounds : List Bound) : Type 0 where
  pub some : 0 < length bounds
  pub rising : (k : ℕ) → k + 1 < length bounds → Follows (bound_at bounds k) (bound_at bounds (k + 1))
  pub inside : (k : ℕ) → k < length bounds → (bound_at bounds k).position ≤ length levels
  pub written : (k : ℕ) → k < length bounds → (bound_at bounds k).order ≤ length orders
  pub places : All (λ p. p < length levels) orders
