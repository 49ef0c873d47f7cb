-- The columns contain no positions but those of their paragraph.
use Rattle.std.specs.Prelude.{ℕ, ◌<◌, IfSome}
use Rattle.std.specs.List.{All}
use Rattle.resolve.specs.Pairs.{closer_in}
use Rattle.rule_columns.specs.Columns.{ColumnsOf}

-- the positions in the columns are positions of a paragraph with `size` positions
pub record NamesInside (columns : ColumnsOf) (size : ℕ) : Type 0 where
  pub first_strong : IfSome columns.explicit.first_strong (λ p. p < size)
  pub closers : (p : ℕ) → p < size → IfSome (closer_in columns.closers p) (λ q. q < size)
  pub order : All (λ p. p < size) columns.shown.order
