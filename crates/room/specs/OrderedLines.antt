-- The lines of a layout are in order.
use Rattle.std.specs.Prelude.{ℕ, ◌≡◌, ◌<◌, Option, List, length}
use Rattle.units.specs.Layout.{LineLayout, TextLayout}
use Rattle.units.specs.Reordering.{line_order}
use Rattle.lines.specs.Layouts.{line_at}

-- L2: the line begins within the text, and has the order of its levels
pub record HasOrder (levels : List (Option ℕ)) (line : LineLayout) : Type 0 where
  pub begins : line.start < length levels
  pub ordered : line.order ≡ line_order levels line.start line.end

-- L2: the same for each line of the layout
abbrev pub LinesHaveOrder : TextLayout → Type 0
LinesHaveOrder layout = (k : ℕ) → k < length layout.lines → HasOrder layout.levels (line_at layout k)
