-- The contents of a layout.
use Rattle.std.specs.Prelude.{◌≡◌, Option, ℕ, List, [], map, slice_index_or, slice_range}
use Rattle.units.specs.Isolates.{level_of_para}
use Rattle.units.specs.Layout.{LineLayout, TextLayout}
use Rattle.units.specs.Reordering.{shown_of}
use Rattle.units.specs.declared.level.ParaLevel.{ParaLevel}
use Rattle.lines.specs.Bounds.{lines_in}
use Rattle.lines.specs.declared.bounds.Bound.{Bound}
use Rattle.lines.specs.declared.layout.Layout.{Layout}
use Rattle.lines.specs.declared.layout.Line.{Line}

-- the value of a read past the last line, which no caller requests
abbrev pub no_line : LineLayout
no_line = record { start = 0; end = 0; order = [] }

-- P2 to L2: a layout of these columns
abbrev pub layout_view : List ParaLevel → List (Option ℕ) → List ℕ → List Bound → TextLayout
layout_view paras levels orders bounds =
    record { paras = map level_of_para paras; levels = levels; lines = lines_in orders bounds }

-- P2 to L2: a layout, as its paragraphs' levels, its positions' levels, and its lines
abbrev pub view_of : Layout → TextLayout
view_of layout = layout_view layout.paras.now layout.levels.now layout.orders.now layout.bounds.now

-- the line with the number k
abbrev pub line_at : TextLayout → ℕ → LineLayout
line_at layout k = slice_index_or layout.lines k no_line

-- L4: the characters of the line with the number k from left to right, from the mirrored characters and the characters
-- of the text
abbrev pub line_shown : (ℕ → Option ℕ) → List ℕ → TextLayout → ℕ → List ℕ
line_shown images chars layout k = shown_of images layout.levels chars (line_at layout k).order

-- L1, L2: the borrowed line is the line with the number k
pub record IsLineAt (layout : TextLayout) (k : ℕ) (line : Line) : Type 0 where
  pub shows : line_at layout k ≡ record { start = line.start; end = line.end; order = line.order.now }
  pub levels : line.levels.now ≡ slice_range layout.levels line.start line.end
