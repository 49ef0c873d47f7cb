-- The contents of a span of a text.
use Rattle.std.specs.Prelude.{ℕ, ◌-◌, List}
use Rattle.units.specs.Reordering.{line_order}
use Rattle.lines.specs.LinePositions.{IsAtOneLevel, remaining}
use Rattle.lines.specs.RunLinks.{IsLevelRun, IsLineChain}
use Rattle.lines.specs.declared.runs.Chain.{Chain}
use Rattle.lines.specs.declared.runs.Run.{Run}
use Rattle.lines.specs.declared.spans.LineSpan.{LineSpan}

-- the number of its positions, removed ones included
abbrev pub units_in_span : LineSpan → ℕ
units_in_span span = span.end - span.start

-- X9: its remaining positions, rising
abbrev pub remaining_in : LineSpan → List ℕ
remaining_in span = remaining span.levels.now span.start span.end

-- L2: its remaining positions from left to right
abbrev pub order_of : LineSpan → List ℕ
order_of span = line_order span.levels.now span.start span.end

-- L2: all its remaining positions have one level
abbrev pub IsSpanAtLevel : LineSpan → ℕ → Type 0
IsSpanAtLevel span level = IsAtOneLevel span.levels.now span.start span.end level

-- the span is a run
abbrev pub IsRun : LineSpan → Type 0
IsRun span = IsLevelRun span.levels.now span.start span.end

-- L2: the chain has the runs of the span, in their order on its line
abbrev pub IsChainOfSpan : LineSpan → List Run → Chain → Type 0
IsChainOfSpan span runs chain = IsLineChain span.levels.now runs span.start span.end chain
