-- The results for a text before L1 and L2, at the fronts of its columns.
use Rattle.std.specs.Prelude.{ℕ, ◌≡◌, ◌≤◌, false, true, List, length, map}
use Rattle.units.specs.Isolates.{level_of_para}
use Rattle.units.specs.Layout.{para_levels_of, text_levels}
use Rattle.units.specs.Limits.{LimitsOf}
use Rattle.units.specs.declared.bracket.Unit.{Unit as BidiUnit}
use Rattle.units.specs.declared.level.Direction.{Direction}
use Rattle.lines.specs.Columns.{levels_filled, para_ends_filled, paras_filled}
use Rattle.lines.specs.Unchanged.{each_keeps_level}
use Rattle.lines.specs.LineEnds.{AreAllLineEnds, AreAllParagraphEnds}
use Rattle.lines.specs.declared.bounds.Bound.{Bound}
use Rattle.lines.specs.declared.columns.TextColumns.{TextColumns}
use Rattle.lines.specs.declared.resolving.ResolvedText.{ResolvedText}

-- P1 to I2: the levels of its paragraphs, their ends, the resolved levels of its positions, and the ends of its lines
pub record IsResolved (limits : LimitsOf) (text : List BidiUnit) (direction : Direction) (breaks : List ℕ)
    (resolved : ResolvedText) (columns : TextColumns) (bounds : List Bound) : Type 0 where
  pub paras : map level_of_para (paras_filled resolved.paragraphs columns) ≡ para_levels_of text direction
  pub para_ends : AreAllParagraphEnds text (para_ends_filled resolved.paragraphs columns)
  pub few : resolved.paragraphs ≤ length text
  pub levels : levels_filled (length text) columns ≡ text_levels limits text direction
  pub ends : AreAllLineEnds text breaks resolved.lines bounds
  pub few_lines : resolved.lines ≤ length text
  pub known : resolved.uniform ≡ each_keeps_level text direction

-- what is known about a text that is one paragraph and one line, and whose paragraph keeps its level
abbrev pub one_line : ResolvedText
one_line = record { paragraphs = 1; lines = 1; uniform = true; complete = false; segmented = true }

-- it is one paragraph, which keeps its level, and one line
pub record IsOneLine (resolved : ResolvedText) : Type 0 where
  pub paragraphs : resolved.paragraphs ≡ 1
  pub lines : resolved.lines ≡ 1
  pub uniform : resolved.uniform ≡ true
