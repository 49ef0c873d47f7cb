use Rattle.std.proofs.Common.{◌≡◌, ◌≤◌, ◌+◌, length}
use Rattle.std.specs.List.{position_from}
use Rattle.rows.specs.TextLines.{first_long_line, is_long}
use Rattle.rows.proofs.LineLists.{remaining_lines, remaining_size}
use Rattle.rows.proofs.text_lines.first_long_line.Given as goal

abbrev pub invariant-loop-remaining : goal.invariant-loop-remaining
invariant-loop-remaining l = record {
  same : position_from is_long l.number (remaining_lines l.remaining) ≡ first_long_line l.text;
  bound : l.number + remaining_size l.remaining ≤ length l.text + 2;
}

abbrev pub decreases-loop-remaining : goal.decreases-loop-remaining
decreases-loop-remaining l = remaining_size l.remaining
