use Rattle.std.proofs.Common.{take}
use Rattle.rows.specs.Letters.{IsLetterOf}
use Rattle.rows.specs.TextLines.{kind_of, letter_named}
use Rattle.rows.proofs.Looked.{AreLettersSoFar}
use Rattle.rows.proofs.print_lines.fill_letters.Given as goal

abbrev pub invariant-loop-place : goal.invariant-loop-place
invariant-loop-place l =
    AreLettersSoFar (IsLetterOf (kind_of l.naming)) (letter_named l.naming) l.line l.place (take l.place l.row)
