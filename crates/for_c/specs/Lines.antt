-- Lines, as C gets them.
use Rattle.room.specs.declared.lookups.Line.{Line}
use Rattle.for_c.specs.declared.line.BidiLine.{BidiLine}

-- a line as C gets it
abbrev pub line_for_c : Line → BidiLine
line_for_c line = record { start = line.start; end = line.end; shown = line.shown }
