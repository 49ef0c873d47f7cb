use Rattle.std.proofs.Common.{take}
use Rattle.units.proofs.CodePoints.{Reads}
use Rattle.units.proofs.text.code_point.code_point.Given as goal

abbrev pub invariant-loop-byte : goal.invariant-loop-byte
invariant-loop-byte l = Reads (take l.byte-index l.field) l.byte-index l.value
