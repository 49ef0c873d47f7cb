use Rattle.std.proofs.Common.{take}
use Rattle.units.proofs.Numbers.{ReadsNumber}
use Rattle.units.proofs.text.number.number.Given as goal

abbrev pub invariant-loop-byte : goal.invariant-loop-byte
invariant-loop-byte l = ReadsNumber (take l.byte-index l.item) l.greatest l.value
