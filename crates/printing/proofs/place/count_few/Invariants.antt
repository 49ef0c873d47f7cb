use Rattle.std.proofs.Common.{◌≡◌, take}
use Rattle.std.specs.List.{count_by}
use Rattle.printing.specs.TextPlaces.{ends_line}
use Rattle.printing.proofs.place.count_few.Given as goal

abbrev pub invariant-loop-byte : goal.invariant-loop-byte
invariant-loop-byte l = l.ended ≡ count_by ends_line (take l.byte-index l.bytes)
