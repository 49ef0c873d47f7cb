use Rattle.std.proofs.Common.{◌≡◌, ◌+◌, length}
use Rattle.std.specs.List.{count_by}
use Rattle.printing.specs.TextPlaces.{ends_line}
use Rattle.printing.proofs.place.count_ended.Given as goal

abbrev pub invariant-loop-rest : goal.invariant-loop-rest
invariant-loop-rest l = l.ended + count_by ends_line l.rest ≡ count_by ends_line l.bytes

abbrev pub decreases-loop-rest : goal.decreases-loop-rest
decreases-loop-rest l = length l.rest
