use Rattle.std.proofs.Common.{◌≡◌, take}
use Rattle.std.specs.Char.{IsScalar}
use Rattle.sources.specs.Kinds.{AllAre}
use Rattle.room.proofs.text.codes_of.Given as goal

abbrev pub invariant-loop-c : goal.invariant-loop-c
invariant-loop-c l = (l.codes.items ≡ take l.c-index l.chars) × AllAre IsScalar l.codes.items
