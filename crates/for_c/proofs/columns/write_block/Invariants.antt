use Rattle.std.proofs.Common.{◌≡◌, drop, length, map, take}
use Rattle.for_c.specs.LevelBytes.{level_byte}
use Rattle.for_c.proofs.columns.write_block.Given as goal

-- the bytes so far are those of the block's levels
abbrev pub invariant-loop-j : goal.invariant-loop-j
invariant-loop-j l =
    (length l.bytes ≡ 16) × (take l.j l.bytes ≡ map level_byte (take l.j (drop l.k l.levels)))
