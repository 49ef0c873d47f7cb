use Rattle.std.proofs.Common.{◌≡◌, ◌*◌, map, take, drop}
use Rattle.for_c.specs.LevelBytes.{level_byte}
use Rattle.for_c.proofs.columns.write_blocks.Given as goal

-- the levels of the blocks before this one are written
abbrev pub invariant-loop-block : goal.invariant-loop-block
invariant-loop-block l =
    (take (l.block * 16) l.out ≡ map level_byte (take (l.block * 16) l.levels))
    × (drop (l.block * 16) l.out ≡ drop (l.block * 16) l.fn.out)
