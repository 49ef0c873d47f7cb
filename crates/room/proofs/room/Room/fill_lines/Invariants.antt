use Rattle.std.proofs.Common.{◌≡◌, map, take}
use Rattle.room.specs.Looking.{bounds_of, in_units}
use Rattle.room.proofs.room.Room.fill_lines.Given as goal

-- the lines before k are written
abbrev pub invariant-loop-k : goal.invariant-loop-k
invariant-loop-k l = take l.k l.out ≡ map (λ line. bounds_of (in_units l.self line)) (take l.k l.self.layout.lines)
