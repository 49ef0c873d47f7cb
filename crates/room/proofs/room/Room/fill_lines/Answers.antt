use Rattle.std.proofs.Common.{◌∙◌, ◌≤◌, ap, arith, length, map, sym}
use Rattle.std.proofs.lemmas.List.{take_all}
use Rattle.room.specs.Looking.{bounds_of, in_units}
use Rattle.room.proofs.room.Room.fill_lines.Goals as goal

pub returns : goal.returns
returns c =
    let l = c.loop-k in
    let lines = c.args.self.now.layout.lines in
    let all : length l.out ≤ l.k = omega (arith, c.loop-k-test.false, l.auto.out) in
    let all_lines : length lines ≤ l.k = omega (arith, c.loop-k-test.false, l.auto.out, c.requires) in
    sym (take_all l.k l.out all) ∙ l.invariant ∙
    ap (map (λ line. bounds_of (in_units c.args.self.now line))) (take_all l.k lines all_lines)
