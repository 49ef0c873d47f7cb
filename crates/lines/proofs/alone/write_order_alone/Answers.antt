use Rattle.std.proofs.Common.{◌≡◌, ◌<◌, List, ℕ, ap, arith, get_or, length, subst, take}
use Rattle.units.specs.Reordering.{line_order}
use Rattle.lines.proofs.Theorem.{line_order-places}
use Rattle.lines.proofs.alone.write_order_alone.Goals as goal

pub move_to-requires : goal.move_to-requires
move_to-requires g c = λ k d low.
    let levels = c.args.levels.now in
    let n : ℕ = length levels in
    let count = c.write_order-count in
    let is : take count.result count.new.order ≡ line_order levels 0 n = count.ensures.order in
    let inside : get_or (line_order levels 0 n) k d < n =
    line_order-places levels 0 n (omega arith) (omega arith) k d (subst (λ (xs : List ℕ). k < length xs) is low) in
    omega (arith, inside, ap (λ (xs : List ℕ). get_or xs k d) is, c.requires.small)
