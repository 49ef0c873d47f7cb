-- The order of a line whose remaining positions all have one level.
use Rattle.std.proofs.Common.{◌≡◌, ℕ, ◌+◌, ◌<◌, ◌≤◌, ◌%◌, Option, List, ap, ◌∙◌, arith}
use Rattle.std.specs.Prelude.{reverse}
use Rattle.units.specs.Reordering.{line_order}
use Rattle.lines.specs.LinePositions.{IsAmong, IsAtOneLevel, remaining}
use Rattle.lines.proofs.Turns.{Before, ListsRemaining, Ordered, least, turns}
use Rattle.lines.proofs.Least.{least-attained}
use Rattle.lines.proofs.Lists.{has_reverse, has_reversed, ordered_reverse}
use Rattle.lines.proofs.Levels.{AllBelow, LowestOdd, finished, rising_before}
use Rattle.lines.proofs.LineOrder.{in_order_same, line_order-in_order}
use Rattle.lines.proofs.Remaining.{remaining-rising}

-- at an even level, the positions are in the order of the text
pub uniform-rising : (levels : List (Option ℕ)) (start end v : ℕ) → start ≤ end → v % 2 ≡ 0 →
    IsAtOneLevel levels start end v → line_order levels start end ≡ remaining levels start end
uniform-rising levels start end v le even u =
    let r = remaining-rising levels start end le in
    let below : AllBelow levels start end (v + 1) = record {
      below = λ p w low high h. let e : w ≡ v =
          u.same p w low high h in omega arith;
    } in
    let lowest : LowestOdd levels start end (v + 1) = record {
      odd = omega arith;
      even = λ p w low high h less. let e : w ≡ v = u.same p w low high h in ap (λ n. n % 2) e ∙ even;
    } in
    in_order_same levels start end (line_order levels start end) (remaining levels start end)
    (line_order-in_order levels start end le)
    (finished levels start end (v + 1) (remaining levels start end) r.holds lowest
    (rising_before levels start end (v + 1) (remaining levels start end) r.holds below r.ordered))

-- two positions of the line are swapped at their level
turned_round : (levels : List (Option ℕ)) (start end v a b : ℕ) →
    ListsRemaining levels start end (remaining levels start end) → IsAtOneLevel levels start end v →
    IsAmong (remaining levels start end) a → IsAmong (remaining levels start end) b → a < b → Before levels v b a
turned_round levels start end v a b h u ha hb lt =
    let sa = h.sound a ha in
    let sb = h.sound b hb in
    let t = least-attained levels a b sa.2.0 (omega arith) sa.2.1 in
    let m : least levels a b ≡ v =
    u.same t.at (least levels a b) (omega (arith, t.from, sa.0)) (omega (arith, t.to, sb.1)) t.is in
    record {
      apart = omega arith;
      rising = λ up. absurd (omega arith);
      falling = λ up. let e : turns levels v a b ≡ 1 = omega arith in ap (λ n. n % 2) e;
    }

-- at an odd level, the positions are in reverse order
pub uniform-falling : (levels : List (Option ℕ)) (start end v : ℕ) → start ≤ end → v % 2 ≡ 1 →
    IsAtOneLevel levels start end v → line_order levels start end ≡ reverse (remaining levels start end)
uniform-falling levels start end v le odd u =
    let xs = remaining levels start end in
    let r = remaining-rising levels start end le in
    let holds : ListsRemaining levels start end (reverse xs) = record {
      sound = λ p hp. r.holds.sound p (has_reverse xs p hp);
      complete = λ p w low high h. has_reversed xs p (r.holds.complete p w low high h);
    } in
    let lowest : LowestOdd levels start end v = record {
      odd = odd;
      even = λ p w low high h less. let e : w ≡ v = u.same p w low high h in absurd (omega arith);
    } in
    let turned : Ordered (Before levels v) (reverse xs) =
    ordered_reverse (λ a b. a < b) (Before levels v) xs r.ordered (λ a b ha hb lt.
    turned_round levels start end v a b r.holds u ha hb lt) in
    in_order_same levels start end (line_order levels start end) (reverse xs)
    (line_order-in_order levels start end le)
    (finished levels start end v (reverse xs) holds lowest turned)
