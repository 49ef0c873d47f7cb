-- A truth value as a byte: 1 if it is true, else 0.
use Rattle.std.proofs.Common.{◌≡◌, ◌≤◌, Bool, true, false, cond, arith, refl}
use mir.Val.{bool_byte}

pub bool_byte-is : (b : Bool) → bool_byte b ≡ cond b 1 0
bool_byte-is true = refl
bool_byte-is false = refl

pub bool_byte-at_most_one : (b : Bool) → bool_byte b ≤ 1
bool_byte-at_most_one true = omega arith
bool_byte-at_most_one false = omega arith
