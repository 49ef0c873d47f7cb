use Rattle.std.proofs.Common.{◌≡◌, ◌+◌, ◌*◌, [], ◌∷◌, arith}
use Rattle.decoding.proofs.KnownChars.{code_of_two, is_of}
use Rattle.decoding.proofs.known.of_two.Goals as goal

pub overflow_sub-x : goal.overflow_sub-x
overflow_sub-x c = let a = c.args in (code_of_two a.x a.y c.requires.0 c.requires.1).0

pub overflow_sub-y : goal.overflow_sub-y
overflow_sub-y c = let a = c.args in (code_of_two a.x a.y c.requires.0 c.requires.1).1

pub returns : goal.returns
returns c =
    let a = c.args in
    let code = c.from.result * 64 + c.from-2.result in
    let is = code_of_two a.x a.y c.requires.0 c.requires.1 in
    let same : c.requires.0 ≡ code = omega (arith, is.2, c.from.ensures, c.from-2.ensures) in
    is_of c.from_u32.result code c.requires.0 c.unwrap.result (a.x ∷ a.y ∷ []) c.from_u32.ensures.value c.unwrap.ensures
    same c.requires.1
