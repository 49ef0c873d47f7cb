use Rattle.std.proofs.Common.{◌≡◌, ◌+◌, ◌*◌, [], ◌∷◌, arith}
use Rattle.decoding.proofs.KnownChars.{code_of_three, is_of, is_some}
use Rattle.decoding.proofs.known.of_three.Goals as goal

pub overflow_sub-x : goal.overflow_sub-x
overflow_sub-x c = let a = c.args in (code_of_three a.x a.y a.z c.requires.0 c.requires.1).0

pub overflow_sub-y : goal.overflow_sub-y
overflow_sub-y c = let a = c.args in (code_of_three a.x a.y a.z c.requires.0 c.requires.1).1

pub overflow_sub-z : goal.overflow_sub-z
overflow_sub-z c = let a = c.args in (code_of_three a.x a.y a.z c.requires.0 c.requires.1).2

pub unwrap-requires : goal.unwrap-requires
unwrap-requires c =
    let a = c.args in
    let code = (c.from.result * 64 + c.from-2.result) * 64 + c.from-3.result in
    let is = code_of_three a.x a.y a.z c.requires.0 c.requires.1 in
    let same : c.requires.0 ≡ code = omega (arith, is.3, c.from.ensures, c.from-2.ensures, c.from-3.ensures) in
    is_some c.from_u32.result code c.requires.0 c.from_u32.ensures.value same c.requires.1.scalar

pub returns : goal.returns
returns c =
    let a = c.args in
    let code = (c.from.result * 64 + c.from-2.result) * 64 + c.from-3.result in
    let is = code_of_three a.x a.y a.z c.requires.0 c.requires.1 in
    let same : c.requires.0 ≡ code = omega (arith, is.3, c.from.ensures, c.from-2.ensures, c.from-3.ensures) in
    is_of c.from_u32.result code c.requires.0 c.unwrap.result (a.x ∷ a.y ∷ a.z ∷ []) c.from_u32.ensures.value
    c.unwrap.ensures same c.requires.1
