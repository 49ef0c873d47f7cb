use Rattle.std.proofs.Common.{◌+◌, ◌*◌, [], ◌∷◌, refl, arith}
use Rattle.std.proofs.lemmas.Bool.{false≢true}
use Rattle.std.proofs.str.Faults.{no_char}
use Rattle.decoding.proofs.Spellings.{made, no_second, no_third, of_three as coded}
use Rattle.decoding.proofs.spelling.of_three.Goals.{then-not-continues-via-then-not-continues, then-not-continues-via-else-not-continues+then-not-continues-2}
use Rattle.decoding.proofs.spelling.of_three.Goals as goal

pub returns-then-not-continues : goal.returns-then-not-continues
returns-then-not-continues c = let a = c.args in elim c.then-not-continues.branch [
  | then-not-continues-via-then-not-continues w ↦
      λ rest. no_second a.x a.y (a.z ∷ rest) (omega (arith, c.requires.0)) (λ k.
      false≢true (w.if-not-continues.ensures.1 k))
  | then-not-continues-via-else-not-continues+then-not-continues-2 w ↦
      λ rest. no_third a.x a.y a.z rest c.requires.0 (λ k. false≢true (w.if-not-continues-2.ensures.1 k))
]

pub returns-then-front-lt32 : goal.returns-then-front-lt32
returns-then-front-lt32 c = λ rest. let a = c.args in
    no_char (a.x ∷ a.y ∷ a.z ∷ rest) 0 (λ r. omega (
      arith,
      r.in_three c.requires.0 c.requires.1,
      c.from.ensures,
      c.from-2.ensures,
      c.if-front-lt32.true,
    ))

pub returns : goal.returns
returns c =
    let a = c.args in
    let y = c.if-not-continues.ensures.0 refl in
    let z = c.if-not-continues-2.ensures.0 refl in
    let front = c.from.result * 64 + c.from-2.result in
    let code = front * 64 + c.from-3.result in
    made _ code (a.x ∷ a.y ∷ a.z ∷ []) c.from_u32.ensures.value
    (coded a.x a.y a.z front code c.requires.0 c.requires.1 y z (omega arith) c.if-front-lt32.false (omega arith))
