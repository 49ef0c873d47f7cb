use Rattle.std.proofs.Common.{◌+◌, ◌*◌, [], ◌∷◌, refl, arith}
use Rattle.std.proofs.lemmas.Bool.{false≢true}
use Rattle.std.proofs.str.Faults.{no_char}
use Rattle.decoding.proofs.Spellings.{made, no_second, no_third, no_fourth, of_four as coded}
use Rattle.decoding.proofs.spelling.of_four.Goals.{then-not-continues-via-then-not-continues, then-not-continues-via-else-not-continues+then-not-continues-2, then-not-continues-via-else-not-continues+else-not-continues-2+then-not-continues-3}
use Rattle.decoding.proofs.spelling.of_four.Goals as goal

pub returns-then-not-continues : goal.returns-then-not-continues
returns-then-not-continues c = let a = c.args in elim c.then-not-continues.branch [
  | then-not-continues-via-then-not-continues w ↦
      λ rest. no_second a.x a.y (a.z ∷ a.w ∷ rest) (omega (arith, c.requires)) (λ k.
      false≢true (w.if-not-continues.ensures.1 k))
  | then-not-continues-via-else-not-continues+then-not-continues-2 w ↦
      λ rest. no_third a.x a.y a.z (a.w ∷ rest) (omega (arith, c.requires)) (λ k.
      false≢true (w.if-not-continues-2.ensures.1 k))
  | then-not-continues-via-else-not-continues+else-not-continues-2+then-not-continues-3 w ↦
      λ rest. no_fourth a.x a.y a.z a.w rest c.requires (λ k. false≢true (w.if-not-continues-3.ensures.1 k))
]

pub returns-then-front-lt16 : goal.returns-then-front-lt16
returns-then-front-lt16 c = λ rest. let a = c.args in
    no_char (a.x ∷ a.y ∷ a.z ∷ a.w ∷ rest) 0 (λ r. omega (
      arith,
      r.fourth c.requires,
      c.from.ensures,
      c.from-2.ensures,
      c.if-front-lt16.true,
    ))

pub returns : goal.returns
returns c =
    let a = c.args in
    let y = c.if-not-continues.ensures.0 refl in
    let z = c.if-not-continues-2.ensures.0 refl in
    let w = c.if-not-continues-3.ensures.0 refl in
    let front = c.from.result * 64 + c.from-2.result in
    let back = c.from-3.result * 64 + c.from-4.result in
    let code = front * 4096 + back in
    made _ code (a.x ∷ a.y ∷ a.z ∷ a.w ∷ []) c.from_u32.ensures.value
    (coded a.x a.y a.z a.w front back code c.requires y z w (omega arith) c.if-front-lt16.false (omega arith)
    (omega arith))
