use Rattle.std.proofs.Common.{◌+◌, ◌*◌, [], ◌∷◌, refl, arith}
use Rattle.std.proofs.lemmas.Bool.{false≢true}
use Rattle.std.proofs.str.Faults.{no_char}
use Rattle.decoding.proofs.Spellings.{made, no_second, of_two as coded}
use Rattle.decoding.proofs.spelling.of_two.Goals.{then-x-lt194-via-then-x-lt194, then-x-lt194-via-else-x-lt194+then-not-continues}
use Rattle.decoding.proofs.spelling.of_two.Goals as goal

pub returns-then-x-lt194 : goal.returns-then-x-lt194
returns-then-x-lt194 c = let a = c.args in elim c.then-x-lt194.branch [
  | then-x-lt194-via-then-x-lt194 w ↦
      λ rest. no_char (a.x ∷ a.y ∷ rest) 0 (λ r. omega (arith, r.second c.requires.0, w.if-x-lt194.true))
  | then-x-lt194-via-else-x-lt194+then-not-continues w ↦
      λ rest. no_second a.x a.y rest c.requires.0 (λ k. false≢true (w.if-not-continues.ensures.1 k))
]

pub returns : goal.returns
returns c =
    let a = c.args in
    let y = c.if-not-continues.ensures.0 refl in
    let code = c.from.result * 64 + c.from-2.result in
    made _ code (a.x ∷ a.y ∷ []) c.from_u32.ensures.value (coded a.x a.y code (omega arith) c.requires.1 y
    (omega arith))
