use Rattle.std.proofs.Common.{◌≡◌, ◌∙◌, ◌<◌, ◌++◌, ◌∷◌, ◌+◌, [], ℕ, List, ap, arith, get_or, length, subst, sym, take}
use Rattle.std.proofs.lemmas.List.{get_or_default, take_more_set}
use Rattle.rows.specs.Letters.{IsLetterOf}
use Rattle.rows.specs.TextLines.{kind_of, letter_named}
use Rattle.rows.specs.declared.letter.Letter.{Letter}
use Rattle.rows.proofs.Looked.{AreLettersSoFar, one-more-letter}
use Rattle.rows.proofs.print_lines.fill_letters.Goals as goal

pub loop-place-preserved : goal.loop-place-preserved
loop-place-preserved c =
    let line = c.args.line.now in
    let done = c.loop-place.place in
    let before : List Letter = take done c.loop-place.row in
    let Is : Letter → Type 0 = IsLetterOf (kind_of c.args.naming) in
    let letter : ℕ → Letter = letter_named c.args.naming in
    let inside : done < length line = omega (arith, c.loop-place-test.true) in
    let at : c.index-line-place.result ≡ get_or line done 0 = c.index-line-place.is ∙ get_or_default _ _ _ 0 inside in
    let here : c.letter.result ≡ letter (get_or line done 0) = c.letter.ensures.letter ∙ ap letter at in
    let room : done < length c.loop-place.row = omega (arith, inside, c.loop-place.auto.row, c.requires) in
    let more = take_more_set c.loop-place.row done c.letter.result room ∙ ap (λ (l : Letter). before ++ l ∷ []) here in
    subst (AreLettersSoFar Is letter line (done + 1)) (sym more)
    (one-more-letter Is letter line done before 0 inside c.loop-place.invariant (subst Is here c.letter.ensures.kind))
