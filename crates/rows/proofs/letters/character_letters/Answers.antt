use Rattle.std.proofs.Common.{◌≡◌, ◌∙◌, ◌++◌, ◌∷◌, ◌+◌, [], ap, get_or, subst, sym}
use Rattle.std.proofs.lemmas.List.{get_or_default}
use Rattle.rows.specs.Letters.{IsCharacterBy, letter_by}
use Rattle.rows.specs.declared.letter.Letter.{Letter}
use Rattle.rows.proofs.Looked.{AreLettersSoFar, one-more-letter}
use Rattle.rows.proofs.letters.character_letters.Goals as goal

pub loop-code-preserved : goal.loop-code-preserved
loop-code-preserved c =
    let tables = c.args.tables.now in
    let characters = c.args.characters.now in
    let done = c.loop-code.code-index in
    let before = c.loop-code.letters.items in
    let at : c.code-item.result ≡ get_or characters done 0 =
    c.code-item.is ∙ get_or_default _ _ _ 0 c.loop-code-test.true in
    let letter : c.letter_of.result ≡ letter_by tables (get_or characters done 0) = c.letter_of.ensures.letter ∙
    ap (letter_by tables) at in
    let is : IsCharacterBy tables (letter_by tables (get_or characters done 0)) =
    subst (IsCharacterBy tables) letter c.letter_of.ensures.is in
    let more : c.add.new.letters.items ≡ before ++ letter_by tables (get_or characters done 0) ∷ [] =
    c.in_ok-add.ensures ∙ ap (λ (l : Letter). before ++ l ∷ []) letter in
    subst (AreLettersSoFar (IsCharacterBy tables) (letter_by tables) characters (done + 1)) (sym more)
    (one-more-letter (IsCharacterBy tables) (letter_by tables) characters done before 0 c.loop-code-test.true
    c.loop-code.invariant is)
