use Rattle.rows.specs.Letters.{IsCharacterBy, letter_by}
use Rattle.rows.proofs.Looked.{AreLettersSoFar}
use Rattle.rows.proofs.letters.character_letters.Given as goal

abbrev pub invariant-loop-code : goal.invariant-loop-code
invariant-loop-code l =
    AreLettersSoFar (IsCharacterBy l.tables) (letter_by l.tables) l.characters l.code-index l.letters.items
