use Rattle.rows.specs.Letters.{IsClass}
use Rattle.rows.specs.declared.letter.Letter.TheVariants as letter
use Rattle.rows.proofs.Looked.{AreLettersSoFar}
use Rattle.rows.proofs.letters.class_letters.Given as goal

abbrev pub invariant-loop-class : goal.invariant-loop-class
invariant-loop-class l = AreLettersSoFar IsClass letter.Class l.classes l.class-index l.letters.items
