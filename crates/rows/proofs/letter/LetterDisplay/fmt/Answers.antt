use Rattle.printing.proofs.Codes.{padded_code}
use Rattle.rows.proofs.letter.LetterDisplay.fmt.Goals as goal

pub returns-in-Character-clause-writes : goal.returns-in-Character-clause-writes
returns-in-Character-clause-writes g c =
    let h = rw (c.laid_out.ensures, c.in_radix.ensures, c.from-code.ensures) at c.write.ensures.writes in
    rw (c.in-Character.is, ← padded_code c.in-Character.code) h
