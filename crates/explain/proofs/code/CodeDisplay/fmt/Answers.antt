use Rattle.printing.proofs.Codes.{padded_code}
use Rattle.explain.proofs.code.CodeDisplay.fmt.Goals as goal

pub returns-in-Some-clause-writes : goal.returns-in-Some-clause-writes
returns-in-Some-clause-writes g c =
    let h = rw (c.laid_out.ensures, c.in_radix.ensures, c.from-code.ensures) at c.write.ensures.writes in
    rw (c.in-Some.is, ← padded_code c.in-Some.character) h
