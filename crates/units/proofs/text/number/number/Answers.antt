use Rattle.units.proofs.Numbers.{number-large}
use Rattle.units.proofs.text.number.number.Goals as goal

pub returns-then-value-greatest : goal.returns-then-value-greatest
returns-then-value-greatest c =
    number-large c.args.item.now c.args.greatest c.loop-byte.byte-index c.loop-byte.value c.in-Some.digit
    c.loop-byte-test.true c.loop-byte.invariant
    c.in-Some.ensures c.if-value-greatest.true
