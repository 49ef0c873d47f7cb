use Rattle.std.proofs.Common.{◌<◌, ◌∙◌, ℕ, arith, get_or}
use Rattle.decoding.proofs.FourUnits.{of_ascii, plain_four, set_of_four}
use Rattle.decoding.proofs.fours.look_up_ascii.Goals as goal

pub write_known_brackets-requires-clause-plain : goal.write_known_brackets-requires-clause-plain
write_known_brackets-requires-clause-plain c =
    let codes = c.args.codes.now in
    let of = λ (k : ℕ) (lt : k < 4). of_ascii c.args.borrowed.now.classes c.args.ascii.now (get_or codes k 0)
    c.requires.block (c.requires.small k lt) in
    c.write_four-classes.ensures.units ∙ plain_four c.args.borrowed.now codes _ _ _ _ c.requires.len (of 0 (omega arith))
    (of 1 (omega arith)) (of 2 (omega arith)) (of 3 (omega arith))

pub returns-clause-classes : goal.returns-clause-classes
returns-clause-classes c =
    let codes = c.args.codes.now in
    let of = λ (k : ℕ) (lt : k < 4). of_ascii c.args.borrowed.now.classes c.args.ascii.now (get_or codes k 0)
    c.requires.block (c.requires.small k lt) in
    set_of_four c.args.borrowed.now codes _ _ _ _ _ _
    (plain_four c.args.borrowed.now codes _ _ _ _ c.requires.len (of 0 (omega arith))
    (of 1 (omega arith)) (of 2 (omega arith)) (of 3 (omega arith))) c.write_known_brackets.ensures
    c.write_four-classes.ensures.classes
