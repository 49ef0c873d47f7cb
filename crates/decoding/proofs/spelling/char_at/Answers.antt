use Rattle.std.proofs.Common.{arith, rules}
use Rattle.std.proofs.str.Faults.{no_char}
use Rattle.decoding.proofs.Spellings.{unspelled_two, unspelled_three, unspelled_four}
use Rattle.decoding.proofs.spelling.char_at.Goals as goal

pub returns-then-remaining-lt2 : goal.returns-then-remaining-lt2
returns-then-remaining-lt2 c = no_char c.args.bytes.now c.args.at (λ r. omega (arith, r.second (omega arith)))

pub returns-in_err-of_two : goal.returns-in_err-of_two
returns-in_err-of_two c =
    let none = unspelled_two c.args.bytes.now c.args.at (omega arith) c.in_err-of_two.ensures in
    search rules

pub returns-then-remaining-lt3 : goal.returns-then-remaining-lt3
returns-then-remaining-lt3 c = no_char c.args.bytes.now c.args.at (λ r. omega (arith, r.third (omega arith)))

pub returns-in_err-of_three : goal.returns-in_err-of_three
returns-in_err-of_three c =
    let none = unspelled_three c.args.bytes.now c.args.at (omega arith) c.in_err-of_three.ensures in
    search rules

pub returns-then-remaining-lt4 : goal.returns-then-remaining-lt4
returns-then-remaining-lt4 c = no_char c.args.bytes.now c.args.at (λ r. omega (arith, r.fourth (omega arith)))

pub returns-in_err-c : goal.returns-in_err-c
returns-in_err-c c =
    let none = unspelled_four c.args.bytes.now c.args.at (omega arith) c.in_err-c.ensures in
    search rules
