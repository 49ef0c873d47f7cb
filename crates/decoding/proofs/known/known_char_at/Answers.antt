use Rattle.std.proofs.Common.{arith}
use Rattle.decoding.proofs.KnownChars.{begins_two, begins_three, begins_four, spelled_two, spelled_three, spelled_four}
use Rattle.decoding.proofs.known.known_char_at.Goals as goal

pub bounds-bytes-at-then-x-lt224 : goal.bounds-bytes-at-then-x-lt224
bounds-bytes-at-then-x-lt224 c =
    (begins_two c.args.bytes.now c.args.at c.requires.inside c.requires.well_formed c.requires.front c.if-x-lt128.false
    c.if-x-lt224.true).0

pub of_two-requires : goal.of_two-requires
of_two-requires c = (begins_two c.args.bytes.now c.args.at c.requires.inside c.requires.well_formed c.requires.front
    c.if-x-lt128.false c.if-x-lt224.true).1

pub bounds-bytes-at-then-x-lt240 : goal.bounds-bytes-at-then-x-lt240
bounds-bytes-at-then-x-lt240 c = let t =
    begins_three c.args.bytes.now c.args.at c.requires.inside c.requires.well_formed c.requires.front c.if-x-lt224.false
    c.if-x-lt240.true in omega (arith, t.0)

pub bounds-bytes-at-then-x-lt240-2 : goal.bounds-bytes-at-then-x-lt240-2
bounds-bytes-at-then-x-lt240-2 c =
    (begins_three c.args.bytes.now c.args.at c.requires.inside c.requires.well_formed c.requires.front
    c.if-x-lt224.false c.if-x-lt240.true).0

pub of_three-requires : goal.of_three-requires
of_three-requires c =
    (begins_three c.args.bytes.now c.args.at c.requires.inside c.requires.well_formed c.requires.front
    c.if-x-lt224.false c.if-x-lt240.true).1

pub bounds-bytes-at-else-x-lt240 : goal.bounds-bytes-at-else-x-lt240
bounds-bytes-at-else-x-lt240 c = let t =
    begins_four c.args.bytes.now c.args.at c.requires.inside c.requires.well_formed c.requires.front c.if-x-lt240.false
    in omega (arith, t.0)

pub bounds-bytes-at-else-x-lt240-2 : goal.bounds-bytes-at-else-x-lt240-2
bounds-bytes-at-else-x-lt240-2 c = let t =
    begins_four c.args.bytes.now c.args.at c.requires.inside c.requires.well_formed c.requires.front c.if-x-lt240.false
    in omega (arith, t.0)

pub bounds-bytes-at-else-x-lt240-3 : goal.bounds-bytes-at-else-x-lt240-3
bounds-bytes-at-else-x-lt240-3 c =
    (begins_four c.args.bytes.now c.args.at c.requires.inside c.requires.well_formed c.requires.front
    c.if-x-lt240.false).0

pub of_four-c-requires : goal.of_four-c-requires
of_four-c-requires c =
    (begins_four c.args.bytes.now c.args.at c.requires.inside c.requires.well_formed c.requires.front
    c.if-x-lt240.false).1

pub returns-then-x-lt224 : goal.returns-then-x-lt224
returns-then-x-lt224 c =
    spelled_two c.args.bytes.now c.args.at c.of_two.result
    (begins_two c.args.bytes.now c.args.at c.requires.inside c.requires.well_formed c.requires.front c.if-x-lt128.false
    c.if-x-lt224.true).0 c.of_two.ensures

pub returns-then-x-lt240 : goal.returns-then-x-lt240
returns-then-x-lt240 c =
    spelled_three c.args.bytes.now c.args.at c.of_three.result
    (begins_three c.args.bytes.now c.args.at c.requires.inside c.requires.well_formed c.requires.front
    c.if-x-lt224.false c.if-x-lt240.true).0 c.of_three.ensures

pub returns-else-x-lt240 : goal.returns-else-x-lt240
returns-else-x-lt240 c =
    spelled_four c.args.bytes.now c.args.at c.of_four-c.result
    (begins_four c.args.bytes.now c.args.at c.requires.inside c.requires.well_formed c.requires.front
    c.if-x-lt240.false).0 c.of_four-c.ensures
