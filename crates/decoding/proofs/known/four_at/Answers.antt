use Rattle.std.proofs.Common.{ℕ, ◌+◌, arith, subst}
use Rattle.decoding.specs.Spelling.{IsSpelled}
use Rattle.decoding.proofs.CharBlocks.{four}
use Rattle.decoding.proofs.known.four_at.Goals as goal

pub bounds-bytes-at-2 : goal.bounds-bytes-at-2
bounds-bytes-at-2 c =
    let r = c.requires in
    let is = four c.args.bytes.now c.args.at r.inside r.well_formed r.front r.four in
    omega (arith, is.inside)

pub overflow_sub-bytes-2 : goal.overflow_sub-bytes-2
overflow_sub-bytes-2 c =
    let r = c.requires in
    (four c.args.bytes.now c.args.at r.inside r.well_formed r.front r.four).second.least

pub bounds-bytes-at-3 : goal.bounds-bytes-at-3
bounds-bytes-at-3 c =
    let r = c.requires in
    let is = four c.args.bytes.now c.args.at r.inside r.well_formed r.front r.four in
    omega (arith, is.inside)

pub overflow_sub-third : goal.overflow_sub-third
overflow_sub-third c =
    let r = c.requires in
    (four c.args.bytes.now c.args.at r.inside r.well_formed r.front r.four).third.least

pub bounds-bytes-at-4 : goal.bounds-bytes-at-4
bounds-bytes-at-4 c =
    let r = c.requires in
    (four c.args.bytes.now c.args.at r.inside r.well_formed r.front r.four).inside

pub returns : goal.returns
returns c =
    let r = c.requires in
    let is = four c.args.bytes.now c.args.at r.inside r.well_formed r.front r.four in
    record {
      block = omega (arith, c.from.ensures, c.from-2.ensures, c.from-3.ensures, is.few, is.third.most);
      index = omega arith;
      spelled = subst (λ (code : ℕ). IsSpelled c.args.bytes.now c.args.at (code, c.args.at + 4))
          (omega (
            arith,
            c.from.ensures,
            c.from-2.ensures,
            c.from-3.ensures,
            r.four,
            is.second.least,
            is.second.most,
            is.third.least,
            is.third.most,
            is.fourth.least,
            is.fourth.most,
          )) is.spelled;
    }
