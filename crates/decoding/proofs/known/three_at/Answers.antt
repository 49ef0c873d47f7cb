use Rattle.std.proofs.Common.{ℕ, ◌+◌, arith, subst}
use Rattle.decoding.specs.Spelling.{IsSpelled}
use Rattle.decoding.proofs.CharBlocks.{three}
use Rattle.decoding.proofs.known.three_at.Goals as goal

pub bounds-bytes-at : goal.bounds-bytes-at
bounds-bytes-at c =
    let r = c.requires in
    let is = three c.args.bytes.now c.args.at r.inside r.well_formed r.front r.three.0 r.three.1 in
    omega (arith, is.inside)

pub overflow_sub-second : goal.overflow_sub-second
overflow_sub-second c =
    let r = c.requires in
    (three c.args.bytes.now c.args.at r.inside r.well_formed r.front r.three.0 r.three.1).second.least

pub bounds-bytes-at-3 : goal.bounds-bytes-at-3
bounds-bytes-at-3 c =
    let r = c.requires in
    (three c.args.bytes.now c.args.at r.inside r.well_formed r.front r.three.0 r.three.1).inside

pub returns : goal.returns
returns c =
    let r = c.requires in
    let is = three c.args.bytes.now c.args.at r.inside r.well_formed r.front r.three.0 r.three.1 in
    record {
      block = omega (arith, c.from.ensures, c.from-2.ensures, r.three.1, is.second.most);
      index = omega arith;
      spelled = subst (λ (code : ℕ). IsSpelled c.args.bytes.now c.args.at (code, c.args.at + 3))
          (omega (
            arith,
            c.from.ensures,
            c.from-2.ensures,
            r.three.0,
            is.second.least,
            is.second.most,
            is.third.least,
            is.third.most,
          )) is.spelled;
    }
