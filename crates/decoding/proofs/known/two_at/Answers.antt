use Rattle.std.proofs.Common.{ℕ, ◌+◌, arith, subst}
use Rattle.decoding.specs.Spelling.{IsSpelled}
use Rattle.decoding.proofs.CharBlocks.{two}
use Rattle.decoding.proofs.known.two_at.Goals as goal

pub overflow_sub-first : goal.overflow_sub-first
overflow_sub-first c =
    let r = c.requires in
    (two c.args.bytes.now c.args.at r.inside r.well_formed r.front r.two.0 r.two.1).first

pub bounds-bytes-at-2 : goal.bounds-bytes-at-2
bounds-bytes-at-2 c =
    let r = c.requires in
    (two c.args.bytes.now c.args.at r.inside r.well_formed r.front r.two.0 r.two.1).inside

pub returns : goal.returns
returns c =
    let r = c.requires in
    let is = two c.args.bytes.now c.args.at r.inside r.well_formed r.front r.two.0 r.two.1 in
    record {
      block = omega (arith, c.from.ensures, r.two.1);
      index = omega arith;
      spelled = subst (λ (code : ℕ). IsSpelled c.args.bytes.now c.args.at (code, c.args.at + 2))
          (omega (arith, c.from.ensures, r.two.1, is.first, is.second.least, is.second.most)) is.spelled;
    }
