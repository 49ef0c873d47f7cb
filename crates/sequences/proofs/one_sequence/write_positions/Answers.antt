use Rattle.std.proofs.Common.{arith, ap, sym, ◌≡◌, ◌∙◌, length, ℕ}
use Rattle.units.specs.Classes.{classes_of}
use Rattle.units.specs.Positions.{positions_from}
use Rattle.explicit.specs.Flat.{remaining_of}
use Rattle.units.proofs.Positions.{length-positions_from}
use Rattle.units.proofs.Lengths.{length-classes_of}
use Rattle.sequences.proofs.Remaining.{all_remain}
use Rattle.sequences.proofs.one_sequence.write_positions.Goals as goal

pub returns-then-all_remain : goal.returns-then-all_remain
returns-then-all_remain g c =
    let n : ℕ = length c.args.para.now in
    let all : remaining_of (classes_of c.args.para.now) ≡ positions_from 0 n =
    all_remain (classes_of c.args.para.now) (c.requires.all_remain c.if-all_remain.true) ∙
    ap (positions_from 0) (length-classes_of c.args.para.now) in
    record {
      count = sym (ap length all ∙ length-positions_from 0 n);
      placed = c.write_all.ensures.placed ∙ sym all;
      within = omega arith;
      steps = omega arith;
    }
