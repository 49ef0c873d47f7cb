use Rattle.std.proofs.Common.{arith, ap, sym, length, ℕ, List, subst}
use Rattle.units.proofs.Positions.{length-positions_from}
use Rattle.sequences.specs.Links.{IsChain}
use Rattle.sequences.proofs.one_sequence.link_written.Goals as goal

pub returns-then-all_remain : goal.returns-then-all_remain
returns-then-all_remain g c =
    let all = c.requires.all_remain c.if-all_remain.true in
    let C : List ℕ → Type 0 = λ ps. IsChain ps c.link_successive.new.links in
    record {
      chain = subst C (sym all) c.link_successive.ensures.chain;
      steps = omega (arith, ap length all, length-positions_from 0 (length c.args.links.now));
    }
