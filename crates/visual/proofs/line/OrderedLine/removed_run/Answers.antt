use Rattle.std.proofs.Common.{arith, refl}
use Rattle.visual.proofs.LineRuns.{removed_run-is}
use Rattle.visual.proofs.line.OrderedLine.removed_run.Goals as goal

pub returns : goal.returns
returns c =
    let line = c.args.self.now in
    let f = c.first_removed-start in
    record {
      empty = refl;
      end = refl;
      represents = removed_run-is line _ (omega (
        arith,
        f.ensures.up_to,
        c.if-start-self.false,
      )) f.ensures.inside f.ensures.removed refl
          c.level.ensures.value refl f.ensures.stops (c.is_alone.ensures.alone c.if-not-is_alone.false);
    }
