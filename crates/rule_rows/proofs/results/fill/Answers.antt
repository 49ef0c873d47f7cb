use Rattle.std.proofs.Common.{arith}
use Rattle.rule_rows.proofs.results.fill.Goals as goal

pub fill-requires-2-clause-levels : goal.fill-requires-2-clause-levels
fill-requires-2-clause-levels g c = record {
  depth = c.args.limits.depth;
  within = omega arith;
  found = c.explicit_levels.ensures.found;
}
