use Rattle.std.proofs.Common.{arith, rules}
use Rattle.for_c.proofs.verdict_text.write_verdict_line.Goals as goal

-- the line fits
pub returns : goal.returns
returns c = record {
  fits = (c.in_ok-line.line.items, c.in_ok-line.ensures.line, omega arith);
  written = search rules;
  unchanged = search rules;
  reason = search rules;
  counted = search rules;
  short = search rules;
  uncounted = search rules;
}
