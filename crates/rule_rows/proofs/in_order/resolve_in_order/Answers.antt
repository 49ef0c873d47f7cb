use Rattle.std.proofs.Common.{arith, rules, ap, List}
use Rattle.units.specs.Classes.{classes_at}
use Rattle.units.specs.declared.class.Class.{Class}
use Rattle.resolve.specs.InOrder.{AfterEach}
use Rattle.rule_rows.proofs.in_order.resolve_in_order.Goals as goal

pub paired-requires-clause-filled : goal.paired-requires-clause-filled
paired-requires-clause-filled g c = record {
  most_open = c.args.para.now.limits.brackets;
  units = c.args.para.now.units.now;
  enough = omega arith;
  pairs = search rules;
  marks = λ p h e. rw (← c.requires.before) e;
}

pub returns-clause-levels : goal.returns-clause-levels
returns-clause-levels g c =
    let after : AfterEach = record {
      weak = c.weak.new.classes;
      closers = c.bracket_pairs.new.out;
      paired = c.paired.new.classes;
      neutral = c.neutral.new.classes;
      levels = c.implicit.new.levels;
    } in
    (c.rules_in_order.ensures c.args.para.now.limits.brackets c.args.s.now c.args.para.now.units.now
    c.args.para.now.classes.now c.args.classes.now c.args.levels.now after (record {
      copy = ap (λ (cs : List Class). classes_at cs c.args.s.now.positions) c.requires.copy;
      weak = c.weak.ensures.classes;
      closers = c.bracket_pairs.ensures.pairs;
      paired = c.paired.ensures.classes;
      neutral = c.neutral.ensures.classes;
      levels = c.implicit.ensures.levels;
    })).resolved.levels
