use Rattle.std.proofs.Common.{◌+◌, ◌≤◌, List, length, refl, arith, sym, ap, ◌∙◌}
use Rattle.units.specs.Classes.{classes_of}
use Rattle.units.specs.declared.class.Class.{Class}
use Rattle.explicit.specs.StatusStacks.{is_ordinary}
use Rattle.explicit.proofs.LevelsComputed.Alone.{alone-joined, alone-length, alone-none}
use Rattle.explicit.proofs.LevelsComputed.Stretches.{stretch-joined, stretch-none}
use Rattle.explicit.proofs.levels_alone.write_ordinary.Goals as goal

pub loop-p-init : goal.loop-p-init
loop-p-init g c = record {
  within = c.requires.from;
  stretch = stretch-none is_ordinary (classes_of c.args.para.now) c.args.from;
  room = refl;
  placed = sym (alone-none c.args.level c.args.from c.args.levels.now);
  taken = refl;
}

pub loop-p-preserved : goal.loop-p-preserved
loop-p-preserved g c =
    let cs : List Class = classes_of c.args.para.now in
    let l = c.loop-p in
    let low : c.args.from ≤ l.p = l.invariant.stretch.later in
    let written = c.write_eight.ensures in
    record {
      within = omega arith;
      stretch = stretch-joined is_ordinary cs c.args.from l.p (l.p + 8) (l.p + 8) l.invariant.stretch
          (c.are_eight_ordinary.ensures c.if-are_eight_ordinary.true);
      room = ap length written ∙ alone-length c.args.level l.p (l.p + 8) l.levels ∙ l.invariant.room;
      placed = alone-joined c.args.level c.args.from l.p (l.p + 8) c.args.levels.now l.levels
          c.write_eight.new.levels low
          (omega arith) l.invariant.placed written;
      taken = omega (arith, c.add.ensures, l.invariant.taken);
    }

pub returns-clause-levels : goal.returns-clause-levels
returns-clause-levels g c =
    let l = c.loop-p in
    alone-joined c.args.level c.args.from l.p c.write_rest.result c.args.levels.now l.levels c.write_rest.new.levels
    l.invariant.stretch.later c.write_rest.ensures.stretch.later l.invariant.placed c.write_rest.ensures.levels
