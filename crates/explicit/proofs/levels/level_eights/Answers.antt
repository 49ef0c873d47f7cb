use Rattle.std.proofs.Common.{◌+◌, List, length, refl, arith, sym, ap, ◌∙◌}
use Rattle.units.specs.Classes.{classes_of}
use Rattle.units.specs.declared.class.Class.{Class}
use Rattle.explicit.specs.StatusStacks.{is_ordinary}
use Rattle.explicit.proofs.LevelsComputed.Stretches.{explicit-joined, explicit-length, explicit-none, stretch-full, stretch-joined, stretch-none}
use Rattle.explicit.proofs.levels.level_eights.Goals as goal

pub loop-p-init : goal.loop-p-init
loop-p-init g c = record {
  within = c.requires.from;
  stretch = stretch-none is_ordinary (classes_of c.args.para.now) c.args.from;
  room = refl;
  placed = sym (explicit-none c.args.status.now (classes_of c.args.para.now) c.args.from c.args.explicit.now);
  taken = refl;
}

pub returns-then-end-p-clause-explicit : goal.returns-then-end-p-clause-explicit
returns-then-end-p-clause-explicit g c =
    let l = c.loop-p in
    let end = c.level_eight-end in
    explicit-joined c.args.status.now (classes_of c.args.para.now) c.args.from l.p end.result c.args.explicit.now
    l.explicit end.new.explicit l.invariant.stretch.later end.ensures.stretch.later l.invariant.placed
    end.ensures.explicit

pub loop-p-preserved : goal.loop-p-preserved
loop-p-preserved g c =
    let cs : List Class = classes_of c.args.para.now in
    let l = c.loop-p in
    let end = c.level_eight-end in
    let s = end.ensures.stretch in
    let within = s.within in
    let whole = stretch-full is_ordinary cs l.p (l.p + 8) end.result s (omega arith) in
    record {
      within = omega (arith, within);
      stretch = stretch-joined is_ordinary cs c.args.from l.p end.result end.result l.invariant.stretch whole;
      room = ap length end.ensures.explicit ∙ explicit-length c.args.status.now cs l.p end.result l.explicit ∙
          l.invariant.room;
      placed = explicit-joined c.args.status.now cs c.args.from l.p end.result c.args.explicit.now l.explicit
          end.new.explicit l.invariant.stretch.later s.later l.invariant.placed end.ensures.explicit;
      taken = omega (arith, end.ensures.steps, l.invariant.taken);
    }

pub returns-clause-explicit : goal.returns-clause-explicit
returns-clause-explicit g c =
    let l = c.loop-p in
    explicit-joined c.args.status.now (classes_of c.args.para.now) c.args.from l.p c.level_rest.result
    c.args.explicit.now l.explicit c.level_rest.new.explicit l.invariant.stretch.later c.level_rest.ensures.stretch.later
    l.invariant.placed c.level_rest.ensures.explicit
