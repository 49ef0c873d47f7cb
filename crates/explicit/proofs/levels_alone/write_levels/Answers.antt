use Rattle.std.proofs.Common.{arith, ◌≡◌, ◌<◌, ℕ, List, length, true, refl, sym, ap, ◌∙◌}
use Rattle.std.specs.Option.{option_map}
use Rattle.std.specs.Prelude.{Some}
use Rattle.std.proofs.lemmas.List.{length-map, length-set}
use Rattle.units.specs.Classes.{class_at, classes_of}
use Rattle.units.specs.Isolates.{first_strong}
use Rattle.units.specs.Layout.{no_unit}
use Rattle.units.specs.declared.class.Class.{Class}
use Rattle.explicit.specs.StatusStacks.{is_ordinary}
use Rattle.explicit.proofs.Holders.Represented.{entries-some}
use Rattle.explicit.proofs.Holders.Roles.{class_read}
use Rattle.explicit.proofs.LevelsComputed.Alone.{alone-filled, alone-length, alone-more, begins_left_to_right}
use Rattle.explicit.proofs.LevelsComputed.ExplicitAt.{open_before, retained-before, passed-is}
use Rattle.explicit.proofs.LevelsComputed.Stretches.{stretch-keeps, stretch-moves}
use Rattle.explicit.proofs.levels_alone.write_levels.Goals as goal

pub loop-p-init : goal.loop-p-init
loop-p-init g c = record {
  within = omega arith;
  keeps = c.begin.ensures.represents c.args.range.now.depth (classes_of c.args.para.now);
  filled = λ k l. absurd (omega arith);
  room = refl;
  least = omega arith;
  most = omega (arith, c.begin.ensures.size);
}

pub current-requires : goal.current-requires
current-requires g c =
    let cs : List Class = classes_of c.args.para.now in
    let k = c.loop-p.invariant.keeps in
    let some = entries-some c.args.range.now.depth cs c.args.range.now.base (open_before cs c.loop-p.p) in
    omega (arith, ap length k.entries, some)

pub loop-p-smaller-then-is_ordinary : goal.loop-p-smaller-then-is_ordinary
loop-p-smaller-then-is_ordinary g c =
    let cs : List Class = classes_of c.args.para.now in
    let p : ℕ = c.loop-p.p in
    let n : length cs ≡ length c.args.para.now = length-map _ _ in
    let l : p < length c.args.para.now = omega arith in
    let ordinary : is_ordinary (class_at cs p) ≡ true = ap is_ordinary (class_read c.args.para.now p _ l) ∙
    sym c.is_ordinary.ensures ∙ c.if-is_ordinary.true in
    let s = c.write_ordinary-p.ensures.stretch in
    let within = s.within in
    let moves = stretch-moves cs p c.write_ordinary-p.result s (omega (arith, n)) ordinary in
    omega (arith, n, within, moves)

pub loop-p-preserved-then-is_ordinary : goal.loop-p-preserved-then-is_ordinary
loop-p-preserved-then-is_ordinary g c =
    let cs : List Class = classes_of c.args.para.now in
    let range = c.args.range.now in
    let p : ℕ = c.loop-p.p in
    let n : length cs ≡ length c.args.para.now = length-map _ _ in
    let i = c.loop-p.invariant in
    let l : p < length c.args.para.now = omega arith in
    let ordinary : is_ordinary (class_at cs p) ≡ true = ap is_ordinary (class_read c.args.para.now p _ l) ∙
    sym c.is_ordinary.ensures ∙ c.if-is_ordinary.true in
    let room = i.room in
    let s = c.write_ordinary-p.ensures.stretch in
    let end : ℕ = c.write_ordinary-p.result in
    let within = s.within in
    let moves = stretch-moves cs p end s (omega (arith, n)) ordinary in
    let v = c.current.ensures.innermost range.depth cs range.base (open_before cs p) i.keeps in
    let written = c.write_ordinary-p.ensures.levels in
    record {
      within = omega (arith, n, within);
      keeps = stretch-keeps cs p end s range.depth range.base c.loop-p.stack i.keeps;
      filled = alone-filled cs p end s range.depth range.base c.current.result v.0 v.1 c.loop-p.levels
          c.write_ordinary-p.new.levels written (omega (arith, n, within, c.requires.room, room)) i.filled;
      room = ap length written ∙ alone-length c.current.result.level p end c.loop-p.levels ∙ room;
      least = omega (arith, i.least, c.tick.ensures, c.write_ordinary-p.ensures.steps);
      most = omega (arith, moves, i.most, c.tick.ensures, c.write_ordinary-p.ensures.steps);
    }

pub pass-requires-clause-retained : goal.pass-requires-clause-retained
pass-requires-clause-retained g c =
    retained-before c.args.range.now.depth (classes_of c.args.para.now) c.args.range.now.base c.loop-p.p c.loop-p.stack
    c.requires.within c.requires.base (omega arith) c.loop-p.invariant.keeps

pub loop-p-preserved : goal.loop-p-preserved
loop-p-preserved g c =
    let cs : List Class = classes_of c.args.para.now in
    let range = c.args.range.now in
    let p : ℕ = c.loop-p.p in
    let n : length cs ≡ length c.args.para.now = length-map _ _ in
    let i = c.loop-p.invariant in
    let room = i.room in
    let l : p < length cs = omega (arith, n) in
    let short : p < length c.loop-p.levels = omega (arith, c.requires.room, room) in
    let e = sym (class_read c.args.para.now p no_unit c.loop-p-test.true) in
    let passed = c.pass.ensures.passed cs (open_before cs p) p e (λ f.
    sym (begins_left_to_right cs c.requires.none (first_strong cs (Some p)))) i.keeps in
    let found = passed-is range.depth cs range.base p _ c.pass.result c.pass.new.self l e passed in
    record {
      within = omega arith;
      keeps = found.keeps;
      filled = alone-more range.depth cs range.base p c.loop-p.levels c.level.result short
          (c.level.ensures ∙ ap (option_map (λ leveled. leveled.0)) found.found) i.filled;
      room = length-set c.loop-p.levels p c.level.result ∙ room;
      least = omega (arith, c.tick.ensures, c.pass.ensures.least_steps, i.least);
      most = omega (arith, c.tick.ensures, c.pass.ensures.most_steps, i.most);
    }

pub returns-clause-levels : goal.returns-clause-levels
returns-clause-levels g c = λ p inside. c.loop-p.invariant.filled p (omega (
  arith,
  inside,
  length-map c.args.para.now (λ u. u.class),
))
