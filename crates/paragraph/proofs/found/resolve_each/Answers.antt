use Rattle.std.proofs.Common.{◌≡◌, Option, List, ℕ, arith, rules, subst}
use Rattle.units.specs.Classes.{class_at, classes_of}
use Rattle.resolve.specs.Resolved.{Resolves}
use Rattle.resolve.proofs.OwnClasses.{mark-own}
use Rattle.paragraph.proofs.Covering.{covered_none, covered_next, covered_if_uniform, copied, has_position, length_next, is_in_all}
use Rattle.paragraph.proofs.found.resolve_each.Goals as goal

pub loop-k-init : goal.loop-k-init
loop-k-init g c = record {
  covered = rw c.requires.copy
      (covered_none c.args.para.now.limits.brackets c.args.para.now.units.now c.args.para.now.before.now
      c.args.levels.now c.requires.fresh);
  room = search rules;
  at_least = omega arith;
  at_most = omega arith;
}

pub loop-k-preserved-then-resolve_if_uniform : goal.loop-k-preserved-then-resolve_if_uniform
loop-k-preserved-then-resolve_if_uniform g c =
    let apart = c.requires.apart in
    let at = c.get-sequence.ensures.value in
    let some = has_position apart at (omega arith) c.requires.some in
    record {
      covered =
          covered_if_uniform apart at (omega arith) c.args.para.now.limits.brackets c.args.para.now.units.now
          c.args.para.now.before.now c.loop-k.classes c.loop-k.levels c.resolve_if_uniform.new.levels (search rules)
          c.loop-k.invariant.covered
          (c.resolve_if_uniform.ensures.levels c.if-resolve_if_uniform.true c.args.para.now.limits.brackets
          c.args.para.now.units.now)
          c.resolve_if_uniform.ensures.others;
      room = search rules;
      at_least = omega (arith, c.resolve_if_uniform.ensures.at_least);
      at_most = omega (arith, c.resolve_if_uniform.ensures.at_most, length_next apart at (omega arith), some);
    }

pub resolve_sequence-requires-clause-copy : goal.resolve_sequence-requires-clause-copy
resolve_sequence-requires-clause-copy g c =
    copied c.requires.apart c.get-sequence.ensures.value (omega arith) c.loop-k.classes c.args.para.now.before.now
    c.loop-k.invariant.covered.unchanged

pub resolve_sequence-requires-clause-own : goal.resolve_sequence-requires-clause-own
resolve_sequence-requires-clause-own g c =
    λ e p h. c.requires.own p (is_in_all c.requires.apart c.get-sequence.ensures.value (omega arith) p h)

pub resolve_sequence-requires-clause-marks : goal.resolve_sequence-requires-clause-marks
resolve_sequence-requires-clause-marks g c = λ p h.
    mark-own (class_at c.args.para.now.before.now p) (class_at (classes_of c.args.para.now.units.now) p)
    (c.requires.own p (is_in_all c.requires.apart c.get-sequence.ensures.value (omega arith) p h))

pub loop-k-preserved : goal.loop-k-preserved
loop-k-preserved g c =
    let apart = c.requires.apart in
    let at = c.get-sequence.ensures.value in
    let some = has_position apart at (omega arith) c.requires.some in
    let same : c.resolve_if_uniform.new.levels ≡ c.loop-k.levels =
    c.resolve_if_uniform.ensures.if_not c.if-resolve_if_uniform.false in
    let P : List (Option ℕ) → Type 0 =
    λ levels. Resolves c.args.para.now.limits.brackets c.get-sequence.result c.args.para.now.units.now
    c.args.para.now.before.now c.loop-k.classes c.resolve_sequence.new.classes levels c.resolve_sequence.new.levels in
    record {
      covered =
          covered_next apart at (omega arith) c.args.para.now.limits.brackets c.args.para.now.units.now
          c.args.para.now.before.now c.loop-k.classes c.resolve_sequence.new.classes c.loop-k.levels
          c.resolve_sequence.new.levels (search rules) c.loop-k.invariant.covered
          (subst P same c.resolve_sequence.ensures.resolved);
      room = search rules;
      at_least = omega (arith, c.resolve_if_uniform.ensures.at_least);
      at_most = omega (
        arith,
        c.resolve_if_uniform.ensures.if_not_at_most c.if-resolve_if_uniform.false,
        length_next apart at (omega arith),
        some,
      );
    }

pub resolve_if_uniform-requires-clause-some : goal.resolve_if_uniform-requires-clause-some
resolve_if_uniform-requires-clause-some g c =
    has_position c.requires.apart c.get-sequence.ensures.value (omega arith) c.requires.some
