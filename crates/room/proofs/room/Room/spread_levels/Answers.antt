use Rattle.std.proofs.Common.{◌∙◌, ◌+◌, ◌-◌, ◌<◌, ℕ, None, arith, inl, inr, length, subst}
use Rattle.std.proofs.lemmas.List.{get_or_default}
use Rattle.room.proofs.Boundaries.{before_it}
use Rattle.room.proofs.Plain.{at_or_after, level_stays}
use Rattle.room.proofs.Spreading.{AreSpread, is_next, more_spread}
use Rattle.room.proofs.room.Room.spread_levels.Goals as goal

pub bounds-levels-k : goal.bounds-levels-k
bounds-levels-k c =
    let next = is_next c.args.self.now c.offsets_rise.ensures.rising c.args.first (c.loop-k.k - 1) c.args.last
    (length c.args.levels.now) (omega arith) (omega arith) c.requires.inside c.requires.room in
    omega (arith, next.item, c.loop-k.auto.levels)

pub offset_bounds-levels-k : goal.offset_bounds-levels-k
offset_bounds-levels-k c =
    let next = is_next c.args.self.now c.offsets_rise.ensures.rising c.args.first (c.loop-k.k - 1) c.args.last
    (length c.args.levels.now) (omega arith) (omega arith) c.requires.inside c.requires.room in
    omega (arith, next.item, c.loop-k.auto.levels)

pub overflow_sub-from : goal.overflow_sub-from
overflow_sub-from c =
    let next = is_next c.args.self.now c.offsets_rise.ensures.rising c.args.first (c.loop-k.k - 1) c.args.last
    (length c.args.levels.now) (omega arith) (omega arith) c.requires.inside c.requires.room in
    omega (arith, next.from)

pub overflow_sub-to : goal.overflow_sub-to
overflow_sub-to c =
    let next = is_next c.args.self.now c.offsets_rise.ensures.rising c.args.first (c.loop-k.k - 1) c.args.last
    (length c.args.levels.now) (omega arith) (omega arith) c.requires.inside c.requires.room in
    omega (arith, next.to)

pub loop-k-preserved : goal.loop-k-preserved
loop-k-preserved c =
    let room = c.args.self.now in
    let k = c.loop-k.k - 1 in
    let l = c.loop-k in
    let next = is_next room c.offsets_rise.ensures.rising c.args.first k c.args.last (length c.args.levels.now)
    (omega arith) (omega arith) c.requires.inside c.requires.room in
    let here : k - c.args.first < length l.levels = omega (arith, next.item, l.auto.levels) in
    let now : AreSpread room c.args.first (k + 1) c.args.levels.now l.levels =
    subst (λ (n : ℕ). AreSpread room c.args.first n c.args.levels.now l.levels) {x = l.k} {y =
    k + 1} (omega arith) l.invariant.spread in
    record {
      within = omega arith;
      spread = more_spread room c.offsets_rise.ensures.rising c.args.first k (omega arith) (omega (
        arith,
        c.requires.inside,
      )) c.args.levels.now l.levels c.put.new.out c.index-levels-k.result c.put.ensures.len
          (c.index-levels-k.is ∙ get_or_default l.levels (k - c.args.first) c.index-levels-k.result None here)
          (λ i from to lt. c.put.ensures.put i None (omega (arith, from)) (omega (arith, to)) lt)
          (λ i side. c.put.ensures.others i None (elim side [
            | inl below ↦ inl (omega (arith, below))
            | inr above ↦
                inr (omega (arith, above))
          ]))
          now;
    }

pub returns-clause-spread : goal.returns-clause-spread
returns-clause-spread c i k lt at =
    let room = c.args.self.now in
    let from = at.from in
    let before = at.before in
    let low : c.args.first < k + 1 =
    before_it room c.offsets_rise.ensures.rising c.args.first (k + 1) (omega (
      arith,
      c.requires.forward,
      c.requires.inside,
    )) (omega (arith, before)) in
    c.loop-k.invariant.spread.spread i k lt (omega (arith, low, c.loop-k-test.false)) at

pub returns-then-is_plain-clause-spread : goal.returns-then-is_plain-clause-spread
returns-then-is_plain-clause-spread c i k lt at =
    let room = c.args.self.now in
    let plain = c.is_plain.ensures c.if-is_plain.true in
    level_stays room plain c.args.levels.now c.args.first i k at (at_or_after room plain c.args.first i k at)
