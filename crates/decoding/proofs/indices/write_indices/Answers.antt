use Rattle.std.proofs.Common.{◌∙◌, ◌<◌, ℕ, arith, ap, length, map, slice_index, subst, take}
use Rattle.std.specs.List.{All}
use Rattle.std.proofs.lemmas.List.{take_all}
use Rattle.decoding.proofs.Indexing.{begins_earlier, indexed_as, indexed_more, indexed_none, indexed_past}
use Rattle.decoding.proofs.indices.write_indices.Goals as goal
use Rattle.decoding.proofs.indices.write_indices.Goals.{then-starts-k, else-starts-k}

pub loop-k-init : goal.loop-k-init
loop-k-init c = indexed_none _ _ _

pub loop-k-preserved : goal.loop-k-preserved
loop-k-preserved c =
    let l = c.loop-k in
    let i = l.invariant in
    elim c.if-starts-k.branch [
      | then-starts-k w ↦
          let more : l.next < length c.args.breaks.now = omega (arith, i.few, c.if-next-breaks.false) in
          indexed_as _ _ _ _ _ _ _ w.indices-is w.next-is
          (indexed_more c.args.starts.now c.args.breaks.now l.indices l.next l.k c.requires.starts c.requires.breaks
          c.loop-k-test.true more (omega (arith, more, c.requires.room, l.auto.indices)) w.if-starts-k.true i)
      | else-starts-k w ↦ indexed_as _ _ _ _ _ _ _ w.indices-is w.next-is
          (indexed_past c.args.starts.now c.args.breaks.now l.indices l.next l.k w.if-starts-k.false i)
    ]

pub returns-then-next-breaks-2-clause-between : goal.returns-then-next-breaks-2-clause-between
returns-then-next-breaks-2-clause-between c =
    let l = c.loop-k in
    record {
      inside = c.if-next-breaks-2.true;
      between = λ k lt. l.invariant.passed k (omega (arith, lt, c.loop-k-test.false)) c.if-next-breaks-2.true;
      earlier = begins_earlier c.args.starts.now c.args.breaks.now l.indices l.next l.k (omega (
        arith,
        l.invariant.few,
        c.requires.room,
        l.auto.indices,
      )) l.invariant;
    }

pub returns-clause-found : goal.returns-clause-found
returns-clause-found c =
    let i = c.loop-k.invariant in
    let all = c.if-next-breaks-2.false in
    ap (λ n. map (slice_index c.args.starts.now) (take n c.loop-k.indices)) (omega (arith, i.few, all)) ∙ i.found ∙
    take_all c.loop-k.next c.args.breaks.now all

pub returns-clause-inside : goal.returns-clause-inside
returns-clause-inside c =
    let i = c.loop-k.invariant in
    let all = c.if-next-breaks-2.false in
    subst (λ n. All (λ (j : ℕ). j < length c.args.starts.now) (take n c.loop-k.indices)) (omega (
      arith,
      i.few,
      all,
    )) i.inside
