use Rattle.std.proofs.Common.{◌≡◌, ◌+◌, ◌<◌, ◌⊎◌, ℕ, List, Option, arith, ap, subst, sym, ◌∙◌}
use Rattle.lines.specs.declared.runs.Run.{Run}
use Rattle.lines.specs.declared.runs.Stretch.{Stretch as StretchOf}
use Rattle.lines.specs.RunLinks.{StopsBelow, run_alone}
use Rattle.lines.proofs.RunLinking.{Adds, Grows, adds_longest, adds_one, begins_alone, grows_joined, grows_one, spans}
use Rattle.lines.proofs.runs.+link_on.Goals as goal
use Rattle.lines.proofs.runs.+link_on.Goals.{then-continues_above, else-continues_above}

adds_same : (levels : List (Option ℕ)) (before runs runs2 : List Run) (start least end : ℕ)
    (earlier later later2 : StretchOf) → runs2 ≡ runs → later2 ≡ later →
    Adds levels before runs start least end earlier later → Adds levels before runs2 start least end earlier later2
adds_same levels before runs runs2 start least end earlier later later2 e f a =
    subst (λ n. Adds levels before n start least end earlier later2) (sym e)
    (subst (λ t. Adds levels before runs start least end earlier t) (sym f) a)

pub loop-level-init : goal.loop-level-init
loop-level-init g t c =
    let levels = c.args.line.now.levels.now in
    let e = ap (λ (s : StretchOf). s.end) c.one_run-stretch.ensures in
    record {
      grows = subst (λ (s : StretchOf).
          Grows levels c.args.runs.now c.args.runs.now c.args.position c.args.least c.args.line.now.end s)
          (sym c.one_run-stretch.ensures)
          (grows_one levels c.args.runs.now c.args.least c.args.line.now.end c.args.position c.args.run_end c.args.level
          c.args.line.now.within c.requires.least c.requires.begun);
      from = omega (arith, e);
      at_least = omega (arith, e);
      at_most = omega (arith, e);
    }

pub joined-stretch-requires-clause-earlier : goal.joined-stretch-requires-clause-earlier
joined-stretch-requires-clause-earlier g t c =
    let l = c.loop-level in
    let n = c.if-continues_above in
    let levels = c.args.line.now.levels.now in
    let end : ℕ = c.args.line.now.end in
    let level : ℕ = c.in-Some.level in
    let run = c.link_run-run in
    let b = run.ensures.begins in
    let above : c.get-least_above.result + 1 ≡ l.stretch.level + 1 = omega arith in
    let adds : Adds levels c.args.runs.now n.runs c.args.position c.args.least end l.stretch n.later =
    elim n.branch [
      | then-continues_above w ↦
          let r = w.link_on-later in
          adds_same levels c.args.runs.now r.new.runs n.runs c.args.position c.args.least end l.stretch r.result n.later
          w.runs-is w.later-is
          (adds_longest levels c.args.runs.now l.runs run.new.runs r.new.runs c.args.position c.args.least end level
          l.stretch run.result r.result l.invariant.grows c.in-Some.ensures.0 c.in-Some.ensures.1 b (omega (
            arith,
            c.continues_above.ensures.above w.if-continues_above.true,
            b.level,
            above,
          )) r.ensures.linked r.ensures.within (omega (arith, r.ensures.least, above))
          (subst (λ k. StopsBelow levels k r.result.end end) above r.ensures.stops) r.ensures.unchanged)
      | else-continues_above w ↦
          let alone : StretchOf = run_alone l.stretch.end run.result.end level in
          adds_same levels c.args.runs.now run.new.runs n.runs c.args.position c.args.least end l.stretch alone n.later
          w.runs-is (w.later-is ∙ w.one_run-later.ensures)
          (adds_one levels c.args.runs.now l.runs run.new.runs c.args.position c.args.least end level l.stretch alone
          l.invariant.grows c.in-Some.ensures.0 c.args.line.now.within c.in-Some.ensures.1 c.in-Some.ensures.2
          (begins_alone levels l.runs run.new.runs l.stretch.end level end run.result b)
          (subst (λ k. (level < k) ⊎ StopsBelow levels k run.result.end end) above
          (c.continues_above.ensures.alone w.if-continues_above.false)))
    ] in
    let s = spans levels n.runs c.args.position l.stretch adds.earlier_linked in
    omega (arith, s.last_to, adds.later_linked.some, adds.within, n.auto.runs, l.auto.runs)

pub joined-stretch-requires-clause-later : goal.joined-stretch-requires-clause-later
joined-stretch-requires-clause-later g t c =
    let l = c.loop-level in
    let n = c.if-continues_above in
    let levels = c.args.line.now.levels.now in
    let end : ℕ = c.args.line.now.end in
    let level : ℕ = c.in-Some.level in
    let run = c.link_run-run in
    let b = run.ensures.begins in
    let above : c.get-least_above.result + 1 ≡ l.stretch.level + 1 = omega arith in
    let adds : Adds levels c.args.runs.now n.runs c.args.position c.args.least end l.stretch n.later =
    elim n.branch [
      | then-continues_above w ↦
          let r = w.link_on-later in
          adds_same levels c.args.runs.now r.new.runs n.runs c.args.position c.args.least end l.stretch r.result n.later
          w.runs-is w.later-is
          (adds_longest levels c.args.runs.now l.runs run.new.runs r.new.runs c.args.position c.args.least end level
          l.stretch run.result r.result l.invariant.grows c.in-Some.ensures.0 c.in-Some.ensures.1 b (omega (
            arith,
            c.continues_above.ensures.above w.if-continues_above.true,
            b.level,
            above,
          )) r.ensures.linked r.ensures.within (omega (arith, r.ensures.least, above))
          (subst (λ k. StopsBelow levels k r.result.end end) above r.ensures.stops) r.ensures.unchanged)
      | else-continues_above w ↦
          let alone : StretchOf = run_alone l.stretch.end run.result.end level in
          adds_same levels c.args.runs.now run.new.runs n.runs c.args.position c.args.least end l.stretch alone n.later
          w.runs-is (w.later-is ∙ w.one_run-later.ensures)
          (adds_one levels c.args.runs.now l.runs run.new.runs c.args.position c.args.least end level l.stretch alone
          l.invariant.grows c.in-Some.ensures.0 c.args.line.now.within c.in-Some.ensures.1 c.in-Some.ensures.2
          (begins_alone levels l.runs run.new.runs l.stretch.end level end run.result b)
          (subst (λ k. (level < k) ⊎ StopsBelow levels k run.result.end end) above
          (c.continues_above.ensures.alone w.if-continues_above.false)))
    ] in
    let u = spans levels n.runs l.stretch.end n.later adds.later_linked in
    omega (arith, u.last_to, adds.within, n.auto.runs, l.auto.runs)

pub loop-level-preserved : goal.loop-level-preserved
loop-level-preserved g t c =
    let l = c.loop-level in
    let n = c.if-continues_above in
    let levels = c.args.line.now.levels.now in
    let end : ℕ = c.args.line.now.end in
    let level : ℕ = c.in-Some.level in
    let run = c.link_run-run in
    let b = run.ensures.begins in
    let above : c.get-least_above.result + 1 ≡ l.stretch.level + 1 = omega arith in
    let adds : Adds levels c.args.runs.now n.runs c.args.position c.args.least end l.stretch n.later =
    elim n.branch [
      | then-continues_above w ↦
          let r = w.link_on-later in
          adds_same levels c.args.runs.now r.new.runs n.runs c.args.position c.args.least end l.stretch r.result n.later
          w.runs-is w.later-is
          (adds_longest levels c.args.runs.now l.runs run.new.runs r.new.runs c.args.position c.args.least end level
          l.stretch run.result r.result l.invariant.grows c.in-Some.ensures.0 c.in-Some.ensures.1 b (omega (
            arith,
            c.continues_above.ensures.above w.if-continues_above.true,
            b.level,
            above,
          )) r.ensures.linked r.ensures.within (omega (arith, r.ensures.least, above))
          (subst (λ k. StopsBelow levels k r.result.end end) above r.ensures.stops) r.ensures.unchanged)
      | else-continues_above w ↦
          let alone : StretchOf = run_alone l.stretch.end run.result.end level in
          adds_same levels c.args.runs.now run.new.runs n.runs c.args.position c.args.least end l.stretch alone n.later
          w.runs-is (w.later-is ∙ w.one_run-later.ensures)
          (adds_one levels c.args.runs.now l.runs run.new.runs c.args.position c.args.least end level l.stretch alone
          l.invariant.grows c.in-Some.ensures.0 c.args.line.now.within c.in-Some.ensures.1 c.in-Some.ensures.2
          (begins_alone levels l.runs run.new.runs l.stretch.end level end run.result b)
          (subst (λ k. (level < k) ⊎ StopsBelow levels k run.result.end end) above
          (c.continues_above.ensures.alone w.if-continues_above.false)))
    ] in
    let j = c.joined-stretch.ensures in
    record {
      grows = grows_joined levels c.args.runs.now n.runs c.joined-stretch.new.runs c.args.position c.args.least end
          l.stretch n.later c.joined-stretch.result adds j;
      from = omega (arith, l.invariant.from, j.end, adds.later_linked.some);
      at_least = elim n.branch [
        | then-continues_above w ↦
            let r = w.link_on-later in
            let e = ap (λ (s : StretchOf). s.end) w.later-is in
            omega (
              arith,
              e,
              w.steps-is,
              r.ensures.at_least,
              r.ensures.from,
              run.ensures.at_least,
              b.rises,
              j.end,
              c.tick.ensures,
              l.invariant.from,
              l.invariant.at_least,
            )
        | else-continues_above w ↦
            let e = ap (λ (s : StretchOf). s.end) (w.later-is ∙ w.one_run-later.ensures) in
            omega (
              arith,
              e,
              w.steps-is,
              run.ensures.at_least,
              b.rises,
              j.end,
              c.tick.ensures,
              l.invariant.from,
              l.invariant.at_least,
            )
      ];
      at_most = elim n.branch [
        | then-continues_above w ↦
            let r = w.link_on-later in
            let e = ap (λ (s : StretchOf). s.end) w.later-is in
            omega (
              arith,
              e,
              w.steps-is,
              r.ensures.at_most,
              r.ensures.from,
              run.ensures.at_most,
              b.rises,
              j.end,
              c.tick.ensures,
              l.invariant.from,
              l.invariant.at_most,
            )
        | else-continues_above w ↦
            let e = ap (λ (s : StretchOf). s.end) (w.later-is ∙ w.one_run-later.ensures) in
            omega (
              arith,
              e,
              w.steps-is,
              run.ensures.at_most,
              b.rises,
              j.end,
              c.tick.ensures,
              l.invariant.from,
              l.invariant.at_most,
            )
      ];
    }
