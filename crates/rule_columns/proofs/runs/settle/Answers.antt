use Rattle.std.proofs.Common.{arith, rules, ap, sym, ◌∙◌, ◌≡◌, ◌+◌, ◌-◌, ◌≤◌, take, slice_index, true, false, drop, length, ◌<◌, refl}
use Rattle.std.specs.List.{prefix_len}
use Rattle.units.specs.Classes.{class_at, classes_at}
use Rattle.std.proofs.lemmas.List.{take_rest}
use Rattle.resolve.specs.Ahead.{first_class}
use Rattle.rule_columns.specs.Runs.{each_in_run, in_run, ends_run, taken_by}
use Rattle.resolve.proofs.Gathered.{length-classes_at}
use Rattle.resolve.proofs.Passes.{pass_ahead, pass_end, pass_reads, pass_within}
use Rattle.rule_columns.proofs.Settles.{settle_start, settle_other, settle_new, settle_same}
use Rattle.rule_columns.proofs.StepCounts.{count_start, count_new, count_same, count_other, count_end}
use Rattle.rule_columns.proofs.runs.settle.Goals as goal
use Rattle.rule_columns.proofs.runs.settle.Goals.{then-holds, in-Some, in-None, else-holds}

pub loop-k-init : goal.loop-k-init
loop-k-init g c = (
  settle_start (in_run c.args.run) (taken_by c.args.run) c.args.start c.args.end c.args.positions.now c.args.classes.now
      c.requires,
  count_start (in_run c.args.run) (classes_at c.args.classes.now c.args.positions.now) c.args.steps.now,
)

pub loop-k-preserved : goal.loop-k-preserved
loop-k-preserved g c =
    let ps = c.args.positions.now in
    let w0 = c.loop-k.invariant.0 in
    let n0 = c.loop-k.invariant.1 in
    let inside : c.loop-k.k < length ps = omega arith in
    let reads = pass_reads w0.pass inside in
    let ahead = pass_ahead w0.pass inside in
    elim c.if-holds.branch [
      | then-holds w ↦
          let t : in_run c.args.run (class_at c.loop-k.classes (slice_index ps c.loop-k.k)) ≡ true = search rules in
          rw (w.classes-is, w.steps-is, w.before-is, w.ahead-is) (elim w.match-ahead.branch [
            | in-Some w' ↦ (
              settle_same w0 inside w'.in-Some.found (search rules) t w.match-ahead.after w.taken.result w'.after-is
                  (search rules),
              count_same n0 w'.in-Some.found (search rules) (pass_within w0.pass inside)
                  (ap (in_run c.args.run) (sym reads) ∙ t) w.match-ahead.steps (w'.steps-is ∙
                  c.tick.ensures) w.match-ahead.after _ refl,
            )
            | in-None w' ↦
                let rest : take (length ps - (c.loop-k.k + 1)) (drop (c.loop-k.k + 1) ps) ≡ drop (c.loop-k.k + 1) ps =
                take_rest ps (c.loop-k.k + 1) in
                let past : w'.class_past-after.result ≡
                first_class (ends_run c.args.run) (classes_at c.loop-k.classes (drop (c.loop-k.k + 1) ps))
                c.args.end =
                w'.class_past-after.ensures.value ∙
                ap (λ qs. first_class (ends_run c.args.run) (classes_at c.loop-k.classes qs) c.args.end) rest in
                let least : c.loop-k.steps + 1 ≤ w.match-ahead.steps =
                omega (arith, w'.steps-is, w'.class_past-after.ensures.at_least, c.tick.ensures) in
                let most : w.match-ahead.steps ≤ c.loop-k.steps + 1 + prefix_len (in_run c.args.run)
                (classes_at c.loop-k.classes (drop (c.loop-k.k + 1) ps)) + 1 =
                omega (
                  arith,
                  w'.steps-is,
                  w'.class_past-after.ensures.at_most,
                  ap (λ qs. prefix_len (in_run c.args.run) (classes_at c.loop-k.classes qs)) rest,
                  c.tick.ensures,
                ) in (
                  settle_new w0 inside t w.match-ahead.after w.taken.result (w'.after-is ∙ past) (search rules),
                  count_new n0 _ (ap (prefix_len (in_run c.args.run)) ahead)
                      (search rules) w.match-ahead.steps least most w.match-ahead.after _ refl,
                )
          ])
      | else-holds w ↦
          let f : in_run c.args.run (class_at c.loop-k.classes (slice_index ps c.loop-k.k)) ≡ false = search rules in
          rw (w.classes-is, w.steps-is, w.before-is, w.ahead-is) (
            settle_other w0 inside f,
            count_other n0 (pass_within w0.pass inside) (ap (in_run c.args.run) (sym reads) ∙
                f) c.tick.new.self c.tick.ensures _ refl,
          )
    ]

pub returns-clause-classes : goal.returns-clause-classes
returns-clause-classes g c =
    pass_end (each_in_run (in_run c.args.run) (taken_by c.args.run) c.args.start c.args.end) c.loop-k.invariant.0.pass
    (omega arith) (omega arith)

pub returns-clause-at_most : goal.returns-clause-at_most
returns-clause-at_most g c =
    let long = length-classes_at c.args.classes.now c.args.positions.now in
    omega (arith, count_end c.loop-k.invariant.1 (omega (arith, long)), long)
