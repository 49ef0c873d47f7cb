use Rattle.std.proofs.Common.{◌≡◌, ℕ, ◌+◌, ◌-◌, ◌<◌, List, length, take, drop, sym, ap, subst, arith}
use Rattle.std.proofs.lemmas.List.{take_rest}
use Rattle.units.specs.Classes.{classes_at}
use Rattle.units.specs.Neutral.{after_neutral}
use Rattle.units.specs.Runs.{SequenceView, direction_of}
use Rattle.units.specs.declared.class.Class.{Class}
use Rattle.sequences.specs.Links.{ArePositions}
use Rattle.resolve.specs.Neutrals.{sides_of, by_run, sides_past, owed_in_run}
use Rattle.resolve.specs.declared.neutral.Sides.{Sides}
use Rattle.resolve.proofs.Gathered.{length-classes_at}
use Rattle.resolve.proofs.NeutralPasses.{after_neutral-after_state_pass, owes_no_more}
use Rattle.resolve.proofs.StatePasses.{StatePass, state_pass_start, state_pass_next, state_pass_end, state_pass_steps_start, state_pass_steps_next, state_pass_steps_end}
use Rattle.resolve.proofs.neutral.neutral.Goals as goal

pub loop-k-init : goal.loop-k-init
loop-k-init g c =
    let s : SequenceView = c.args.s.now in
    let ps : List ℕ = c.as_slice-positions.result.now in
    let start : List Class = c.args.classes.now in
    let fit : ArePositions ps (length start) =
    rw (c.as_slice-positions.ensures.value, c.requires) c.as_slice-positions.ensures.rise in
    let P : Sides → Type 0 = λ x. StatePass by_run sides_past (sides_of s) ps start start x 0 in (
      subst P (sym c.new-sides.ensures) (state_pass_start by_run sides_past (sides_of s) ps start fit),
      state_pass_steps_start owed_in_run (classes_at start ps) c.new-sides.result c.args.steps.now,
    )

pub loop-k-preserved : goal.loop-k-preserved
loop-k-preserved g c =
    let ps : List ℕ = c.as_slice-positions.result.now in
    let k : ℕ = c.loop-k.k in
    let inside : c.loop-k.k < length c.as_slice-positions.result.now = omega arith in
    let qs : List ℕ = take (length ps - (k + 1)) (drop (k + 1) ps) in
    let rest : take (length ps - (k + 1)) (drop (k + 1) ps) ≡ drop (k + 1) ps = take_rest ps (k + 1) in (
      state_pass_next c.loop-k.invariant.0 inside c.take.result c.take.new.self qs rest c.take.ensures.value
          c.take.ensures.past,
      state_pass_steps_next c.loop-k.invariant.0 inside owed_in_run c.take.new.self qs rest c.args.steps.now
          c.loop-k.steps c.take.new.steps c.loop-k.invariant.1
          (omega (arith, c.tick.ensures, c.take.ensures.at_least)) (omega (
            arith,
            c.tick.ensures,
            c.take.ensures.at_most,
          )),
    )

pub returns-clause-classes : goal.returns-clause-classes
returns-clause-classes g c =
    let s : SequenceView = c.args.s.now in
    rw (← c.as_slice-positions.ensures.value)
    (state_pass_end c.loop-k.invariant.0 (after_neutral (direction_of s.level) s.sos s.eos)
    (after_neutral-after_state_pass s (classes_at c.args.classes.now c.as_slice-positions.result.now)) (omega arith)
    (omega arith))

pub returns-clause-at_most : goal.returns-clause-at_most
returns-clause-at_most g c =
    let ps : List ℕ = c.as_slice-positions.result.now in
    let from : List Class = classes_at c.args.classes.now ps in
    let long = length-classes_at c.args.classes.now ps in
    let n : length ps ≡ length c.args.s.now.positions = ap length c.as_slice-positions.ensures.value in
    omega (
      arith,
      state_pass_steps_end owed_in_run from c.loop-k.sides c.loop-k.k c.args.steps.now c.loop-k.steps
          c.loop-k.invariant.1 (owes_no_more c.loop-k.sides.taken) (omega (arith, long)),
      n,
    )
