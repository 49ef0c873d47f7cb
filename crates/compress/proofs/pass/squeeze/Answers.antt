use Rattle.std.proofs.Common.{arith, ap, sym, subst, refl, ◌∙◌, if◌then◌else◌, ◌≡◌, ◌≤◌, ◌<◌, ◌-◌, ℕ, suc, List, length}
use Rattle.units.specs.Classes.{is_strong}
use Rattle.units.specs.declared.bracket.Unit.{Unit as BidiUnit}
use Rattle.units.specs.declared.class.Class.{Class as BidiClass}
use Rattle.compress.specs.Laid.{stack_of, class_after, IsApart, IsLaid, IsStateAt, LeadsOn}
use Rattle.compress.specs.Squeeze.{Stack, next_for, known_after}
use Rattle.compress.specs.declared.pass.Known.{Known}
use Rattle.compress.proofs.Counting.{at, removed_between}
use Rattle.compress.proofs.Knowing.{next_alike, turned_strong}
use Rattle.compress.proofs.Laying.{laid_none}
use Rattle.compress.proofs.Passing.{leads_turn, leads_past_removed, laid_past_run, known_same}
use Rattle.compress.proofs.Unchanged.{unchanged_later}
use Rattle.compress.proofs.pass.squeeze.Goals as goal

pub loop-direction-init : goal.loop-direction-init
loop-direction-init g c =
    let us : List BidiUnit = c.args.para.now in
    let first = c.next_remaining-p.ensures in
    record {
      leads = leads_past_removed c.args.direction us c.args.chosen.now c.args.starts.now 0 0 c.next_remaining-p.result (omega arith) first.within
          first.removed refl;
      laid = laid_none us c.args.starts.now c.next_remaining-p.result first.within
          (removed_between us 0 c.next_remaining-p.result (omega arith) first.within first.removed).0;
      apart = λ lt. record { remains = first.here lt; stopped = λ k e. absurd (omega arith) };
      fits = omega arith;
      starts_fit = omega arith;
      due = omega (arith, c.first_due-due.ensures);
      least = c.least_passed-least.ensures;
      strong = refl;
      unchanged = record { units = refl; positions = refl };
      counted = omega arith;
      steps = omega arith;
    }

pub loop-direction-preserved : goal.loop-direction-preserved
loop-direction-preserved g c =
    let us : List BidiUnit = c.args.para.now in
    let d : BidiClass = c.args.direction in
    let p : ℕ = c.loop-direction.p in
    let end : ℕ = c.turn-now.result.end in
    let m : ℕ = c.turn-now.result.m in
    let run : ℕ = c.pass_on-p.result in
    let chosen : List BidiUnit = c.turn-now.new.chosen in
    let starts : List BidiUnit = c.turn-now.new.starts in
    let before_end : p < length us = c.goes_on.ensures.within c.loop-direction-test.true in
    let old : Stack = stack_of us c.loop-direction.chosen c.loop-direction.starts c.loop-direction.m p in
    let known : Known = record { direction = c.args.direction; strong = c.loop-direction.strong } in
    let state : IsStateAt known us c.loop-direction.chosen c.loop-direction.starts c.loop-direction.m p = record {
      laid = c.loop-direction.invariant.laid;
      strong = c.loop-direction.invariant.strong;
      apart = c.loop-direction.invariant.apart before_end;
    } in
    let after = c.turn-now.ensures in
    let laid : IsLaid us starts m end = after.laid state in
    let way : LeadsOn d us (stack_of us chosen starts m end) end =
    leads_turn d us p end old (stack_of us chosen starts m end) before_end state.apart.remains (omega (arith, after.later)) after.within after.removed
    (after.stack state) c.loop-direction.invariant.leads in
    let passing = c.pass_on-p.ensures in
    let fits = c.goes_on.ensures.fits c.loop-direction-test.true in
    let last : m ≡ suc (m - 1) = omega (arith, after.some) in
    let laid_last : IsLaid us starts (suc (m - 1)) end = subst (λ n. IsLaid us starts n end) last laid in
    let way_last : LeadsOn d us (stack_of us chosen starts (suc (m - 1)) end) end =
    subst (λ n. LeadsOn d us (stack_of us chosen starts n end) end) last way in
    record {
      leads = subst (λ n. LeadsOn d us (stack_of us chosen starts n run) run) (sym last)
          (passing.leads chosen starts (m - 1) refl laid_last way_last);
      laid = laid_past_run d us chosen starts m end run after.some passing.from_start passing.within laid;
      apart = λ lt. subst (λ n. IsApart d chosen n (at us run)) (sym last) (passing.apart chosen (m - 1) refl lt);
      fits = omega (arith, after.more, c.min-room.ensures, fits);
      starts_fit = omega (arith, after.more, c.min-room.ensures, fits);
      due = omega (arith, c.max.ensures, c.goes_on.ensures.due c.loop-direction-test.true, c.loop-direction.invariant.least, after.later, passing.from_start);
      least = c.least_after-least.ensures;
      strong = after.strong
          ∙ sym (next_alike d old (at us p) (class_after us p) c.loop-direction.strong c.loop-direction.invariant.strong)
          ∙ ap (λ (s : BidiClass). if is_strong (next_for d old (at us p) (class_after us p)).class then (next_for d old (at us p) (class_after us p)).class else s)
          c.loop-direction.invariant.strong
          ∙ sym (turned_strong d d old (next_for d old (at us p) (class_after us p)))
          ∙ sym (ap (λ (st : Stack). (known_after d st).strong) (after.stack state))
          ∙ ap (λ f. f.strong) (known_same d us chosen starts m end run);
      unchanged = unchanged_later c.args.chosen.now c.args.starts.now c.loop-direction.chosen c.loop-direction.starts chosen starts p m run
          (omega (arith, after.later, passing.from_start))
          (omega (arith, after.more, c.loop-direction.invariant.laid.within, after.later, passing.from_start))
          c.loop-direction.invariant.unchanged after.unchanged;
      counted = omega (arith, c.loop-direction.invariant.counted, after.steps, after.later, passing.steps, passing.from_start, c.tick.ensures);
      steps = omega (arith, c.loop-direction.invariant.steps, after.steps, passing.steps, c.tick.ensures);
    }

pub returns-clause-few : goal.returns-clause-few
returns-clause-few g c = record {
  laid = c.loop-direction.invariant.laid;
  leads = c.loop-direction.invariant.leads;
  fits = omega (arith, c.loop-direction.invariant.fits);
  starts_fit = omega (arith, c.loop-direction.invariant.starts_fit);
}
