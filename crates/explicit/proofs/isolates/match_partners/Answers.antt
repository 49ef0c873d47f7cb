use Rattle.std.proofs.Common.{◌≡◌, ◌+◌, ◌-◌, ◌<◌, ℕ, Bool, List, suc, length, true, false, arith, refl, sym, ap, ◌∙◌}
use Rattle.std.specs.Prelude.{not}
use Rattle.std.proofs.lemmas.Bool.{true≢false}
use Rattle.std.proofs.lemmas.List.{length-map}
use Rattle.units.specs.Classes.{class_at, classes_of, is_isolate_initiator, is_pdi, is_strong}
use Rattle.units.specs.declared.class.Class.{Class}
use Rattle.explicit.proofs.Holders.Roles.{class_read}
use Rattle.explicit.proofs.Matched.Filling.{filling_all, filling_none}
use Rattle.explicit.proofs.StrongSides.Passed.{IsHandled, at_stop, handled_opening, handled_matched, handled_strong, handled_other}
use Rattle.explicit.proofs.StrongSides.Sides.{noted_none, noted_all_inside, noted_all_outside}
use Rattle.explicit.proofs.isolates.match_partners.Goals as goal
use Rattle.explicit.proofs.isolates.match_partners.Goals.{then-is_isolate_initiator, else-is_isolate_initiator+then-is_pdi+then-depth-gt0, else-is_isolate_initiator+else-is_pdi+then-is_strong, else-is_pdi-via-then-is_pdi+else-depth-gt0, else-is_pdi-via-else-is_pdi, else-is_isolate_initiator+else-is_pdi+else-is_strong}

pub loop-p-init : goal.loop-p-init
loop-p-init g c =
    let cs : List Class = classes_of c.args.para.now in
    let len : length cs ≡ length c.args.para.now = length-map _ _ in
    let stop = c.next_stop-p.ensures.stop in
    let within = stop.within in
    let start = at_stop cs true 0 c.next_stop-p.result 0 (length c.args.partners.now) c.args.partners.now
    c.args.openers.now c.args.sides.now _ (record {
      filling = filling_none _ _ _ _ (omega (arith, len)) refl (omega arith);
      sides_fit = omega arith;
      noted = noted_none _ _;
      found = λ e. absurd (true≢false e);
    }) stop in
    rw c.next_stop-p.ensures.partners (record {
      within = omega (arith, len, within);
      filling = start.0;
      sides_fit = omega arith;
      noted = start.1;
      taken = omega (arith, c.next_stop-p.ensures.steps);
    })

pub loop-p-preserved : goal.loop-p-preserved
loop-p-preserved g c =
    let para = c.args.para.now in
    let cs : List Class = classes_of para in
    let l = c.loop-p in
    let p : ℕ = l.p in
    let room : ℕ = length c.args.partners.now in
    let len : length cs ≡ length para = length-map _ _ in
    let inside : p < length para = omega arith in
    let inside' : p < length cs = omega (arith, len) in
    let now = l.invariant.filling in
    let fit = l.invariant.sides_fit in
    let before = l.invariant.noted in
    let read = class_read para p _ inside in
    let strong : Bool = c.is_strong-is_strong.result in
    let strong_is : strong ≡ is_strong (class_at cs p) = c.is_strong-is_strong.ensures ∙ ap is_strong (sym read) in
    let after = c.if-is_isolate_initiator in
    let handled : IsHandled cs (not strong) (p + 1) after.depth room after.partners after.openers after.sides
    after.outside = elim after.branch [
      | then-is_isolate_initiator w ↦
          let o : is_isolate_initiator (class_at cs p) ≡ true = ap is_isolate_initiator read ∙
          sym c.is_isolate_initiator.ensures ∙ w.if-is_isolate_initiator.true in
          rw (w.partners-is, w.openers-is, w.sides-is, w.outside-is, w.depth-is, c.none.ensures)
          (handled_opening cs p l.depth room l.partners l.openers l.sides l.outside now fit before inside' strong
          strong_is o)
      | else-is_isolate_initiator+then-is_pdi+then-depth-gt0 w ↦
          let o : is_isolate_initiator (class_at cs p) ≡ false = ap is_isolate_initiator read ∙
          sym c.is_isolate_initiator.ensures ∙ w.if-is_isolate_initiator.false in
          let e : is_pdi (class_at cs p) ≡ true = ap is_pdi read ∙ sym w.is_pdi.ensures ∙ w.if-is_pdi.true in
          let one_more : l.depth ≡ suc (l.depth - 1) = omega (arith, w.if-depth-gt0.true) in
          rw (
            w.partners-is,
            w.openers-is,
            w.sides-is,
            w.outside-is,
            w.depth-is,
            w.some.ensures,
            w.some-then-depth-gt0.ensures,
            c.none.ensures,
          )
          (handled_matched cs p l.depth room l.partners l.openers l.sides l.outside now fit before inside' strong
          strong_is (l.depth - 1) _ one_more o e refl)
      | else-is_isolate_initiator+else-is_pdi+then-is_strong w ↦
          rw (w.partners-is, w.openers-is, w.sides-is, w.outside-is, w.depth-is, c.none.ensures)
          (handled_strong cs p l.depth room l.partners l.openers l.sides l.outside now fit before inside' strong
          strong_is w.note_strong-outside.new.sides w.note_strong-outside.result w.if-is_strong.true
          (rw read w.note_strong-outside.ensures.outside) (rw read w.note_strong-outside.ensures.inside))
      | else-is_isolate_initiator+else-is_pdi+else-is_strong w ↦
          let o : is_isolate_initiator (class_at cs p) ≡ false = ap is_isolate_initiator read ∙
          sym c.is_isolate_initiator.ensures ∙ w.if-is_isolate_initiator.false in
          let unmatched : is_pdi (class_at cs p) ≡ true → l.depth ≡ 0 = λ e. elim w.else-is_pdi.branch [
            | else-is_pdi-via-then-is_pdi+else-depth-gt0 v ↦ omega (arith, v.if-depth-gt0.false)
            | else-is_pdi-via-else-is_pdi v ↦ absurd (true≢false (sym e ∙ ap is_pdi read ∙ sym w.is_pdi.ensures ∙
                v.if-is_pdi.false))
          ] in
          rw (w.partners-is, w.openers-is, w.sides-is, w.outside-is, w.depth-is, c.none.ensures)
          (handled_other cs p l.depth room l.partners l.openers l.sides l.outside now fit before inside' strong
          strong_is o w.if-is_strong.false unmatched)
    ] in
    let stop = c.next_stop-p-in-loop-p.ensures.stop in
    let within = stop.within in
    let next = at_stop cs (not strong) (p + 1) c.next_stop-p-in-loop-p.result after.depth room after.partners
    after.openers after.sides after.outside handled stop in
    rw c.next_stop-p-in-loop-p.ensures.partners (record {
      within = omega (arith, len, within);
      filling = next.0;
      sides_fit = handled.sides_fit;
      noted = next.1;
      taken = omega (arith, c.tick.ensures, c.next_stop-p-in-loop-p.ensures.steps, l.invariant.taken);
    })

pub returns-clause-matched : goal.returns-clause-matched
returns-clause-matched g c =
    let cs : List Class = classes_of c.args.para.now in
    let l = c.loop-p in
    let len : length cs ≡ length c.args.para.now = length-map _ _ in
    let end : l.p ≡ length cs = omega (arith, len, l.invariant.within) in
    filling_all cs l.depth _ l.partners l.openers (rw end at l.invariant.filling)

pub returns-clause-sides : goal.returns-clause-sides
returns-clause-sides g c =
    let cs : List Class = classes_of c.args.para.now in
    let l = c.loop-p in
    let len : length cs ≡ length c.args.para.now = length-map _ _ in
    let end : l.p ≡ length cs = omega (arith, len, l.invariant.within) in
    noted_all_inside cs l.sides l.outside (rw end at l.invariant.noted)

pub returns-clause-outside : goal.returns-clause-outside
returns-clause-outside g c =
    let cs : List Class = classes_of c.args.para.now in
    let l = c.loop-p in
    let len : length cs ≡ length c.args.para.now = length-map _ _ in
    let end : l.p ≡ length cs = omega (arith, len, l.invariant.within) in
    noted_all_outside cs l.sides l.outside (rw end at l.invariant.noted)
