use Rattle.std.proofs.Common.{arith, ap, sym, ◌∙◌, ◌≡◌, true, false, length, List}
use Rattle.std.proofs.lemmas.List.{length-map}
use Rattle.units.specs.Classes.{class_at, classes_of, is_strong}
use Rattle.units.specs.Layout.{no_unit}
use Rattle.units.specs.declared.bracket.Unit.{Unit as BidiUnit}
use Rattle.explicit.proofs.Holders.Roles.{class_read}
use Rattle.rule_columns.proofs.Outside.{undecided_start, undecided_next, decided_at, decided_nowhere}
use Rattle.rule_columns.proofs.deciding.first_strong.Goals as goal

pub loop-p-init : goal.loop-p-init
loop-p-init c = undecided_start (classes_of c.args.para.now)

pub returns-then-is_strong : goal.returns-then-is_strong
returns-then-is_strong c =
    let us : List BidiUnit = c.args.para.now in
    let n : length (classes_of us) ≡ length us = length-map us (λ (u : BidiUnit). u.class) in
    let strong : is_strong (class_at (classes_of us) c.loop-p.p) ≡ true =
    ap is_strong (class_read us c.loop-p.p no_unit c.loop-p-test.true) ∙ sym c.is_strong.ensures ∙
    c.if-is_strong.true in
    sym (decided_at (classes_of us) c.loop-p.p c.loop-p.invariant (omega arith) strong)

pub loop-p-preserved : goal.loop-p-preserved
loop-p-preserved c =
    let us : List BidiUnit = c.args.para.now in
    let n : length (classes_of us) ≡ length us = length-map us (λ (u : BidiUnit). u.class) in
    let weak : is_strong (class_at (classes_of us) c.loop-p.p) ≡ false =
    ap is_strong (class_read us c.loop-p.p no_unit c.loop-p-test.true) ∙ sym c.is_strong.ensures ∙
    c.if-is_strong.false in
    undecided_next (classes_of us) c.loop-p.p c.next_outside-p.result c.loop-p.invariant weak
    c.next_outside-p.ensures.later (omega (arith, c.next_outside-p.ensures.within))
    (λ l. c.next_outside-p.ensures.outside (omega arith)) c.next_outside-p.ensures.next

pub returns : goal.returns
returns c =
    let us : List BidiUnit = c.args.para.now in
    let n : length (classes_of us) ≡ length us = length-map us (λ (u : BidiUnit). u.class) in
    sym (decided_nowhere (classes_of us) c.loop-p.p c.loop-p.invariant (omega (arith, c.loop-p-test.false)))
