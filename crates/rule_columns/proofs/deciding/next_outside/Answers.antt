use Rattle.std.proofs.Common.{arith, ap, sym, ◌∙◌, ◌≡◌, true, false, length, Some, None}
use Rattle.std.proofs.lemmas.List.{length-map}
use Rattle.units.specs.Classes.{class_at, classes_of, is_isolate_initiator}
use Rattle.units.specs.Isolates.{matching_pdi, partner_of}
use Rattle.units.specs.Layout.{no_unit}
use Rattle.units.specs.declared.bracket.Unit.{Unit as BidiUnit}
use Rattle.explicit.proofs.Matched.Matching.{opener_is_no_pdi}
use Rattle.explicit.proofs.Matched.Nesting.{match_bounds}
use Rattle.explicit.proofs.Matched.PartnerOf.{partner_of_other}
use Rattle.explicit.proofs.Holders.Roles.{class_read}
use Rattle.rule_columns.proofs.Outside.{outside_next, outside_match, inside_match, inside_unmatched}
use Rattle.rule_columns.proofs.deciding.next_outside.Goals as goal

pub returns-then-not-is_isolate_initiator-clause-outside : goal.returns-then-not-is_isolate_initiator-clause-outside
returns-then-not-is_isolate_initiator-clause-outside c =
    let cs = classes_of c.args.para.now in
    let plain : is_isolate_initiator (class_at cs c.args.p) ≡ false =
    ap is_isolate_initiator (class_read c.args.para.now c.args.p no_unit c.requires.inside) ∙
    sym c.is_isolate_initiator.ensures ∙ c.if-not-is_isolate_initiator.true in
    λ l. outside_next cs c.args.p c.requires.outside plain

pub returns-in-Some : goal.returns-in-Some
returns-in-Some c =
    let cs = classes_of c.args.para.now in
    let n : length (classes_of c.args.para.now) ≡ length c.args.para.now =
    length-map c.args.para.now (λ (u : BidiUnit). u.class) in
    let opener : is_isolate_initiator (class_at cs c.args.p) ≡ true =
    ap is_isolate_initiator (class_read c.args.para.now c.args.p no_unit c.requires.inside) ∙
    sym c.is_isolate_initiator.ensures ∙ c.if-not-is_isolate_initiator.false in
    let found : partner_of cs c.args.p ≡ matching_pdi cs c.args.p =
    partner_of_other cs c.args.p (opener_is_no_pdi (class_at cs c.args.p) opener) in
    let match : matching_pdi cs c.args.p ≡ Some c.in-Some.pdi =
    sym found ∙ sym (c.partner.ensures.matched cs c.requires.isolates (omega arith)) ∙ c.in-Some.is in
    let bounds = match_bounds cs c.args.p c.in-Some.pdi match in
    record {
      later = bounds.0;
      within = omega (arith, bounds.1);
      outside = λ l. outside_match cs c.args.p c.requires.outside c.in-Some.pdi bounds.0 match;
      next = inside_match cs c.args.p c.requires.outside opener c.in-Some.pdi match;
    }

pub returns-in-None-clause-next : goal.returns-in-None-clause-next
returns-in-None-clause-next c =
    let cs = classes_of c.args.para.now in
    let n : length (classes_of c.args.para.now) ≡ length c.args.para.now =
    length-map c.args.para.now (λ (u : BidiUnit). u.class) in
    let opener : is_isolate_initiator (class_at cs c.args.p) ≡ true =
    ap is_isolate_initiator (class_read c.args.para.now c.args.p no_unit c.requires.inside) ∙
    sym c.is_isolate_initiator.ensures ∙ c.if-not-is_isolate_initiator.false in
    let found : partner_of cs c.args.p ≡ matching_pdi cs c.args.p =
    partner_of_other cs c.args.p (opener_is_no_pdi (class_at cs c.args.p) opener) in
    let match : matching_pdi cs c.args.p ≡ None =
    sym found ∙ sym (c.partner.ensures.matched cs c.requires.isolates (omega arith)) ∙ c.in-None.is in
    λ q following l. inside_unmatched cs c.args.p c.requires.outside opener match q following
