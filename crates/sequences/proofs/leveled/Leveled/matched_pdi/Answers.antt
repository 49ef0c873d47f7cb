use Rattle.std.proofs.Common.{◌≡◌, ◌∙◌, sym, true, rules, subst, ◌<◌, ℕ}
use Rattle.std.specs.Prelude.{Option, IfSome}
use Rattle.units.specs.Classes.{class_at, classes_of, is_isolate_initiator}
use Rattle.units.specs.Runs.{size_of}
use Rattle.sequences.proofs.FilledFrom.{within_classes, matched-partner, leveled_later}
use Rattle.sequences.proofs.leveled.Leveled.matched_pdi.Goals as goal

pub returns-then-is_isolate_initiator-clause-value : goal.returns-then-is_isolate_initiator-clause-value
returns-then-is_isolate_initiator-clause-value c =
    let i : is_isolate_initiator (class_at c.args.self.now.classes c.args.p) ≡ true = search rules in
    c.partner.ensures.matched (classes_of c.self.inside.para.now) c.self.invariant.matched
    (within_classes c.self.invariant c.self.view_is c.args.p c.requires)
    ∙ sym (matched-partner c.self.invariant c.self.view_is c.args.p c.requires i)

pub returns-then-is_isolate_initiator-clause-later : goal.returns-then-is_isolate_initiator-clause-later
returns-then-is_isolate_initiator-clause-later c =
    let P : Option ℕ → Type 0 = λ o. IfSome o (λ q. (c.args.p < q) × (q < size_of c.args.self.now)) in
    subst P (sym (returns-then-is_isolate_initiator-clause-value c))
    (leveled_later c.self.invariant c.self.view_is c.args.p c.requires)
