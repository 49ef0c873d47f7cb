use Rattle.std.proofs.Common.{arith, ap, sym, subst, ◌∙◌, ◌+◌, ◌≡◌, ℕ, suc, true, List}
use Rattle.units.specs.declared.bracket.Unit.{Unit as BidiUnit}
use Rattle.units.specs.declared.class.Class.{Class as BidiClass}
use Rattle.compress.specs.Laid.{stack_of, LeadsOn}
use Rattle.compress.specs.Squeeze.{is_letter_again}
use Rattle.compress.proofs.Between.{inside_last, weak_first}
use Rattle.compress.proofs.Counting.{at}
use Rattle.compress.proofs.pass.past_weak.Goals as goal

pub returns-then-is_letter_again-clause-leads : goal.returns-then-is_letter_again-clause-leads
returns-then-is_letter_again-clause-leads c = λ d chosen starts k other e laid way.
    let us : List BidiUnit = c.args.para.now in
    let p : ℕ = c.args.p in
    let two : p + 1 + 1 ≡ p + 2 = omega arith in
    let again : is_letter_again (at chosen k).class (at us (p + 1)) ≡ true =
    sym (ap (λ (t : BidiClass). is_letter_again t (at us (p + 1))) e) ∙ sym c.is_letter_again.ensures ∙ c.if-is_letter_again.true in
    let one = weak_first d us chosen starts k p (omega (arith, c.requires)) other (sym c.is_terminator_unit.ensures ∙ c.if-is_terminator_unit.true) again way in
    subst (λ i. LeadsOn d us (stack_of us chosen starts (suc k) i) i) two
    (inside_last d us chosen starts k p (p + 1) (omega (arith, c.requires)) other again laid one)
