use Rattle.std.proofs.Common.{arith, ap, sym, subst, ◌∙◌, ◌+◌, ◌≡◌, ℕ, suc, List}
use Rattle.units.specs.declared.bracket.Unit.{Unit as BidiUnit}
use Rattle.units.specs.declared.class.Class.{Class as BidiClass}
use Rattle.compress.specs.Laid.{stack_of, BecomesLetter, LeadsOn}
use Rattle.compress.specs.Squeeze.{is_letter_again, is_neutral_unit}
use Rattle.compress.proofs.Between.{inside_first, inside_more, inside_last, number_last}
use Rattle.compress.proofs.Counting.{at}
use Rattle.compress.proofs.pass.past_neutrals.Goals as goal
use Rattle.compress.proofs.pass.past_neutrals.Goals.{then-is_letter_again-via-then-is_letter_again, then-is_letter_again-via-else-is_letter_again+then-is_number_as}

pub returns-then-is_letter_again-clause-leads : goal.returns-then-is_letter_again-clause-leads
returns-then-is_letter_again-clause-leads c = λ d chosen starts k other e laid way.
    let us : List BidiUnit = c.args.para.now in
    let p : ℕ = c.args.p in
    let two : p + 1 + 1 ≡ p + 2 = omega arith in
    let one = inside_first d us chosen starts k p (omega arith) other (sym c.if-not-is_neutral_unit.ensures) way in
    subst (λ i. LeadsOn d us (stack_of us chosen starts (suc k) i) i) two
    (elim c.then-is_letter_again.branch [
      | then-is_letter_again-via-then-is_letter_again w ↦
          inside_last d us chosen starts k p (p + 1) (omega arith) other
          (sym (ap (λ (t : BidiClass). is_letter_again t (at us (p + 1))) e) ∙ sym c.is_letter_again.ensures ∙ w.if-is_letter_again.true) laid one
      | then-is_letter_again-via-else-is_letter_again+then-is_number_as w ↦
          number_last d us chosen starts k p (p + 1) (omega arith) other
          (subst (λ t. BecomesLetter t us (p + 1)) e (w.is_number_as.ensures w.if-is_number_as.true)) laid one
    ])

pub returns-then-is_letter_again-2-clause-leads : goal.returns-then-is_letter_again-2-clause-leads
returns-then-is_letter_again-2-clause-leads c = λ d chosen starts k other e laid way.
    let us : List BidiUnit = c.args.para.now in
    let p : ℕ = c.args.p in
    let here : p + 1 + 1 ≡ p + 2 = omega arith in
    let again = ap (λ i. is_letter_again (at chosen k).class (at us i)) here
    ∙ sym (ap (λ (t : BidiClass). is_letter_again t (at us (p + 2))) e) ∙ sym c.if-is_letter_again-2.ensures in
    let two : p + 1 + 1 + 1 ≡ p + 3 = omega arith in
    let one = inside_first d us chosen starts k p (omega arith) other (sym c.if-not-is_neutral_unit.ensures) way in
    let more = inside_more d us chosen starts k p (p + 1) (omega arith) other (sym c.if-not-is_neutral_unit-2.ensures) one in
    subst (λ i. LeadsOn d us (stack_of us chosen starts (suc k) i) i) two
    (inside_last d us chosen starts k p (p + 1 + 1) (omega arith) other again laid more)

pub returns-clause-leads : goal.returns-clause-leads
returns-clause-leads c = λ d chosen starts k other e laid way.
    let us : List BidiUnit = c.args.para.now in
    let p : ℕ = c.args.p in
    let here : p + 1 + 1 ≡ p + 2 = omega arith in
    let there : p + 1 + 1 + 1 ≡ p + 3 = omega arith in
    let neutral = ap (λ i. is_neutral_unit (at us i)) here ∙ sym c.if-not-is_neutral_unit-3.ensures in
    let again = ap (λ i. is_letter_again (at chosen k).class (at us i)) there
    ∙ sym (ap (λ (t : BidiClass). is_letter_again t (at us (p + 3))) e) ∙ sym c.if-not-is_letter_again.ensures in
    let four : p + 1 + 1 + 1 + 1 ≡ p + 4 = omega arith in
    let one = inside_first d us chosen starts k p (omega arith) other (sym c.if-not-is_neutral_unit.ensures) way in
    let two = inside_more d us chosen starts k p (p + 1) (omega arith) other (sym c.if-not-is_neutral_unit-2.ensures) one in
    let three = inside_more d us chosen starts k p (p + 1 + 1) (omega arith) other neutral two in
    subst (λ i. LeadsOn d us (stack_of us chosen starts (suc k) i) i) four
    (inside_last d us chosen starts k p (p + 1 + 1 + 1) (omega arith) other again laid three)
