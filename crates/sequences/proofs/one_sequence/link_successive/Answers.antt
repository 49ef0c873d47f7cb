use Rattle.std.proofs.Common.{arith, ◌≡◌, ◌∙◌, ◌-◌, length, ℕ, None}
use Rattle.std.proofs.lemmas.List.{get_or-set_other, get_or-set_same}
use Rattle.sequences.proofs.Remaining.{successive_chain}
use Rattle.sequences.proofs.one_sequence.link_successive.Goals as goal

pub returns-clause-chain : goal.returns-clause-chain
returns-clause-chain g c =
    let n : ℕ = length c.args.links.now in
    let links = c.loop-p.links in
    let long : length links ≡ n = c.loop-p.auto.links in
    successive_chain n _
    (λ p lt. get_or-set_other links (n - 1) p c.none.result None (λ e. omega arith) ∙
    c.loop-p.invariant.linked p (omega arith))
    (get_or-set_same links (n - 1) c.none.result None (omega arith) ∙ c.none.ensures)
