use Rattle.std.proofs.Common.{◌≡◌, ◌+◌, ℕ, Some}
use Rattle.sequences.specs.Links.{link_at}
use Rattle.sequences.proofs.Blocks.{all_of_four}
use Rattle.sequences.proofs.heads.lead_on_four.Goals as goal

pub returns : goal.returns
returns c =
    let P : ℕ → Type 0 = λ p. link_at c.args.links.now p ≡ Some (p + 1) in
    all_of_four P c.args.first _ _ _ _ c.leads_on.ensures.0 c.leads_on-2.ensures.0 c.leads_on-3.ensures.0
    c.leads_on-4.ensures.0
