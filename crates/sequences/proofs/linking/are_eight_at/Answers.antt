use Rattle.std.proofs.Common.{◌≡◌, ◌∙◌, ℕ, Some, sym, true}
use Rattle.units.specs.Runs.{at_one_level, level_of}
use Rattle.sequences.proofs.Blocks.{all_of_eight}
use Rattle.sequences.proofs.linking.are_eight_at.Goals as goal

pub returns : goal.returns
returns c =
    let P : ℕ → Type 0 = λ p. at_one_level (level_of c.args.t.now p) (Some c.args.level) ≡ true in
    all_of_eight P c.args.first _ _ _ _ _ _ _ _ (λ e. sym c.is_at.ensures ∙ e) (λ e. sym c.is_at-2.ensures ∙ e)
    (λ e. sym c.is_at-3.ensures ∙ e) (λ e. sym c.is_at-4.ensures ∙ e) (λ e. sym c.is_at-5.ensures ∙ e)
    (λ e. sym c.is_at-6.ensures ∙ e) (λ e. sym c.is_at-7.ensures ∙ e) (λ e. sym c.is_at-8.ensures ∙ e)
