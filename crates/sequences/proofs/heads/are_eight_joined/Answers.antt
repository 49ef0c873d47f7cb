use Rattle.std.proofs.Common.{◌≡◌, ℕ, true}
use Rattle.sequences.specs.Links.{is_joined}
use Rattle.sequences.proofs.Blocks.{none_of_eight, not_free}
use Rattle.sequences.proofs.heads.are_eight_joined.Goals as goal

pub returns : goal.returns
returns c =
    let P : ℕ → Type 0 = λ p. is_joined c.args.joined.now p ≡ true in
    none_of_eight P c.args.first _ _ _ _ _ _ _ _ (not_free _ _ c.is_free.ensures) (not_free _ _ c.is_free-2.ensures)
    (not_free _ _ c.is_free-3.ensures) (not_free _ _ c.is_free-4.ensures) (not_free _ _ c.is_free-5.ensures)
    (not_free _ _ c.is_free-6.ensures) (not_free _ _ c.is_free-7.ensures) (not_free _ _ c.is_free-8.ensures)
