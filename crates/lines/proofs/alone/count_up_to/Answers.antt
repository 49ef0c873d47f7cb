use Rattle.std.proofs.Common.{ℕ, rules, leb}
use Rattle.std.proofs.lemmas.Bool.{leb-false, leb-true}
use Rattle.std.proofs.lemmas.List.Sorted.{IsPartitionPoint-from_clause}
use Rattle.lines.proofs.ParagraphSearch.{parted}
use Rattle.lines.proofs.alone.count_up_to.Goals as goal

pub returns-clause-below : goal.returns-clause-below
returns-clause-below c =
    let point = IsPartitionPoint-from_clause (λ (end : ℕ).
    leb end c.args.position) _ _ c.partition_point.ensures.partitioned
    (parted c.args.ends.now c.args.position c.requires) (λ a r q k. search rules) in
    λ k d low high. leb-true _ _ (point.0 k d low high)

pub returns-clause-above : goal.returns-clause-above
returns-clause-above c =
    let point = IsPartitionPoint-from_clause (λ (end : ℕ).
    leb end c.args.position) _ _ c.partition_point.ensures.partitioned
    (parted c.args.ends.now c.args.position c.requires) (λ a r q k. search rules) in
    λ k d low high. leb-false _ _ (point.1 k d low high)
