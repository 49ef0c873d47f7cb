use Rattle.std.proofs.Common.{rules, ltb}
use Rattle.std.proofs.lemmas.Bool.{ltb-true, ltb-false}
use Rattle.std.proofs.lemmas.List.Sorted.{IsPartitionPoint-from_clause}
use Rattle.ucdfiles.specs.declared.span.Span.{Span}
use Rattle.ucdfiles.proofs.Rising.{parted}
use Rattle.ucdfiles.proofs.spans.ended_before.Goals as goal

pub returns-clause-below : goal.returns-clause-below
returns-clause-below g c =
    let point = IsPartitionPoint-from_clause (λ (s : Span g.row.V.Denot). ltb s.last c.args.code) _ _
    c.partition_point.ensures.partitioned (parted c.args.spans.now c.args.code c.requires) (λ a r q k.
    search rules) in
    λ k d low high. ltb-true _ _ (point.0 k d low high)

pub returns-clause-above : goal.returns-clause-above
returns-clause-above g c =
    let point = IsPartitionPoint-from_clause (λ (s : Span g.row.V.Denot). ltb s.last c.args.code) _ _
    c.partition_point.ensures.partitioned (parted c.args.spans.now c.args.code c.requires) (λ a r q k.
    search rules) in
    λ k d low high. ltb-false _ _ (point.1 k d low high)
