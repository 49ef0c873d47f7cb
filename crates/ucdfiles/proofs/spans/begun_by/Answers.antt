use Rattle.std.proofs.Common.{rules, leb}
use Rattle.std.proofs.lemmas.Bool.{leb-false}
use Rattle.std.proofs.lemmas.List.Sorted.{IsPartitionPoint-from_clause}
use Rattle.ucdfiles.specs.declared.span.Span.{Span}
use Rattle.ucdfiles.proofs.Rising.{parted_first}
use Rattle.ucdfiles.proofs.spans.begun_by.Goals as goal

pub returns-clause-above : goal.returns-clause-above
returns-clause-above g c =
    let point = IsPartitionPoint-from_clause (λ (s : Span g.row.V.Denot). leb s.first c.args.code) _ _
    c.partition_point.ensures.partitioned (parted_first c.args.spans.now c.args.code c.requires) (λ a r q k.
    search rules) in
    λ k d low high. leb-false _ _ (point.1 k d low high)
