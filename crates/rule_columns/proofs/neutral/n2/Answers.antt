use Rattle.std.proofs.Common.{arith, rules, length, ◌≡◌, ap, ◌∙◌}
use Rattle.units.specs.Runs.{direction_of}
use Rattle.sequences.specs.Links.{ArePositions}
use Rattle.resolve.proofs.Passes.{pass_end}
use Rattle.rule_columns.proofs.RulePasses.{each_pass_start, each_pass_write}
use Rattle.rule_columns.specs.Passes.{by_n2, after_n2}
use Rattle.rule_columns.proofs.neutral.n2.Goals as goal

pub loop-position-init : goal.loop-position-init
loop-position-init c =
    let fit : ArePositions c.as_slice-positions.result.now (length c.args.classes.now) =
    rw (c.as_slice-positions.ensures.value, c.requires) c.as_slice-positions.ensures.rise in
    each_pass_start (by_n2 c.direction-embedding.result) c.as_slice-positions.result.now c.args.classes.now fit

pub loop-position-preserved : goal.loop-position-preserved
loop-position-preserved c =
    each_pass_write (by_n2 c.direction-embedding.result) c.loop-position.invariant (omega arith) c.by_n2.result
    (search rules)

pub returns : goal.returns
returns c =
    let embedding : c.direction-embedding.result ≡ direction_of c.args.s.now.level = c.direction-embedding.ensures ∙
    ap direction_of c.level.ensures.value in
    rw (← embedding, ← c.as_slice-positions.ensures.value)
    (pass_end (after_n2 c.direction-embedding.result) c.loop-position.invariant (omega arith) (omega arith))
