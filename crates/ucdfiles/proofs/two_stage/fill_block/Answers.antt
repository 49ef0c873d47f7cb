use Rattle.std.proofs.Common.{◌+◌, ◌∙◌, ap, arith}
use Rattle.std.specs.Option.{unwrap_or}
use Rattle.ucdfiles.specs.Stages.{value_over_all}
use Rattle.ucdfiles.proofs.Painting.{painted-value, value_in-find, value_over-everything}
use Rattle.ucdfiles.proofs.two_stage.fill_block.Goals as goal

pub returns-clause-values : goal.returns-clause-values
returns-clause-values g c k d lt =
    let code = c.args.first + k in
    let met = c.meeting.result.now in
    let defaults = c.args.defaults.now in
    c.paint_all-2.ensures.values k d (omega arith)
    ∙ ap (value_over_all code met) (c.paint_all.ensures.values k d (omega arith) ∙
    ap (value_over_all code defaults) (c.paint.ensures.values k d (omega arith) ∙
    value_over-everything code c.args.none _ (omega arith)))
    ∙ painted-value code met defaults c.args.none c.meeting.ensures.rising
    ∙ ap (λ o. unwrap_or o c.args.none) (value_in-find code met c.args.spans.now defaults
    (c.meeting.ensures.finds code (omega arith) (omega arith)))
