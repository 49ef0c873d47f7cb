use Rattle.std.proofs.Common.{◌∙◌, ℕ, Option, Some, ap, sym}
use Rattle.std.specs.Option.{option_map}
use Rattle.units.specs.Runs.{at_one_level}
use Rattle.sequences.proofs.FilledFrom.{within_explicit, level-explicit}
use Rattle.sequences.proofs.leveled.Leveled.is_at.Goals as goal

pub at-requires : goal.at-requires
at-requires c = within_explicit c.self.invariant c.self.view_is c.args.p c.requires

pub returns : goal.returns
returns c =
    c.is_at.ensures
    ∙ ap (λ (o : Option ℕ). at_one_level o (Some c.args.level)) (ap (option_map (λ leveled. leveled.0)) c.at.ensures ∙
    sym (level-explicit c.self.invariant c.self.view_is c.args.p c.requires))
