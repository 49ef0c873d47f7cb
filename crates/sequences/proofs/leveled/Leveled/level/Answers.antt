use Rattle.std.proofs.Common.{◌∙◌, ◌≤◌, ℕ, Option, ap, subst, sym}
use Rattle.std.specs.Prelude.{IfSome}
use Rattle.std.specs.Option.{option_map}
use Rattle.sequences.proofs.FilledFrom.{within_explicit, level-explicit, level-within}
use Rattle.sequences.proofs.leveled.Leveled.level.Goals as goal

pub at-requires : goal.at-requires
at-requires c = within_explicit c.self.invariant c.self.view_is c.args.p c.requires

pub returns-clause-value : goal.returns-clause-value
returns-clause-value c =
    c.level.ensures ∙ ap (option_map (λ leveled. leveled.0)) c.at.ensures ∙
    sym (level-explicit c.self.invariant c.self.view_is c.args.p c.requires)

pub returns-clause-within : goal.returns-clause-within
returns-clause-within c =
    let P : Option ℕ → Type 0 = λ o. IfSome o (λ l. l ≤ 125) in
    subst P (sym (returns-clause-value c)) (level-within c.self.invariant c.self.view_is c.args.p c.requires)
