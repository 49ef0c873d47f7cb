use Rattle.units.proofs.LineCuttingSteps.{ends, fails_on, fails_or_ends}
use Rattle.units.proofs.line_cut.LineCut.end.Goals as goal

pub returns-in-Within-clause-represents : goal.returns-in-Within-clause-represents
returns-in-Within-clause-represents c =
    rw (← c.self.view_is) (λ b s. rw c.saturating_add-self-inside.ensures (ends _ b c.in-Within.is s))

pub returns-in_default-clause-represents : goal.returns-in_default-clause-represents
returns-in_default-clause-represents c =
    λ b s. fails_on _ b _ (fails_or_ends _ c.requires (rw (← c.self.view_is) c.in_default.not-Within)) s
