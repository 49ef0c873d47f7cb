use Rattle.std.proofs.Common.{sym, ap, ◌∙◌}
use Rattle.units.specs.Classes.{is_isolate_initiator}
use Rattle.explicit.proofs.Holders.Represented.{within-rejected}
use Rattle.explicit.proofs.status.StatusStack.open.Goals as goal

pub returns-else-is_sound-clause-opened : goal.returns-else-is_sound-clause-opened
returns-else-is_sound-clause-opened c =
    λ cs para qs p e o r.
    c.reject.ensures.opened c.args.depth cs para qs p (within-rejected c.args.depth cs para qs p c.args.self.now r
    (sym c.is_sound.ensures ∙ c.if-is_sound.false)) (c.is_isolate_initiator.ensures ∙ ap is_isolate_initiator e) r
