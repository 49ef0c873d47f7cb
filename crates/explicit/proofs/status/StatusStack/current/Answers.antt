use Rattle.std.proofs.Common.{rules, ap, ◌∙◌}
use Rattle.explicit.specs.declared.status.Status.{Status}
use Rattle.explicit.proofs.Holders.Represented.{last-is}
use Rattle.explicit.proofs.status.StatusStack.current.Goals as goal

pub returns-clause-value : goal.returns-clause-value
returns-clause-value c = search rules

pub returns-clause-innermost : goal.returns-clause-innermost
returns-clause-innermost c = λ depth cs base qs r.
    let e = returns-clause-value c ∙ (last-is depth cs base qs c.args.self.now c.index-deref-len.result r).1 in
    (ap (λ (x : Status). x.level) e, ap (λ (x : Status). x.override_class) e)
