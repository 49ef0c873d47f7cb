use Rattle.units.specs.Weak.{after_weak}
use Rattle.rule_columns.proofs.RulePasses.{Rewrites-then}
use Rattle.rule_columns.proofs.weak.weak_types.Goals as goal

pub returns-clause-classes : goal.returns-clause-classes
unfolding after_weak
returns-clause-classes g c =
    Rewrites-then (Rewrites-then (Rewrites-then (Rewrites-then (Rewrites-then (Rewrites-then
    c.w1.ensures.classes c.w2.ensures.classes) c.w3.ensures.classes) c.w4.ensures.classes)
    c.w5.ensures.classes) c.w6.ensures.classes) c.w7.ensures.classes
