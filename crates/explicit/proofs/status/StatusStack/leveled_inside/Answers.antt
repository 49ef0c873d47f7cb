use Rattle.std.proofs.Common.{ap, ◌∙◌}
use Rattle.std.specs.Prelude.{Some}
use Rattle.units.specs.declared.class.Class.{Class}
use Rattle.explicit.proofs.Holders.Represented.{retained-bounded, leveled_in-by}
use Rattle.explicit.proofs.status.StatusStack.leveled_inside.Goals as goal

pub current-current-requires : goal.current-current-requires
current-current-requires c = let b = retained-bounded c.args.self.now c.requires in b.some

pub returns : goal.returns
returns c = λ depth cs base qs u v r. c.some.ensures ∙
    ap (λ (x : Class). Some (c.current-current.result.level, x)) c.unwrap_or.ensures ∙
    leveled_in-by depth cs base qs c.args.self.now c.args.class c.current-current.result r u v
    c.current-current.ensures.value
