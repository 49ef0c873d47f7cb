use Rattle.std.proofs.Common.{ap, sym, ◌∙◌}
use Rattle.units.specs.Classes.{is_isolate_formatting}
use Rattle.explicit.proofs.Holders.Roles.{class_read}
use Rattle.explicit.proofs.isolates.is_formatting_at.Goals as goal

pub returns : goal.returns
returns c = c.is_isolate_formatting.ensures ∙
    ap is_isolate_formatting (sym (class_read c.args.para.now c.args.p _ c.requires))
