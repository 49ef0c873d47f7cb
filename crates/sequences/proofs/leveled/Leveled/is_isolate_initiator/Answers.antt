use Rattle.std.proofs.Common.{◌<◌, length, rules}
use Rattle.sequences.proofs.FilledFrom.{within_units}
use Rattle.sequences.proofs.leveled.Leveled.is_isolate_initiator.Goals as goal

pub bounds-para-p : goal.bounds-para-p
bounds-para-p c = within_units c.self.invariant c.self.view_is c.args.p c.requires

pub offset_bounds-para-p : goal.offset_bounds-para-p
offset_bounds-para-p c =
    let within : c.args.p < length c.self.inside.para.now =
    within_units c.self.invariant c.self.view_is c.args.p c.requires in
    search rules
