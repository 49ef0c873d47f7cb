use Rattle.explicit.proofs.Holders.Represented.{pdi-leaves_reached}
use Rattle.explicit.proofs.status.StatusStack.pass.Goals as goal

pub leveled_inside-requires : goal.leveled_inside-requires
leveled_inside-requires g c =
    pdi-leaves_reached c.args.self.now c.close_isolate.new.self c.requires.retained c.close_isolate.ensures.closed
