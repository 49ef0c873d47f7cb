use Rattle.std.proofs.Common.{sym, refl}
use Rattle.units.specs.Classes.{classes_at}
use Rattle.resolve.proofs.Idle.{after_weak-idle}
use Rattle.resolve.proofs.sequence.weak_if_present.Goals as goal

pub returns-else-wanted-clause-classes : goal.returns-else-wanted-clause-classes
returns-else-wanted-clause-classes g c = record {
  values = sym (after_weak-idle c.args.s.now.sos (classes_at c.args.classes.now c.args.s.now.positions)
      (c.requires.wanted c.if-wanted.false));
  others = λ p h. refl;
}
