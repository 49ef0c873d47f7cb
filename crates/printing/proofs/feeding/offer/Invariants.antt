use Rattle.std.specs.Io.KnownBytes.{Keeps}
use Rattle.printing.proofs.feeding.offer.Given as goal

abbrev pub invariant-loop : goal.invariant-loop
invariant-loop g l = Keeps (g.W.Write.contents l.initial.w) (g.W.Write.contents l.w)
