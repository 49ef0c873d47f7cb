use Rattle.ucdfiles.proofs.Neutral.{HoldsNeutrals}
use Rattle.ucdfiles.proofs.tables.are_neutral.Given as goal

abbrev pub invariant-loop-span : goal.invariant-loop-span
invariant-loop-span l = HoldsNeutrals l.classes l.span-items l.span-index
