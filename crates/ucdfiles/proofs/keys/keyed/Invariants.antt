use Rattle.std.proofs.Common.{take}
use Rattle.ucdfiles.proofs.Keyed.{AreKeyedSoFar}
use Rattle.ucdfiles.proofs.keys.keyed.Given as goal

abbrev pub invariant-loop-span : goal.invariant-loop-span
invariant-loop-span l = AreKeyedSoFar l.numbering (take l.span-index l.spans) l.brackets.items
