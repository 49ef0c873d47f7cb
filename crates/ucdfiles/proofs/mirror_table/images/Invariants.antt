use Rattle.std.proofs.Common.{◌≡◌, ℕ, Some, map, take}
use Rattle.ucdfiles.specs.Spans.{revalued}
use Rattle.ucdfiles.proofs.mirror_table.images.Given as goal

abbrev pub invariant-loop-span : goal.invariant-loop-span
invariant-loop-span l = l.images.items ≡ map (revalued (λ (c : ℕ). Some c)) (take l.span-index l.spans)
