use Rattle.std.proofs.Common.{◌≡◌}
use Rattle.visual.specs.EffectiveLevelRanges.{next_remaining}
use Rattle.visual.proofs.runs.next_remaining.Given as goal

-- none remains before this one
abbrev pub invariant-loop-next : goal.invariant-loop-next
invariant-loop-next l = next_remaining l.levels l.end l.position ≡ next_remaining l.levels l.end l.next
