use Rattle.std.proofs.Common.{◌≡◌, ◌≤◌, ◌<◌, ℕ}
use Rattle.visual.specs.Spans.{level_at_place}
use Rattle.visual.proofs.line.OrderedLine.place_after.Given as goal

-- the places before this one have the level of the first
abbrev pub invariant-loop-place : goal.invariant-loop-place
invariant-loop-place l = (i : ℕ) → l.from ≤ i → i < l.place → level_at_place l.self i ≡ level_at_place l.self l.from
