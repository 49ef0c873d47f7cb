use Rattle.std.proofs.Common.{◌≡◌, ◌≤◌, ◌<◌, ◌+◌, ◌-◌, ℕ, true, length, slice_index_or}
use Rattle.std.specs.Prelude.{◌||◌}
use Rattle.units.specs.Classes.{is_removed}
use Rattle.units.specs.Layout.{no_unit}
use Rattle.compress.specs.PassedSets.{has}
use Rattle.compress.specs.Squeeze.{is_bare}
use Rattle.compress.proofs.pass.pass_singly.Given as goal

abbrev pub invariant-loop-p : goal.invariant-loop-p
invariant-loop-p g l = record {
  from_start : l.start ≤ l.p;
  within : l.p ≤ length l.para;
  passed : (p : ℕ) → l.start ≤ p → p < l.p → has l.set (slice_index_or l.para p no_unit).class ≡ true;
  bare : (p : ℕ) → l.start ≤ p → p < l.p → (is_bare (slice_index_or l.para p no_unit).bracket || is_removed (slice_index_or l.para p no_unit).class) ≡ true;
  steps : l.steps + l.start ≡ l.initial.steps + l.p;
}

abbrev pub decreases-loop-p : goal.decreases-loop-p
decreases-loop-p g l = length l.para - l.p
