use Rattle.std.proofs.Common.{◌≡◌, ◌≤◌, ◌<◌, ◌+◌, ◌-◌, ℕ, suc, true, false, List, length, slice_index_or}
use Rattle.std.specs.Prelude.{◌&&◌, ◌||◌}
use Rattle.units.specs.Classes.{is_removed}
use Rattle.units.specs.Layout.{no_unit}
use Rattle.units.specs.declared.bracket.Unit.{Unit as BidiUnit}
use Rattle.units.specs.declared.class.Class.{Class as BidiClass}
use Rattle.compress.specs.Laid.{stack_of, IsLaid, LeadsOn}
use Rattle.compress.specs.PassedSets.{has}
use Rattle.compress.specs.Squeeze.{is_bare, is_open_letter, passes_after}
use Rattle.compress.proofs.pass.pass_words.Given as goal

abbrev pub invariant-loop-p : goal.invariant-loop-p
invariant-loop-p g l = record {
  from_start : l.start ≤ l.p;
  later : l.p ≤ l.next;
  within : l.next ≤ length l.para;
  leads : (direction : BidiClass) (chosen starts : List BidiUnit) (k : ℕ) → is_open_letter direction (slice_index_or chosen k no_unit) ≡ true →
      l.letter ≡ (slice_index_or chosen k no_unit).class →
      ((next : BidiClass) → has l.set next ≡ passes_after direction (slice_index_or chosen k no_unit) next) → IsLaid l.para starts (suc k) l.start →
      LeadsOn direction l.para (stack_of l.para chosen starts (suc k) l.start) l.start →
      LeadsOn direction l.para (stack_of l.para chosen starts (suc k) l.next) l.next;
  stopped : l.p < length l.para → (has l.set (slice_index_or l.para l.p no_unit).class
      && (is_bare (slice_index_or l.para l.p no_unit).bracket || is_removed (slice_index_or l.para l.p no_unit).class)) ≡ false;
  steps : l.steps + l.initial.p ≡ l.initial.steps + l.p;
}

abbrev pub decreases-loop-p : goal.decreases-loop-p
decreases-loop-p g l = length l.para - l.p
