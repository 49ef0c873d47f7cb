use Rattle.std.proofs.Common.{◌≡◌, ◌≤◌, ◌+◌, drop}
use Rattle.std.specs.List.{prefix_len}
use Rattle.units.specs.Classes.{classes_at, is_terminator}
use Rattle.units.specs.declared.class.Class.TheVariants.{ON}
use Rattle.resolve.specs.Ahead.{first_class}
use Rattle.resolve.specs.ThroughW3.{all_by_w1_to_w3, is_no_terminator}
use Rattle.resolve.proofs.preceding.Preceding.past_terminators.Given as goal

abbrev pub invariant-loop-position : goal.invariant-loop-position
invariant-loop-position g l = record {
  same : first_class is_no_terminator (all_by_w1_to_w3 l.self (classes_at l.classes (drop l.position-index l.rest))) ON
      ≡ first_class is_no_terminator (all_by_w1_to_w3 l.fn.self (classes_at l.classes l.rest)) ON;
  at_least : l.initial.steps ≤ l.steps;
  at_most : l.steps + prefix_len is_terminator
      (all_by_w1_to_w3 l.self (classes_at l.classes (drop l.position-index l.rest))) ≤
      l.initial.steps + prefix_len is_terminator (all_by_w1_to_w3 l.fn.self (classes_at l.classes l.rest));
}
