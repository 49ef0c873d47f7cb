use Rattle.std.proofs.Common.{◌≡◌, ◌≤◌, ◌+◌, drop}
use Rattle.std.specs.List.{prefix_len}
use Rattle.units.specs.Classes.{classes_at}
use Rattle.resolve.specs.Ahead.{first_class}
use Rattle.rule_columns.specs.Runs.{in_run, ends_run}
use Rattle.rule_columns.proofs.runs.class_past.Given as goal

abbrev pub invariant-loop-position : goal.invariant-loop-position
invariant-loop-position g l = record {
  same : first_class (ends_run l.run) (classes_at l.classes (drop l.position-index l.rest)) l.end ≡
      first_class (ends_run l.run) (classes_at l.classes l.rest) l.end;
  at_least : l.initial.steps + prefix_len (in_run l.run) (classes_at l.classes l.rest) ≤
      l.steps + prefix_len (in_run l.run) (classes_at l.classes (drop l.position-index l.rest));
  at_most : l.steps + prefix_len (in_run l.run) (classes_at l.classes (drop l.position-index l.rest)) ≤
      l.initial.steps + prefix_len (in_run l.run) (classes_at l.classes l.rest);
}
