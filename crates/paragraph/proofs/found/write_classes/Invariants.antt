use Rattle.std.proofs.Common.{◌≡◌, ◌<◌, ◌+◌, ℕ, None, take, true, false}
use Rattle.std.specs.List.{list_any}
use Rattle.units.specs.Brackets.{is_open}
use Rattle.units.specs.Classes.{classes_of}
use Rattle.units.specs.Layout.{current_of}
use Rattle.resolve.specs.Raised.{resolved_at}
use Rattle.paragraph.proofs.found.write_classes.Given as goal

abbrev pub invariant-loop-p : goal.invariant-loop-p
invariant-loop-p g l = record {
  opened : l.opened ≡ list_any (λ unit. is_open unit.bracket) (take l.p l.para);
  own : l.flat ≡ true → take l.p l.before ≡ classes_of (take l.p l.para);
  found : l.flat ≡ false → take l.p l.before ≡ current_of (take l.p l.explicit);
  copy : take l.p l.classes ≡ take l.p l.before;
  none : (q : ℕ) → q < l.p → resolved_at l.levels q ≡ None;
  steps : l.steps ≡ l.initial.steps + l.p;
}
