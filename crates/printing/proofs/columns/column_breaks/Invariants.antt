use Rattle.std.proofs.Common.{◌≡◌}
use Rattle.printing.specs.Columns.{paragraph_start, is_column_break}
use Rattle.printing.proofs.Breaks.{passing}
use Rattle.printing.proofs.columns.column_breaks.Given as goal

abbrev pub invariant-loop-p : goal.invariant-loop-p
invariant-loop-p l =
    (l.start ≡ paragraph_start l.text l.p) × (l.breaks.items ≡ passing (is_column_break l.text l.columns) l.p)
