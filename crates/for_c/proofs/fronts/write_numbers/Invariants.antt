use Rattle.std.proofs.Common.{◌≡◌, ◌<◌, ℕ, length, slice_index, Some}
use Rattle.ucdfiles.specs.Tables.{bracket_by, class_by}
use Rattle.sources.specs.ClassNumbers.{class_numbered}
use Rattle.for_c.specs.Properties.{bracket_number}
use Rattle.for_c.proofs.fronts.write_numbers.Given as goal

-- the numbers before i are written
abbrev pub invariant-loop-i : goal.invariant-loop-i
invariant-loop-i l =
    record {
      classes_len : length l.classes ≡ length l.codes;
      brackets_len : length l.brackets ≡ length l.codes;
      classes : (k : ℕ) → k < l.i →
          class_numbered (slice_index l.classes k) ≡ Some (class_by l.tables.classes (slice_index l.codes k));
      brackets : (k : ℕ) → k < l.i →
          slice_index l.brackets k ≡ bracket_number (bracket_by l.tables.brackets (slice_index l.codes k));
    }
