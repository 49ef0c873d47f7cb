-- An over-long line is faulty, whatever lines are before it: proofs of the property `over_long` of the tables that are
-- read line by line. They are in specs because an impl may cite no other place.
use Rattle.std.specs.Prelude.{◌≡◌, ℕ, ◌<◌, List, length, map, Some, true, refl, nat_lt, Result}
use Rattle.std.proofs.Common.{ap}
use Rattle.std.proofs.lemmas.Bool.{lt-ltb}
use Rattle.units.specs.Text.{longest_line}
use Rattle.ucdfiles.specs.declared.fault.Fault.{Fault}
use Rattle.ucdfiles.specs.declared.fault.Fault.TheVariants.{Overlap, Twice}
use Rattle.ucdfiles.specs.declared.span.Span.{Span}
use Rattle.ucdfiles.specs.declared.span.FileLine.TheVariants.{Faulty}
use Rattle.ucdfiles.specs.Faults.{over_long_line}
use Rattle.ucdfiles.specs.Statements.{fault_after, line_fault}
use Rattle.ucdfiles.specs.ClassFile.{class_line_says, class_fault}
use Rattle.ucdfiles.specs.PairFiles.{pair_line_says}

-- a line of DerivedBidiClass.txt, by itself
pub class_line_says-long : (line : List ℕ) → longest_line < length line → class_line_says line ≡ Faulty over_long_line
unfolding class_line_says
class_line_says-long line lt = let e : nat_lt longest_line (length line) ≡ true = lt-ltb _ _ lt in rw e refl

-- a line of DerivedBidiClass.txt, after the earlier ones
pub class_fault-long : (lines : List (List ℕ)) (line : List ℕ) → longest_line < length line →
    class_fault lines line ≡ Some over_long_line
class_fault-long lines line lt = ap (fault_after Overlap (map class_line_says lines)) (class_line_says-long line lt)

-- a line of the files of pairs, by itself
pub pair_line_says-long : {V : Type 0} (read : List (List ℕ) → Result (Span V) Fault) (line : List ℕ) →
    longest_line < length line → pair_line_says read line ≡ Faulty over_long_line
unfolding pair_line_says
pair_line_says-long read line lt = let e : nat_lt longest_line (length line) ≡ true = lt-ltb _ _ lt in rw e refl

-- a line of the files of pairs, after the earlier ones
pub pair_fault-long : {V : Type 0} (read : List (List ℕ) →
    Result (Span V) Fault) (lines : List (List ℕ)) (line : List ℕ) → longest_line < length line
    → line_fault (pair_line_says read) Twice lines line ≡ Some over_long_line
pair_fault-long read lines line lt =
    ap (fault_after Twice (map (pair_line_says read) lines)) (pair_line_says-long read line lt)
