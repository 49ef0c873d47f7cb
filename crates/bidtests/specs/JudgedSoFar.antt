-- The bytes that a judge has judged.
use Rattle.std.specs.Prelude.{◌≡◌, Option, Some, None, ℕ, List, ◌++◌}
use Rattle.units.specs.LineCutting.{Cutting, Represents}
use Rattle.units.specs.Limits.{LimitsOf}
use Rattle.units.specs.Lines.{CutsInto}
use Rattle.ucdfiles.specs.Tables.{TablesOf}
use Rattle.bidtests.specs.declared.kind.Kind.{Kind}
use Rattle.bidtests.specs.declared.verdict.Verdict.{Verdict}
use Rattle.bidtests.specs.Carried.{Carried, IsAfter}
use Rattle.bidtests.specs.FileKinds.{tables_of, verdict_of}

-- the parts of a judge: the tables of its file's kind, if it has tables, the state of its line splitter, the state
-- between lines, and the failing verdict, if there is one
pub record Judging : Type 0 where
  pub tables : Option TablesOf
  pub cutting : Cutting
  pub carried : Carried
  pub decided : Option Verdict

-- undecided: no line that has ended is malformed or wrong
pub record IsOpen (limits : LimitsOf) (kind : Kind) (cutting : Cutting) (carried : Carried)
    (bytes : List ℕ) : Type 0 where
  pub splitter : Represents cutting bytes
  pub lines : List (List ℕ)
  pub rest : List ℕ
  pub cut : CutsInto bytes lines rest
  pub following : IsAfter limits kind carried lines

-- the state after these bytes: if no verdict is decided, it is the state after their lines; otherwise every file that
-- begins with these bytes has the decided verdict
abbrev pub JudgesBy : LimitsOf → Kind → Option Verdict → Cutting → Carried → List ℕ → Type 0
JudgesBy limits kind None cutting carried bytes = IsOpen limits kind cutting carried bytes
JudgesBy limits kind (Some verdict) cutting carried bytes = (more : List ℕ) →
    verdict_of limits kind (bytes ++ more) ≡ verdict

-- the judge judges files of this kind with these limits, and these bytes were passed to it, in any pieces
pub record Judges (limits : LimitsOf) (kind : Kind) (judge : Judging) (bytes : List ℕ) : Type 0 where
  pub of : judge.tables ≡ tables_of kind
  pub is : JudgesBy limits kind judge.decided judge.cutting judge.carried bytes

-- the same for each kind with these tables, or without tables
abbrev pub JudgesWith : LimitsOf → Option TablesOf → Judging → List ℕ → Type 0
JudgesWith limits tables judge bytes = (kind : Kind) → tables_of kind ≡ tables → Judges limits kind judge bytes

-- the judge has judged this piece after all that it had judged before
abbrev pub TakesPiece : List ℕ → Judging → Judging → Type 0
TakesPiece piece old new =
    (limits : LimitsOf) (kind : Kind) (b : List ℕ) → Judges limits kind old b → Judges limits kind new (b ++ piece)

-- the verdict is that on the bytes passed to the judge and then these, as the whole of a file of its kind
abbrev pub IsVerdictAfter : Judging → List ℕ → Verdict → Type 0
IsVerdictAfter judge given verdict =
    (limits : LimitsOf) (kind : Kind) (b : List ℕ) → Judges limits kind judge b
    → verdict ≡ verdict_of limits kind (b ++ given)
