-- The judge's verdict on files of cases.
use Rattle.std.specs.Prelude.{◌≡◌, List, length}
use Rattle.units.specs.Limits.{LimitsOf}
use Rattle.units.specs.Lines.{saturated}
use Rattle.bidtests.specs.declared.kind.Kind.{Kind}
use Rattle.bidtests.specs.declared.verdict.Verdict.TheVariants.{Yes}
use Rattle.bidtests.specs.FileKinds.{verdict_of}
use Rattle.rows.specs.RowTexts.{Case, cases_text}

-- the verdict on the file of these cases, read as a file of this kind, is yes, and each case is a row with one case
abbrev pub JudgeSaysYes : LimitsOf → Kind → List Case → Type 0
JudgeSaysYes limits kind cases =
    verdict_of limits kind (cases_text limits kind cases) ≡ Yes (saturated (length cases)) (saturated (length cases))
