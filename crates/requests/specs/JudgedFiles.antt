-- The results of judging a file.
use Rattle.std.specs.Prelude.{◌≡◌, ℕ, List, Option}
use Rattle.std.specs.Io.KnownBytes.{Appends}
use Rattle.units.specs.Limits.{standard}
use Rattle.ucdfiles.specs.Tables.{TablesOf, unit_by}
use Rattle.bidtests.specs.FileKinds.{verdict_of}
use Rattle.bidtests.specs.declared.kind.Kind.{Kind}
use Rattle.bidtests.specs.declared.verdict.Verdict.{Verdict}
use Rattle.bidtests.specs.declared.verdict.Verdict.TheVariants.{Yes, Malformed, Wrong}
use Rattle.bidtests.specs.VerdictText.{verdict_text}
use Rattle.bidtests.specs.ClassesFile.{classes_verdict}
use Rattle.bidtests.specs.CharactersFile.{characters_verdict}
use Rattle.requests.specs.ReadFiles.{FileFacts, most_file_bytes, origin_of}
use Rattle.requests.specs.TableSources.{AreTablesBy}
use Rattle.requests.specs.declared.request.TableSource.{TableSource}

-- the exit status of a verdict: 0 for a yes, 1 for a no
abbrev pub verdict_status : Verdict → ℕ
verdict_status (Yes rows cases) = 0
verdict_status (Malformed line cause) = 1
verdict_status (Wrong line direction place) = 1

-- the exit status and the growth of the known output are those of this verdict
pub record SaysVerdict (before after : Option (List ℕ)) (verdict : Verdict) (status : ℕ) : Type 0 where
  pub status_is : status ≡ verdict_status verdict
  pub line : Appends before after (verdict_text verdict)

-- the verdict on the bytes of a file whose rows are lists of classes, with the standard limits
abbrev pub IsClassesVerdict : List ℕ → Verdict → Type 0
IsClassesVerdict bytes verdict = verdict ≡ classes_verdict standard bytes

-- the verdict on the bytes of a file whose rows are lists of code points, with the standard limits and the tables of
-- this source
abbrev pub IsCharactersVerdict : FileFacts → TableSource → List ℕ → Verdict → Type 0
IsCharactersVerdict files source bytes verdict =
    (tables : TablesOf) × AreTablesBy files source tables ×
    (verdict ≡ characters_verdict standard (unit_by tables) bytes)

-- the verdict on the bytes of a file of these rows, with the standard limits
abbrev pub IsVerdictOn : Kind → List ℕ → Verdict → Type 0
IsVerdictOn rows bytes verdict = verdict ≡ verdict_of standard rows bytes

-- FILE was read whole, and the output and the exit status are those of the verdict on its bytes
pub record HasJudged (files : FileFacts) (IsVerdict : List ℕ → Verdict →
    Type 0) (file : List ℕ) (before after : Option (List ℕ)) (status : ℕ) : Type 0 where
  pub bytes : List ℕ
  pub read : files.Holds (origin_of file) most_file_bytes bytes
  pub verdict : Verdict
  pub is : IsVerdict bytes verdict
  pub noted : SaysVerdict before after verdict status

-- the same with the tables of this source, for a file whose rows are lists of code points
abbrev pub HasJudgedBy : FileFacts → TableSource → List ℕ → Option (List ℕ) → Option (List ℕ) → ℕ → Type 0
HasJudgedBy files source file before after status =
    HasJudged files (IsCharactersVerdict files source) file before after status
