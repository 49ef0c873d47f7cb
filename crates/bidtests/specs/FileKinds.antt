-- The two kinds of test files, and the verdict on a file of each.
use Rattle.std.specs.Prelude.{ℕ, List, Option, Some, None}
use Rattle.std.specs.Arc.{arc_value}
use Rattle.units.specs.Limits.{LimitsOf}
use Rattle.ucdfiles.specs.Tables.{TablesOf, unit_by}
use Rattle.bidtests.specs.declared.kind.Kind.{Kind}
use Rattle.bidtests.specs.declared.kind.Kind.TheVariants.{Classes, Characters}
use Rattle.bidtests.specs.declared.kind.StoredKind.{StoredKind}
use Rattle.bidtests.specs.declared.kind.StoredKind.TheVariants.{Borrowed, Shared}
use Rattle.bidtests.specs.declared.verdict.Verdict.{Verdict}
use Rattle.bidtests.specs.Verdicts.{Finding}
use Rattle.bidtests.specs.ClassesFile.{classes_findings, classes_verdict}
use Rattle.bidtests.specs.CharactersFile.{characters_findings, characters_verdict}

-- the tables for files of this kind, if the kind has tables
abbrev pub tables_of : Kind → Option TablesOf
tables_of Classes = None
tables_of (Characters tables) = Some tables.now

-- the same of a kind that is stored
abbrev pub stored_tables : StoredKind → Option TablesOf
stored_tables (Borrowed kind) = tables_of kind
stored_tables (Shared tables) = Some (arc_value tables)

-- the findings of a file's lines
abbrev pub findings_by : Kind → List (List ℕ) → List Finding
findings_by Classes lines = classes_findings lines
findings_by (Characters tables) lines = characters_findings (unit_by tables.now) lines

-- the verdict on the bytes of a file of this kind, with these limits
abbrev pub verdict_of : LimitsOf → Kind → List ℕ → Verdict
verdict_of limits Classes bytes = classes_verdict limits bytes
verdict_of limits (Characters tables) bytes = characters_verdict limits (unit_by tables.now) bytes
