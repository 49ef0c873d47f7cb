-- The verdict on the bytes of a file, in the terms of the headline.
use Rattle.std.proofs.Common.{arith, ◌≡◌, ◌↔◌, ℕ, List, sym}
use Rattle.units.specs.Limits.{LimitsOf}
use Rattle.units.specs.Text.{lines_of}
use Rattle.bidtests.specs.declared.kind.Kind.{Kind}
use Rattle.bidtests.specs.declared.verdict.Verdict.{Verdict}
use Rattle.bidtests.specs.FileKinds.{findings_by, verdict_of}
use Rattle.bidtests.specs.Headline.{Says}
use Rattle.bidtests.proofs.SplitterSteps.{verdict-of}
use Rattle.bidtests.proofs.FileLines.{findings-ordered}
use Rattle.bidtests.proofs.VerdictsSay.{verdict-exact}

pub file-verdict : (limits : LimitsOf) (kind : Kind) (bytes : List ℕ) (v : Verdict) →
    (verdict_of limits kind bytes ≡ v) ↔ Says limits (findings_by kind (lines_of bytes)) v
file-verdict limits kind bytes v = grind (arith, verdict-exact, findings-ordered, verdict-of)

pub file-says : (limits : LimitsOf) (kind : Kind) (bytes : List ℕ) (v : Verdict) → v ≡ verdict_of limits kind bytes →
    Says limits (findings_by kind (lines_of bytes)) v
file-says limits kind bytes v e = (file-verdict limits kind bytes v).0 (sym e)
