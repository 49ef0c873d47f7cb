-- The verdict and the state of a judge depend on the tables of the file's kind, not on where the tables are.
use Rattle.std.proofs.Common.{arith, ◌≡◌, ℕ, Option, None, Some, List, ◌++◌, map, refl, sym, ap, ◌∙◌}
use Rattle.units.specs.LineCutting.{Cutting}
use Rattle.units.specs.Limits.{LimitsOf}
use Rattle.ucdfiles.specs.Tables.{TablesOf, unit_by}
use Rattle.bidtests.specs.declared.kind.Kind.{Kind}
use Rattle.bidtests.specs.declared.kind.Kind.TheVariants.{Classes, Characters}
use Rattle.bidtests.specs.declared.verdict.Verdict.{Verdict}
use Rattle.bidtests.specs.Verdicts.{Finding}
use Rattle.bidtests.specs.ClassesFile.{classes_findings, classes_verdict}
use Rattle.bidtests.specs.CharactersFile.{characters_line, characters_verdict}
use Rattle.bidtests.specs.FileKinds.{findings_by, tables_of, verdict_of}
use Rattle.bidtests.specs.Carried.{Carried, AreInForce, IsAfter}
use Rattle.bidtests.specs.JudgedSoFar.{JudgesBy}

abbrev findings_with : Option TablesOf → List (List ℕ) → List Finding
findings_with None lines = classes_findings lines
findings_with (Some tables) lines = map (characters_line (unit_by tables)) lines

abbrev verdict_with : LimitsOf → Option TablesOf → List ℕ → Verdict
verdict_with limits None bytes = classes_verdict limits bytes
verdict_with limits (Some tables) bytes = characters_verdict limits (unit_by tables) bytes

findings-with : (kind : Kind) (lines : List (List ℕ)) → findings_by kind lines ≡ findings_with (tables_of kind) lines
findings-with Classes lines = refl
findings-with (Characters tables) lines = refl

verdict-with : (limits : LimitsOf) (kind : Kind) (bytes : List ℕ) →
    verdict_of limits kind bytes ≡ verdict_with limits (tables_of kind) bytes
verdict-with limits Classes bytes = refl
verdict-with limits (Characters tables) bytes = refl

pub in-force-as : (kind other : Kind) → tables_of other ≡ tables_of kind →
    (levels : Option (List (Option ℕ))) (order : Option (List ℕ)) (lines : List (List ℕ))
    → AreInForce kind levels order lines → AreInForce other levels order lines
in-force-as Classes Classes e levels order lines h = h
in-force-as Classes (Characters tables) e levels order lines h = tt
in-force-as (Characters tables) Classes e levels order lines h = absurd (cc)
in-force-as (Characters tables) (Characters others) e levels order lines h = tt

module _ (limits : LimitsOf) (kind other : Kind) (same : tables_of other ≡ tables_of kind) where
  pub findings-as : (lines : List (List ℕ)) → findings_by kind lines ≡ findings_by other lines
  findings-as lines = findings-with kind lines ∙ ap (λ t. findings_with t lines) (sym same) ∙
      sym (findings-with other lines)

  pub verdict-as : (b : List ℕ) → verdict_of limits other b ≡ verdict_of limits kind b
  verdict-as b = verdict-with limits other b ∙ ap (λ t. verdict_with limits t b) same ∙ sym (verdict-with limits kind b)

  following-as : (s : Carried) (lines : List (List ℕ)) → IsAfter limits kind s lines → IsAfter limits other s lines
  following-as s lines h = grind (arith, findings-as, in-force-as)

  pub judges-as : (decided : Option Verdict) (cutting : Cutting) (s : Carried) (b : List ℕ) →
      JudgesBy limits kind decided cutting s b → JudgesBy limits other decided cutting s b
  judges-as None cutting s b h =
      record {
        splitter = h.splitter;
        lines = h.lines;
        rest = h.rest;
        cut = h.cut;
        following =
            following-as s h.lines h.following;
      }
  judges-as (Some verdict) cutting s b h = λ more. verdict-as (b ++ more) ∙ h more
