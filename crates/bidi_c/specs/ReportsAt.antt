-- What a call does to the report of a handle.
use Rattle.std.specs.Prelude.{◌≡◌, Option, Some, None, IsSome, MatchOption, MatchResult, Result, Ok, Err}
use Rattle.std.specs.Option.{option_map}
use Rattle.units.specs.Limits.{LimitsOf}
use Rattle.ucdfiles.specs.Tables.{TablesOf}
use Rattle.for_c.specs.Statuses.{Outcome, Puts}
use Rattle.for_c.specs.ReportsForC.{IsNewReport}
use Rattle.for_c.specs.declared.call_error.CallError.{CallError}
use Rattle.for_c.specs.declared.call_error.CallError.TheVariants.{Memory, NoReport}
use Rattle.for_c.specs.declared.report_for_c.ReportForC.{ReportForC}
use Rattle.bidi_c.specs.ContentsIn.{report_in, tables_in, with_report}
use Rattle.bidi_c.specs.Sharing.{RejectsSharing}
use Rattle.bidi_c.specs.declared.contents.Contents.{Contents}

-- a report is in the handle, and `IsSo` holds of it
abbrev pub OfReport : Option Contents → (ReportForC → Type 0) → Type 0
OfReport contents IsSo = MatchOption (report_in contents) ⊥ IsSo

-- the contents of a handle after a call that makes a report with these tables, or without tables, and limits
abbrev pub MakesReport : Option TablesOf → LimitsOf → Option Contents → Option Contents → Outcome → Type 0
MakesReport tables limits old new outcome =
    Puts (λ contents. OfReport contents (λ report. IsNewReport limits tables report)) (λ error.
    error ≡ Memory) old new outcome

-- the contents of a handle after a call that makes a report on a BidiCharacterTest.txt with these limits and the tables
-- of another handle, if that has tables
abbrev pub MakesTableReport : Option Contents → LimitsOf → Option Contents → Option Contents → Outcome → Type 0
MakesTableReport tables limits old new outcome =
    Puts (λ contents. IsSome (tables_in tables) ×
    OfReport contents (λ report. IsNewReport limits (tables_in tables) report))
    (RejectsSharing tables) old new outcome

-- a result is written to a place if it is a value; else the place is unchanged, and the call fails with the result's
-- error
abbrev pub IsPut : {A : Type 0} → Result A CallError → A → A → Outcome → Type 0
IsPut result before after outcome =
    MatchResult result (λ value. (outcome ≡ Ok tt) × (after ≡ value)) (λ error. (outcome ≡ Err error) ×
    (after ≡ before))

-- a call on the report of a handle: `IsSo` holds of the report before and after and of a result, which is written to a
-- place, and only the report changes in the handle; without a report the call fails, and all is unchanged
pub record AtReport {A : Type 0} (IsSo : ReportForC → ReportForC → Result A CallError →
    Type 0) (old new : Option Contents) (before after : A) (outcome : Outcome) : Type 0 where
  pub at : MatchOption (report_in old) ((outcome ≡ Err NoReport) × (new ≡ old) × (after ≡ before))
      (λ report. (last : ReportForC) × (result : Result A CallError) ×
      (new ≡ option_map (λ contents. with_report contents last) old) × IsSo report last result
      × IsPut result before after outcome)
