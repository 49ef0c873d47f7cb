-- A call on the report of a handle, without a report.
use Rattle.std.proofs.Common.{ℕ, ◌≡◌, Option, None, Result, Err, refl}
use Rattle.for_c.specs.Statuses.{ReturnsStatus}
use Rattle.for_c.specs.declared.call_error.CallError.{CallError}
use Rattle.for_c.specs.declared.call_error.CallError.TheVariants.{NoReport}
use Rattle.for_c.specs.declared.report_for_c.ReportForC.{ReportForC}
use Rattle.bidi_c.specs.ContentsIn.{report_in}
use Rattle.bidi_c.specs.ReportsAt.{AtReport}
use Rattle.bidi_c.specs.declared.contents.Contents.{Contents}

module _ {A : Type 0} {IsSo : ReportForC → ReportForC → Result A CallError →
    Type 0} {before after : A} {status : ℕ} where
  pub no_report : {old new : Option Contents} → report_in old ≡ None → new ≡ old → after ≡ before → status ≡ 26 →
      ReturnsStatus (AtReport IsSo old new before after) status
  no_report none same unchanged coded = record {
    outcome = Err NoReport;
    coded = coded;
    so =
        record { at = rw none (refl, same, unchanged) };
  }
