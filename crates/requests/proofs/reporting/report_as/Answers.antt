use Rattle.std.proofs.Common.{[], ap, ◌∙◌, inl, inr, refl, subst}
use Rattle.units.specs.Limits.{LimitsOf}
use Rattle.report.specs.declared.terms.Leniency.{Leniency}
use Rattle.report.specs.FileReports.{is_right, report_of}
use Rattle.report.specs.Reporting.{Reports}
use Rattle.requests.specs.ReportedFiles.{report_status, terms_by}
use Rattle.requests.proofs.Reported.{status_of_report}
use Rattle.requests.proofs.reporting.report_as.Goals as goal

pub returns-in-Ok-clause-reported : goal.returns-in-Ok-clause-reported
returns-in-Ok-clause-reported g c =
    let printed = c.in-Ok.ensures.printed in
    let opened = c.in_ok-source.ensures.opened in
    let leniency = c.args.options.leniency in
    let begun = subst (λ (limits : LimitsOf). Reports (record {
      limits = limits;
      leniency =
          leniency;
    }) c.args.rows c.in_ok-report.report [] []) c.standard.ensures
    (c.in_ok-report.ensures.represents c.args.rows refl) in
    let is = printed.2 (terms_by leniency) c.args.rows begun in
    let status = c.status_of.ensures ∙ ap report_status is.outcome in
    record {
      bytes = printed.0;
      begins = g.met.F.Files.gave _ _ _ _ _ _ opened printed.1;
      read = g.met.F.Files.gave_all _ _ _ _ _ _ opened printed.1 c.in-Ok.ensures.whole;
      noted = is.text;
      status_is = status;
      as_judged = λ strict_is.
          status ∙ ap (λ (l : Leniency). report_status (is_right (report_of (terms_by l) c.args.rows printed.0)))
          strict_is ∙ status_of_report c.args.rows printed.0;
    }

pub returns-in-Err-Write-clause-fault : goal.returns-in-Err-Write-clause-fault
returns-in-Err-Write-clause-fault g c =
    let given = rw c.in-Err-Write.field-0-is at c.in-Err-Write.ensures.fault in
    inl (inr (((given.0, g.met.F.Files.gave_all _ _ _ _ _ _ c.in_ok-source.ensures.opened given.1 given.2), tt), tt))

pub returns-in-Err-NobodyReads-clause-fault : goal.returns-in-Err-NobodyReads-clause-fault
returns-in-Err-NobodyReads-clause-fault g c =
    let given = c.in-Err-NobodyReads.ensures.fault in
    inr ((given.0, g.met.F.Files.gave _ _ _ _ _ _ c.in_ok-source.ensures.opened given.1), tt)

pub returns-clause-fault : goal.returns-clause-fault
returns-clause-fault g c =
    let given = rw c.in-Err-Read.field-0-is at c.in-Err-Read.ensures.fault in
    let opened = c.in_ok-source.ensures.opened in
    let leniency = c.args.options.leniency in
    let begun = subst (λ (limits : LimitsOf). Reports (record {
      limits = limits;
      leniency =
          leniency;
    }) c.args.rows c.in_ok-report.report [] []) c.standard.ensures
    (c.in_ok-report.ensures.represents c.args.rows refl) in
    rw c.unread-unread.ensures (inr (
      refl,
      record {
        bytes = given.0;
        failed = g.met.F.Files.gave_up _ _ _ _ _ _ opened given.1 given.2.0;
        noted = given.2.1 (terms_by leniency) c.args.rows begun;
      },
    ))
