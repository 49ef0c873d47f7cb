use Rattle.std.proofs.Common.{[], ◌∷◌, inl, refl}
use Rattle.requests.proofs.FirstFaults.{first_of_all, has_rows}
use Rattle.requests.proofs.Reported.{passed_fail, rows_fail}
use Rattle.requests.specs.Parts.{opening_part, row_table_parts}
use Rattle.requests.specs.ReadFiles.{most_file_bytes}
use Rattle.requests.specs.declared.request.Request.TheVariants.{Report}
use Rattle.requests.proofs.reporting.report_file.Goals as goal

pub returns-in_err-tables-clause-fault : goal.returns-in_err-tables-clause-fault
returns-in_err-tables-clause-fault g c =
    let files = g.F.Files.facts c.args.files.now in
    passed_fail files _ _ (Report c.args.asked.kind c.args.asked.tables c.args.asked.file c.args.asked.options)
    c.from_residual.result _
    c.from_residual.ensures.1
    (inl (
      first_of_all (row_table_parts files c.args.asked.kind c.args.asked.tables)
          (opening_part files most_file_bytes c.args.asked.file.now ∷ []) _ c.in_err-tables.ensures.fault,
      refl,
    ))

pub returns-in_err-status-clause-fault : goal.returns-in_err-status-clause-fault
returns-in_err-status-clause-fault g c =
    let files = g.F.Files.facts c.args.files.now in
    let is = has_rows files c.args.asked.kind c.args.asked.tables _ _ c.in_ok-tables.ensures.tables c.rows_by.ensures in
    rows_fail files _ _ c.args.asked.kind c.args.asked.tables c.args.asked.file c.args.asked.options _ is
    c.from_residual-in_err-status.result _
    c.from_residual-in_err-status.ensures.1
    c.in_err-status.ensures.fault

pub returns-clause-done : goal.returns-clause-done
returns-clause-done g c = (
  _,
  has_rows (g.F.Files.facts c.args.files.now) c.args.asked.kind c.args.asked.tables _ _ c.in_ok-tables.ensures.tables
      c.rows_by.ensures,
  c.in_ok-status.ensures.reported,
)
