use Rattle.std.proofs.Common.{rules, [], ◌∷◌, inl}
use Rattle.std.specs.Io.KnownBytes.{Appends}
use Rattle.explain.specs.RowTexts.{row_text}
use Rattle.requests.proofs.FirstFaults.{first_fault_after, first_of_all, has_rows, printing_fails, row_done, row_tables_done}
use Rattle.requests.proofs.MadeRows.{first_fails}
use Rattle.requests.specs.Parts.{row_parts, row_table_parts, row_search_part}
use Rattle.requests.proofs.row_explaining.explain_row.Goals as goal

pub returns-in_err-tables-clause-fault : goal.returns-in_err-tables-clause-fault
returns-in_err-tables-clause-fault g c =
    let files = g.F.Files.facts c.args.files.now in
    let wanted = c.args.wanted in
    first_fails (row_parts files wanted) _ c.from_residual.result _ c.from_residual.ensures.1
    (first_of_all (row_table_parts files wanted.kind wanted.tables) (row_search_part files wanted ∷
    []) _ c.in_err-tables.ensures.fault)

pub returns-in_err-row-clause-fault : goal.returns-in_err-row-clause-fault
returns-in_err-row-clause-fault g c =
    let files = g.F.Files.facts c.args.files.now in
    let wanted = c.args.wanted in
    let is = has_rows files wanted.kind wanted.tables _ _ c.in_ok-tables.ensures.tables c.rows_by.ensures in
    first_fails (row_parts files wanted) _ c.from_residual-in_err-row.result _ c.from_residual-in_err-row.ensures.1
    (first_fault_after (row_table_parts files wanted.kind wanted.tables) (row_search_part files wanted ∷ []) _
    (row_tables_done files wanted.kind wanted.tables _ is) (inl (_, is, c.in_err-row.ensures.fault)))

pub returns-in_err-print_row-clause-fault : goal.returns-in_err-print_row-clause-fault
returns-in_err-print_row-clause-fault g c =
    let files = g.F.Files.facts c.args.files.now in
    let wanted = c.args.wanted in
    let is = has_rows files wanted.kind wanted.tables _ _ c.in_ok-tables.ensures.tables c.rows_by.ensures in
    printing_fails (row_parts files wanted) _ _ _ _ (row_done files wanted _ is (
      _,
      is,
      (_, c.in_ok-row.ensures.row),
    )) c.from_residual-in_err-print_row.ensures.1

pub returns-clause-printed : goal.returns-clause-printed
returns-clause-printed g c =
    let is = has_rows (g.F.Files.facts c.args.files.now) c.args.wanted.kind c.args.wanted.tables _ _
    c.in_ok-tables.ensures.tables c.rows_by.ensures in
    let noted : Appends (g.W.Write.contents c.args.out.now) (g.W.Write.contents c.print_row.new.w)
    (row_text c.args.wanted.line.value c.in_ok-row.row) = search rules in
    record { rows = _; is = is; row = _; found = c.in_ok-row.ensures.row; noted = noted }
