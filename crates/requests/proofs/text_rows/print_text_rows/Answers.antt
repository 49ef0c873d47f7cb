use Rattle.std.proofs.Common.{inl, inr}
use Rattle.requests.proofs.FirstFaults.{first_fault_after, first_of_all, lines_done, printing_fails, source_done}
use Rattle.requests.proofs.MadeRows.{first_fails}
use Rattle.requests.proofs.Rejected.{rows_leave}
use Rattle.requests.specs.Parts.{lines_parts, row_text_parts, source_parts}
use Rattle.requests.proofs.text_rows.print_text_rows.Goals as goal

pub returns-in_err-directions-clause-fault : goal.returns-in_err-directions-clause-fault
unfolding lines_parts
returns-in_err-directions-clause-fault g c =
    first_fails (lines_parts (g.F.Files.facts c.args.files.now) c.args.asked) _ c.from_residual.result _
    c.from_residual.ensures.1 (inl c.in_err-directions.ensures.fault)

pub returns-in_err-tables-clause-fault : goal.returns-in_err-tables-clause-fault
unfolding lines_parts
returns-in_err-tables-clause-fault g c =
    let files = g.F.Files.facts c.args.files.now in
    let asked = c.args.asked in
    first_fails (lines_parts files asked) _ c.from_residual-in_err-tables.result _
    c.from_residual-in_err-tables.ensures.1
    (inr (
      (_, c.in_ok-directions.ensures.directions),
      first_of_all (source_parts files asked.tables)
          (row_text_parts files asked.file.now) _ c.in_err-tables.ensures.fault,
    ))

pub returns-in_err-text-clause-fault : goal.returns-in_err-text-clause-fault
unfolding lines_parts
returns-in_err-text-clause-fault g c =
    let files = g.F.Files.facts c.args.files.now in
    let asked = c.args.asked in
    first_fails (lines_parts files asked) _ c.from_residual-in_err-text.result _ c.from_residual-in_err-text.ensures.1
    (inr (
      (_, c.in_ok-directions.ensures.directions),
      first_fault_after (source_parts files asked.tables) (row_text_parts files asked.file.now) _
          (source_done files asked.tables _ c.in_ok-tables.ensures.tables) c.in_err-text.ensures.fault,
    ))

pub returns-in_err-print_lines-clause-fault : goal.returns-in_err-print_lines-clause-fault
returns-in_err-print_lines-clause-fault g c =
    let files = g.F.Files.facts c.args.files.now in
    let done = lines_done files c.args.asked _ c.in_ok-directions.ensures.directions _ c.in_ok-tables.ensures.tables _
    c.in_ok-text.ensures.text c.in_ok-text.ensures.short in
    printing_fails (lines_parts files c.args.asked) _ _ _ _ done c.from_residual-in_err-print_lines.ensures.1

pub returns-in_err-print_lines-clause-memory : goal.returns-in_err-print_lines-clause-memory
returns-in_err-print_lines-clause-memory g c =
    rows_leave _ _ _ _ c.in_err-print_lines.ensures.fault c.from_residual-in_err-print_lines.ensures.1
