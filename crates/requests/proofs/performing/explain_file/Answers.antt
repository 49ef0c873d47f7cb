use Rattle.std.proofs.Common.{rules}
use Rattle.std.specs.Io.KnownBytes.{Appends}
use Rattle.explain.specs.Explained.{explained}
use Rattle.requests.proofs.FirstFaults.{first_fault_after, first_of_all, printing_fails, source_done, whole_done}
use Rattle.requests.proofs.MadeRows.{first_fails}
use Rattle.requests.specs.Parts.{source_parts, text_parts, whole_parts}
use Rattle.requests.proofs.performing.explain_file.Goals as goal

pub returns-in_err-tables-clause-fault : goal.returns-in_err-tables-clause-fault
unfolding whole_parts
returns-in_err-tables-clause-fault g c =
    let files = g.F.Files.facts c.args.files.now in
    first_fails (whole_parts files c.args.asked.tables c.args.asked.file.now) _ c.from_residual.result _
    c.from_residual.ensures.1
    (first_of_all (source_parts files c.args.asked.tables) (text_parts files c.args.asked.file.now) _
    c.in_err-tables.ensures.fault)

pub returns-in_err-text-clause-fault : goal.returns-in_err-text-clause-fault
unfolding whole_parts
returns-in_err-text-clause-fault g c =
    let files = g.F.Files.facts c.args.files.now in
    first_fails (whole_parts files c.args.asked.tables c.args.asked.file.now) _ c.from_residual-in_err-text.result _
    c.from_residual-in_err-text.ensures.1
    (first_fault_after (source_parts files c.args.asked.tables) (text_parts files c.args.asked.file.now) _
    (source_done files c.args.asked.tables _ c.in_ok-tables.ensures.tables) c.in_err-text.ensures.fault)

pub returns-in_err-print_explained-clause-fault : goal.returns-in_err-print_explained-clause-fault
returns-in_err-print_explained-clause-fault g c =
    let files = g.F.Files.facts c.args.files.now in
    let done = whole_done files c.args.asked.tables c.args.asked.file.now _ c.in_ok-tables.ensures.tables _
    c.in_ok-text.ensures.text in
    printing_fails (whole_parts files c.args.asked.tables c.args.asked.file.now) _ _ _ _ done
    c.from_residual-in_err-print_explained.ensures.1

pub returns-clause-printed : goal.returns-clause-printed
returns-clause-printed g c =
    let noted : Appends (g.W.Write.contents c.args.out.now) (g.W.Write.contents c.print_explained.new.w)
    (explained c.in_ok-tables.tables c.in_ok-text.text.items c.args.asked.direction) = search rules in
    record {
      tables = c.in_ok-tables.tables;
      stated = c.in_ok-tables.ensures.tables;
      text = c.in_ok-text.text.items;
      read = c.in_ok-text.ensures.text;
      noted = noted;
    }
