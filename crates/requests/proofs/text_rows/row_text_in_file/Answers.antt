use Rattle.std.proofs.Common.{◌≡◌, [], ◌∷◌, Some, inl, refl, rules}
use Rattle.rows.specs.TextLines.{first_long_line}
use Rattle.requests.proofs.FirstFaults.{first_fault_after, first_of_all, text_done}
use Rattle.requests.specs.Parts.{EndsLines, lines_part, text_parts}
use Rattle.requests.specs.declared.fault.Fault.{Fault}
use Rattle.requests.specs.declared.fault.Fault.TheVariants.{LongLine}
use Rattle.requests.proofs.text_rows.row_text_in_file.Goals as goal

pub returns-in_err-text-clause-fault : goal.returns-in_err-text-clause-fault
returns-in_err-text-clause-fault g c =
    let files = g.F.Files.facts c.args.files.now in
    let ends = first_of_all (text_parts files c.args.file.now) (lines_part files c.args.file.now ∷
    []) _ c.in_err-text.ensures.fault in
    search rules

pub returns-in-Some-clause-fault : goal.returns-in-Some-clause-fault
returns-in-Some-clause-fault g c =
    let files = g.F.Files.facts c.args.files.now in
    let read = c.in_ok-text.ensures.text in
    let done = text_done files c.args.file.now _ read in
    let long : first_long_line c.in_ok-text.text.items ≡ Some c.in-Some.line = search rules in
    let fault : Fault = LongLine c.args.file c.in-Some.line in
    let ends : EndsLines files c.args.file.now fault = (refl, c.in_ok-text.text.items, read, long) in
    first_fault_after (text_parts files c.args.file.now) (lines_part files c.args.file.now ∷ []) fault done (inl ends)
