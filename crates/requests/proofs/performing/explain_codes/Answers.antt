use Rattle.std.proofs.Common.{rules}
use Rattle.std.specs.Io.KnownBytes.{Appends}
use Rattle.explain.specs.Explained.{explained}
use Rattle.requests.proofs.FirstFaults.{codes_done, first_fault_after, first_of_all, printing_fails}
use Rattle.requests.proofs.MadeRows.{first_fails}
use Rattle.requests.specs.Parts.{codes_parts, explaining_parts, source_parts}
use Rattle.requests.proofs.performing.explain_codes.Goals as goal

pub returns-in_err-text-clause-fault : goal.returns-in_err-text-clause-fault
unfolding explaining_parts
returns-in_err-text-clause-fault g c =
    let files = g.F.Files.facts c.args.files.now in
    first_fails (explaining_parts files c.args.word.now c.args.source) _ c.from_residual.result _
    c.from_residual.ensures.1
    (first_of_all (codes_parts c.args.word.now) (source_parts files c.args.source) _ c.in_err-text.ensures.fault)

pub returns-in_err-tables-clause-fault : goal.returns-in_err-tables-clause-fault
unfolding explaining_parts
returns-in_err-tables-clause-fault g c =
    let files = g.F.Files.facts c.args.files.now in
    first_fails (explaining_parts files c.args.word.now c.args.source) _ c.from_residual-in_err-tables.result _
    c.from_residual-in_err-tables.ensures.1
    (first_fault_after (codes_parts c.args.word.now) (source_parts files c.args.source) _ (
      c.in_ok-text.ensures.short,
      (
        (c.in_ok-text.text.items, c.in_ok-text.ensures.chars),
        tt,
      ),
    ) c.in_err-tables.ensures.fault)

pub returns-in_err-print_explained-clause-fault : goal.returns-in_err-print_explained-clause-fault
returns-in_err-print_explained-clause-fault g c =
    let files = g.F.Files.facts c.args.files.now in
    let done = codes_done files c.args.word.now c.args.source _ c.in_ok-tables.ensures.tables c.in_ok-text.ensures.short
    _ c.in_ok-text.ensures.chars in
    printing_fails (explaining_parts files c.args.word.now c.args.source) _ _ _ _ done
    c.from_residual-in_err-print_explained.ensures.1

pub returns-clause-printed : goal.returns-clause-printed
returns-clause-printed g c =
    let noted : Appends (g.W.Write.contents c.args.out.now) (g.W.Write.contents c.print_explained.new.w)
    (explained c.in_ok-tables.tables c.in_ok-text.text.items c.args.direction) = search rules in
    record {
      short = c.in_ok-text.ensures.short;
      chars = c.in_ok-text.text.items;
      chars_named = c.in_ok-text.ensures.chars;
      tables = c.in_ok-tables.tables;
      stated = c.in_ok-tables.ensures.tables;
      noted = noted;
    }
