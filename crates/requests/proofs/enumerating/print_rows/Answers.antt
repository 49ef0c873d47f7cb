use Rattle.std.proofs.Common.{◌≡◌, Some, rules}
use Rattle.bidtests.specs.declared.kind.Kind.TheVariants as file
use Rattle.ucdfiles.specs.PairFiles.{char_of}
use Rattle.requests.specs.ItemWords.{EndsItems}
use Rattle.requests.specs.RowsPrinted.{letters_asked}
use Rattle.requests.specs.Parts.{rows_parts}
use Rattle.requests.proofs.MadeRows.{classes_fail, codes_fail, directions_fail, first_fails, lengths_fail, of_classes_fail}
use Rattle.requests.specs.declared.fault.Fault.TheVariants.{NoCodePoint}
use Rattle.requests.proofs.enumerating.print_rows.Goals as goal

pub returns-in_err-lengths-clause-fault : goal.returns-in_err-lengths-clause-fault
returns-in_err-lengths-clause-fault g c =
    let files = g.F.Files.facts c.args.files.now in
    first_fails (rows_parts files c.args.asked) _ c.from_residual.result _ c.from_residual.ensures.1
    (lengths_fail files c.args.asked _ c.in_err-lengths.ensures.fault)

pub returns-in_err-directions-clause-fault : goal.returns-in_err-directions-clause-fault
returns-in_err-directions-clause-fault g c =
    let files = g.F.Files.facts c.args.files.now in
    first_fails (rows_parts files c.args.asked) _ c.from_residual-in_err-directions.result _
    c.from_residual-in_err-directions.ensures.1
    (directions_fail files c.args.asked _ _ c.in_ok-lengths.ensures.lengths c.in_err-directions.ensures.fault)

pub returns-in_err-letters-in-Classes-clause-fault : goal.returns-in_err-letters-in-Classes-clause-fault
returns-in_err-letters-in-Classes-clause-fault g c =
    let files = g.F.Files.facts c.args.files.now in
    let first = classes_fail files c.args.asked c.in_ok-lengths.lengths.least c.in_ok-lengths.lengths.greatest _
    c.in_ok-lengths.ensures.lengths c.in_ok-directions.ensures.directions _ c.in-Classes.is
    c.in_err-letters-in-Classes.ensures.fault in
    first_fails (rows_parts files c.args.asked) _ c.from_residual-in_err-letters-in-Classes.result _
    c.from_residual-in_err-letters-in-Classes.ensures.1 first

pub returns-in-Classes-clause-fault : goal.returns-in-Classes-clause-fault
returns-in-Classes-clause-fault g c =
    let are : letters_asked file.Classes c.args.asked.letters ≡ Some c.deref-in-Classes.result.now = search rules in
    of_classes_fail (g.F.Files.facts c.args.files.now) c.args.asked c.in_ok-lengths.lengths.least
    c.in_ok-lengths.lengths.greatest _
    c.in_ok-lengths.ensures.lengths c.in_ok-directions.ensures.directions _ _ c.deref-in-Classes.result.now
    c.in-Classes.is are c.print_form.result c.print_form.ensures.fault

pub returns-in_err-characters-in-Alphabet-clause-fault : goal.returns-in_err-characters-in-Alphabet-clause-fault
returns-in_err-characters-in-Alphabet-clause-fault g c =
    let files = g.F.Files.facts c.args.files.now in
    let ends : EndsItems char_of NoCodePoint c.in-Alphabet.codes.now c.in_err-characters-in-Alphabet.field-0.0 =
    search rules in
    let first = codes_fail files c.args.asked c.in_ok-lengths.lengths.least c.in_ok-lengths.lengths.greatest _
    c.in_ok-lengths.ensures.lengths c.in_ok-directions.ensures.directions c.in-Alphabet.codes _ c.in-Characters.is
    c.in-Alphabet.is ends in
    first_fails (rows_parts files c.args.asked) _ c.from_residual-in_err-characters-in-Alphabet.result _
    c.from_residual-in_err-characters-in-Alphabet.ensures.1 first
