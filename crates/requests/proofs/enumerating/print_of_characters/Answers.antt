use Rattle.std.proofs.Common.{◌≡◌, map, refl, rules}
use Rattle.rows.specs.Letters.{letter_by}
use Rattle.requests.specs.Parts.{rows_parts}
use Rattle.requests.proofs.MadeRows.{first_fails, memory_fails, of_characters_fail, tables_fail}
use Rattle.requests.proofs.enumerating.print_of_characters.Goals as goal

pub returns-in_err-tables-clause-fault : goal.returns-in_err-tables-clause-fault
returns-in_err-tables-clause-fault g c =
    let files = g.F.Files.facts c.args.files.now in
    let first = tables_fail files c.args.asked c.args.options.lengths.least c.args.options.lengths.greatest
    c.args.options.directions.now
    c.requires.lengths c.requires.directions c.args.characters.now _ c.requires.kind c.requires.characters
    c.in_err-tables.ensures.fault in
    first_fails (rows_parts files c.args.asked) _ c.from_residual.result _ c.from_residual.ensures.1 first

pub returns-in_err-letters-clause-fault : goal.returns-in_err-letters-clause-fault
returns-in_err-letters-clause-fault g c =
    of_characters_fail (g.F.Files.facts c.args.files.now) c.args.asked c.args.options.lengths.least
    c.args.options.lengths.greatest c.args.options.directions.now
    c.requires.lengths c.requires.directions _ _ (map (letter_by c.in_ok-tables.tables) c.args.characters.now)
    c.in_ok-tables.tables c.args.characters.now
    c.requires.kind c.in_ok-tables.ensures.tables c.requires.characters refl c.from_residual-in_err-letters.result
    (memory_fails c.args.asked.form _ _ c.from_residual-in_err-letters.result c.from_residual-in_err-letters.ensures.1)

pub returns-clause-fault : goal.returns-clause-fault
returns-clause-fault g c =
    let same : c.deref.result.now ≡ map (letter_by c.in_ok-tables.tables) c.args.characters.now = search rules in
    of_characters_fail (g.F.Files.facts c.args.files.now) c.args.asked c.args.options.lengths.least
    c.args.options.lengths.greatest c.args.options.directions.now
    c.requires.lengths c.requires.directions _ _ c.deref.result.now c.in_ok-tables.tables c.args.characters.now
    c.requires.kind c.in_ok-tables.ensures.tables c.requires.characters same c.print_form.result
    c.print_form.ensures.fault
