use Rattle.std.proofs.Common.{◌≡◌, ◌<◌, length, rules, refl}
use Rattle.units.specs.Text.{fields_of}
use Rattle.bidtests.specs.Verdicts.{Silent}
use Rattle.bidtests.specs.CharactersFile.{characters_line, characters_row}
use Rattle.ucdfiles.specs.Tables.{unit_by}
use Rattle.bidtests.proofs.LineSays.{not_empty, comes-silent, comes-row}
use Rattle.bidtests.proofs.line_reader.LineReader.read_characters_line.Goals as goal

pub returns-then-is_empty-clause-found : goal.returns-then-is_empty-clause-found
returns-then-is_empty-clause-found c =
    let none : length c.content-content.result.now ≡ 0 = search rules in
    let e : characters_line (unit_by c.args.tables.now) c.args.line.now ≡ Silent =
    comes-silent _ c.args.line.now _ c.content-content.ensures.content c.requires none in
    rw e refl

pub returns-else-is_empty-clause-found : goal.returns-else-is_empty-clause-found
returns-else-is_empty-clause-found c =
    let some : 0 < length c.content-content.result.now =
    not_empty c.content-content.result.now _ c.is_empty.ensures c.if-is_empty.false in
    let e : characters_line (unit_by c.args.tables.now) c.args.line.now ≡ characters_row (unit_by c.args.tables.now)
    (fields_of c.content-content.result.now) =
    comes-row _ c.args.line.now _ c.content-content.ensures.content c.requires some in
    rw e c.read_characters.ensures.found
