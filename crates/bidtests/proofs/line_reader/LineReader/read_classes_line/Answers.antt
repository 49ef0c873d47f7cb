use Rattle.std.proofs.Common.{◌≡◌, ◌<◌, length, rules, refl}
use Rattle.bidtests.specs.ClassesFile.{Nothing, classes_line, directive, classes_row}
use Rattle.units.specs.Text.{fields_of}
use Rattle.bidtests.proofs.LineSays.{not_empty, says-nothing, says-directive, says-row}
use Rattle.bidtests.proofs.LineReads.{listed-as}
use Rattle.bidtests.proofs.line_reader.LineReader.read_classes_line.Goals as goal

pub returns-then-is_empty-clause-found : goal.returns-then-is_empty-clause-found
returns-then-is_empty-clause-found c =
    let none : length c.content-content.result.now ≡ 0 = search rules in
    let e : classes_line c.args.line.now ≡ Nothing =
    says-nothing c.args.line.now _ c.content-content.ensures.content c.requires none in
    rw e refl

pub returns-then-is_empty-clause-lists : goal.returns-then-is_empty-clause-lists
returns-then-is_empty-clause-lists c =
    let none : length c.content-content.result.now ≡ 0 = search rules in
    let e : classes_line c.args.line.now ≡ Nothing =
    says-nothing c.args.line.now _ c.content-content.ensures.content c.requires none in
    rw e (record { levels = c.read_plain.ensures.levels; order = c.read_plain.ensures.order })

pub returns-then-content-eq64-clause-found : goal.returns-then-content-eq64-clause-found
returns-then-content-eq64-clause-found c =
    let some : 0 < length c.content-content.result.now =
    not_empty c.content-content.result.now _ c.is_empty.ensures c.if-is_empty.false in
    let e : classes_line c.args.line.now ≡ directive c.content-content.result.now =
    says-directive c.args.line.now _ c.content-content.ensures.content c.requires some c.if-content-eq64.true in
    rw (e, ← c.read_plain.ensures.levels, ← c.read_plain.ensures.order) c.read_directive.ensures.found

pub returns-then-content-eq64-clause-lists : goal.returns-then-content-eq64-clause-lists
returns-then-content-eq64-clause-lists c =
    let some : 0 < length c.content-content.result.now =
    not_empty c.content-content.result.now _ c.is_empty.ensures c.if-is_empty.false in
    let e : classes_line c.args.line.now ≡ directive c.content-content.result.now =
    says-directive c.args.line.now _ c.content-content.ensures.content c.requires some c.if-content-eq64.true in
    rw e (listed-as c.read_directive.result _ _ _ _ c.read_plain.ensures.levels c.read_plain.ensures.order
    c.read_directive.ensures.lists)

pub returns-else-content-eq64-clause-found : goal.returns-else-content-eq64-clause-found
returns-else-content-eq64-clause-found c =
    let some : 0 < length c.content-content.result.now =
    not_empty c.content-content.result.now _ c.is_empty.ensures c.if-is_empty.false in
    let e : classes_line c.args.line.now ≡ classes_row (fields_of c.content-content.result.now) =
    says-row c.args.line.now _ c.content-content.ensures.content c.requires some c.if-content-eq64.false in
    rw (e, ← c.read_plain.ensures.levels, ← c.read_plain.ensures.order) c.read_classes.ensures.found

pub returns-else-content-eq64-clause-lists : goal.returns-else-content-eq64-clause-lists
returns-else-content-eq64-clause-lists c =
    let some : 0 < length c.content-content.result.now =
    not_empty c.content-content.result.now _ c.is_empty.ensures c.if-is_empty.false in
    let e : classes_line c.args.line.now ≡ classes_row (fields_of c.content-content.result.now) =
    says-row c.args.line.now _ c.content-content.ensures.content c.requires some c.if-content-eq64.false in
    rw e (listed-as c.read_classes.result _ _ _ _ c.read_plain.ensures.levels c.read_plain.ensures.order
    c.read_classes.ensures.lists)
