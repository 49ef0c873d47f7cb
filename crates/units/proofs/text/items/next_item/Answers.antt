use Rattle.std.proofs.Common.{◌<◌, ◌≡◌, length, rules}
use Rattle.units.proofs.FirstItem.{items-none, items-one, items-first}
use Rattle.units.proofs.text.items.next_item.Goals as goal

pub returns-then-is_empty-clause-items : goal.returns-then-is_empty-clause-items
returns-then-is_empty-clause-items c =
    let none : length c.trim_start-field.result.now ≡ 0 = search rules in
    items-none c.args.field.now _ c.trim_start-field.ensures.rest none

pub returns-in-None-clause-items : goal.returns-in-None-clause-items
returns-in-None-clause-items c =
    let some : 0 < length c.trim_start-field.result.now = search rules in
    items-one c.args.field.now _ c.trim_start-field.ensures.rest some c.in-None.ensures

pub returns-in-Some-clause-items : goal.returns-in-Some-clause-items
returns-in-Some-clause-items c =
    let some : 0 < length c.trim_start-field.result.now = search rules in
    items-first c.args.field.now _ _ c.trim_start-field.ensures.rest some c.in-Some.ensures
