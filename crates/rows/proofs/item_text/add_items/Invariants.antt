use Rattle.std.proofs.Common.{length, take, ◌-◌, ◌≡◌, ◌≤◌, ◌++◌}
use Rattle.rows.specs.RowTexts.{after_blanks}
use Rattle.rows.proofs.item_text.add_items.Given as goal

abbrev pub invariant-loop-count : goal.invariant-loop-count
invariant-loop-count g l = record {
  text : l.to.items ≡ l.fn.to.items ++ after_blanks g.T.RowItem.text (take l.count l.items);
  within : l.count ≤ length l.items;
}

abbrev pub decreases-loop-count : goal.decreases-loop-count
decreases-loop-count g l = length l.items - l.count
