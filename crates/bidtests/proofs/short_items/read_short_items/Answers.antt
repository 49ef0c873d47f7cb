use Rattle.std.proofs.Common.{◌∙◌, refl}
use Rattle.bidtests.proofs.ShortItemsRead.{first-last, first-next}
use Rattle.bidtests.proofs.short_items.read_short_items.Goals as goal

pub returns-then-item-field-clause-read : goal.returns-then-item-field-clause-read
returns-then-item-field-clause-read g c =
    rw c.push_reserved.ensures.items
    (first-last (g.R.ReadsItem.reading c.args.reader.now) c.args.field.now c.loop-item.field.now c.loop-item.list.items
    c.in-Some.item.0 c.in-Some.item.1 c.loop-item.invariant.fills c.in-Some.ensures c.if-item-field.true).read

pub loop-item-preserved : goal.loop-item-preserved
loop-item-preserved g c = record {
  fills = rw c.push_reserved.ensures.items
      (first-next (g.R.ReadsItem.reading c.args.reader.now) c.args.field.now c.loop-item.field.now
      c.loop-item.list.items c.in-Some.item.0 c.in-Some.item.1 c.loop-item.invariant.fills c.in-Some.ensures _ refl
      c.if-item-field.false);
  capacity = c.push_reserved.ensures.capacity ∙ c.loop-item.invariant.capacity;
}
