use Rattle.std.proofs.Common.{◌≡◌, length, vec_capacity}
use Rattle.bidtests.proofs.Filling.{Fills}
use Rattle.bidtests.proofs.short_items.read_short_items.Given as goal

abbrev pub invariant-loop-item : goal.invariant-loop-item
invariant-loop-item g l = record {
  fills : Fills (g.R.ReadsItem.reading l.reader) l.fn.field l.field l.list.items;
  capacity : vec_capacity l.list ≡ vec_capacity l.fn.list;
}

abbrev pub decreases-loop-item : goal.decreases-loop-item
decreases-loop-item g l = length l.field
