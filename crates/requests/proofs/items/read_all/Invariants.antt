use Rattle.std.proofs.Common.{◌≡◌, ℕ, Option, List, length}
use Rattle.units.specs.Text.{items_of}
use Rattle.bidtests.proofs.Filling.{Fills}
use Rattle.requests.specs.ItemWords.{first_unread}
use Rattle.requests.proofs.items.read_all.Given as goal

-- these values were read, and this is the rest of the input: the first item that can't be read is in it
pub record Reads {A : Type 0} (reading : List ℕ → Option A) (word limit : List ℕ) (values : List A) : Type 0 where
  pub fills : Fills reading word limit values
  pub faultless : first_unread reading (items_of limit) ≡ first_unread reading (items_of word)

abbrev pub invariant-loop-item : goal.invariant-loop-item
invariant-loop-item g l = Reads (g.R.ReadsItem.reading l.reader) l.word l.limit l.values.items

abbrev pub decreases-loop-item : goal.decreases-loop-item
decreases-loop-item g l = length l.limit
