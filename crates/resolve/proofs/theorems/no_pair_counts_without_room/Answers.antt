use Rattle.resolve.proofs.NoRoom.{no_pair_counts, stops_at_first_opener}
use Rattle.resolve.proofs.theorems.no_pair_counts_without_room.Goals as goal

pub returns : goal.returns
returns c = record { stop = stops_at_first_opener; pairs = no_pair_counts }
