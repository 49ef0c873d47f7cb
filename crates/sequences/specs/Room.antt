-- The fixed capacity of the columns of sequences.
use Rattle.std.specs.Prelude.{Option, ℕ, ◌<◌, ◌≤◌, ◌≡◌, Bool, List, length, take, All}
use Rattle.units.specs.OptionalPositions.{no_position}
use Rattle.units.specs.declared.class.Class.{Class}
use Rattle.sequences.specs.declared.heads.Head.{Head}
use Rattle.sequences.specs.Heads.{IsHead}

-- the columns have one capacity; the first size positions and the first count heads are in use
pub record HasRoomForSequences (links : List (Option ℕ)) (ends : List Class) (joined : List Bool) (heads : List Head)
    (column : List ℕ) (count size : ℕ) : Type 0 where
  pub small : length links < no_position
  pub ends_fit : length ends ≡ length links
  pub joined_fit : length joined ≡ length links
  pub heads_fit : length heads ≡ length links
  pub column_fit : length column ≡ length links
  pub in_use : size ≤ length links
  pub counted : count ≤ length heads
  pub headed : All (IsHead column (take size links)) (take count heads)
