-- Where the characters of a line are shown, and the units of the text's source, each a part of a character.
use Rattle.std.specs.Prelude.{ℕ, ◌≡◌, ◌<◌, ◌+◌, ◌-◌, ◌^◌, ◌⊎◌, List, length, slice_index}
use Rattle.units.specs.Layout.{LineLayout}
use Rattle.room.specs.Looking.{IsAt, in_units}
use Rattle.room.specs.Rooms.{RoomOf}
use Rattle.room.specs.Written.{Writes}

-- the number for what is not shown
abbrev pub nowhere : ℕ
nowhere = 2 ^ 64 - 1

-- L2: a part of a character is shown at this place of the order, which is that of its character and one of the first n;
-- or its character is at none of these. IsIts says which position is that of its character
abbrev pub IsPlaceOf : (ℕ → Type 0) → List ℕ → ℕ → ℕ → Type 0
IsPlaceOf IsIts order n place =
    ((place < n) × IsIts (slice_index order place))
    ⊎ ((place ≡ nowhere) × ((other : ℕ) → other < n → IsIts (slice_index order other) → ⊥))

-- L2: these are the places of n such parts, from a start on
abbrev pub ArePlacesOf : (ℕ → ℕ → Type 0) → List ℕ → ℕ → ℕ → List ℕ → Type 0
ArePlacesOf IsIts order start n places =
    (i : ℕ) → i < n → IsPlaceOf (IsIts (start + i)) order (length order) (slice_index places i)

-- L2: such parts, from a start up to an end, are counted, and their places are written whole or not at all
abbrev pub WritesPlacesOf : (ℕ → ℕ → Type 0) → List ℕ → ℕ → ℕ → ℕ → List ℕ → List ℕ → Type 0
WritesPlacesOf IsIts order start end counted old new =
    Writes (end - start) (ArePlacesOf IsIts order start (end - start)) counted old new

-- L2: it is the place of the unit at the offset, among the first n of the order
abbrev pub IsPlace : RoomOf → List ℕ → ℕ → ℕ → ℕ → Type 0
IsPlace room order n at place = IsPlaceOf (IsAt room at) order n place

-- L2: the units of the line are counted, and their places are written whole or not at all
abbrev pub WritesPlaces : RoomOf → LineLayout → ℕ → List ℕ → List ℕ → Type 0
WritesPlaces room line counted old new =
    WritesPlacesOf (IsAt room) line.order (in_units room line).start (in_units room line).end counted old new
