-- The levels of all characters, including those that X9 removes.
use Rattle.std.specs.Prelude.{ℕ, Bool, ◌≡◌, ◌<◌, ◌-◌, ◌==◌, ◌||◌, if◌then◌else◌, None, List, length, slice_index, slice_index_or}
use Rattle.std.specs.Option.{unwrap_or}
use Rattle.units.specs.Classes.{class_at, classes_of, is_separator}
use Rattle.units.specs.Layout.{para_levels_of}
use Rattle.units.specs.Positions.{first_from}
use Rattle.units.specs.Reordering.{ends_spaces, is_solid, para_level_at}
use Rattle.units.specs.declared.class.Class.{Class}
use Rattle.room.specs.Rooms.{RoomOf, characters_in}
use Rattle.room.specs.Written.{Writes}

-- P1: a paragraph begins at the position
abbrev pub begins_paragraph : List Class → ℕ → Bool
begins_paragraph own p = (p == 0) || is_separator (class_at own (p - 1))

-- L1: from the position on there are only removed positions, white space and isolate formatting characters, up to a
-- separator or the text's end
abbrev pub trails : List Class → ℕ → Bool
trails own p = ends_spaces own (first_from (λ q. is_solid (class_at own q)) p (length own - p))

-- P2, P3: the level of the paragraph in which the character with the index k lies
abbrev pub para_level_in : RoomOf → ℕ → ℕ
para_level_in room k =
    para_level_at (classes_of room.text.units) (para_levels_of room.text.units room.text.direction) k

-- X9, L1: the level that a removed character is given: its paragraph's level if the paragraph begins there or `trails`
-- holds there, else the level of the character before it
abbrev pub removed_level : RoomOf → ℕ → ℕ → ℕ
removed_level room before k =
    let own : List Class = classes_of room.text.units in
    if begins_paragraph own k || trails own k then para_level_in room k else before

-- the level of a character after L1, if it has one, else the level that it is given
abbrev pub whole_level : RoomOf → ℕ → ℕ → ℕ
whole_level room before k = unwrap_or (slice_index_or room.layout.levels k None) (removed_level room before k)

-- these are the levels of all characters; a removed one takes its level from the one before it
abbrev pub AreWholeLevels : RoomOf → List ℕ → Type 0
AreWholeLevels room levels =
    (k : ℕ) → k < characters_in room → slice_index levels k ≡ whole_level room (slice_index levels (k - 1)) k

-- the characters are counted, and the levels of all are written whole or not at all
abbrev pub WritesWholeLevels : RoomOf → ℕ → List ℕ → List ℕ → Type 0
WritesWholeLevels room counted old new = Writes (characters_in room) (AreWholeLevels room) counted old new

-- L1: each position is marked with 1 if only white space comes from it on, else with 0
abbrev pub AreMarked : List Class → List ℕ → Type 0
AreMarked own marks = (k : ℕ) → k < length own → slice_index marks k ≡ (if trails own k then 1 else 0)
