-- The room after a call that lays out a text, or that breaks one into lines again.
use Rattle.std.specs.Prelude.{ℕ, true, false, ◌≡◌, ◌<◌, ◌≤◌, ◌⊎◌, Result, List, IfErr, OnErr, OnOk, map}
use Rattle.units.specs.Layout.{layout_of}
use Rattle.ucdfiles.specs.Tables.{TablesOf}
use Rattle.lines.specs.LineBreaks.{AreBreaks}
use Rattle.sources.specs.Asks.{AskOf}
use Rattle.room.specs.Boundaries.{RejectsBreaks}
use Rattle.room.specs.Looking.{size_in}
use Rattle.room.specs.Rooms.{RoomOf, TextOf, IsBrokenAt, characters_in, offset_by, offset_in}
use Rattle.sources.specs.Sources.{SourceOf, IsEncoded, IsFirstFault, IsWellFormed, characters_of, size_of, source_offset, units_of}
use Rattle.room.specs.declared.fault.LayoutFault.{LayoutFault}
use Rattle.room.specs.declared.fault.LayoutFault.TheVariants.{NoOffsets, TooLong, IllFormed}

-- a room has offsets if the source needs them
abbrev pub HasOffsetsFor : SourceOf → RoomOf → Type 0
HasOffsetsFor source room = IsEncoded source → room.encodes ≡ true

-- it has, and has capacity for each unit of the source
pub record Fits (source : SourceOf) (room : RoomOf) : Type 0 where
  pub kind : HasOffsetsFor source room
  pub size : size_of source ≤ room.capacity

-- the room accepts what it is asked for: the text fits and is well formed, and the breaks rise within it
pub record Takes (ask : AskOf) (room : RoomOf) : Type 0 where
  pub fits : Fits ask.source room
  pub well_formed : IsWellFormed ask.source
  pub inside : AreBreaks ask.breaks (size_of ask.source)

-- it is rejected for this reason. First its kind is tested, then its length. Code units are tested for the first fault
-- of the text, and then for the breaks. Other texts are tested for the range and the order of the breaks, and then for
-- the first fault of the text
abbrev pub Rejects : AskOf → RoomOf → LayoutFault → Type 0
Rejects ask room NoOffsets = IsEncoded ask.source × (room.encodes ≡ false)
Rejects ask room TooLong = HasOffsetsFor ask.source room × (room.capacity < size_of ask.source)
Rejects ask room (IllFormed at) =
    Fits ask.source room × (IsEncoded ask.source ⊎ AreBreaks ask.breaks (size_of ask.source)) ×
    IsFirstFault ask.source at
Rejects ask room fault =
    Fits ask.source room × (IsEncoded ask.source → IsWellFormed ask.source)
    × RejectsBreaks (source_offset ask.source) (characters_of ask.source) (size_of ask.source) ask.breaks fault

-- it is the text that is asked for, with the offsets of its characters in the source
pub record IsAsked (ask : AskOf) (tables : TablesOf) (text : TextOf) : Type 0 where
  pub units : text.units ≡ units_of tables ask.source
  pub direction : text.direction ≡ ask.direction
  pub limits : text.limits ≡ ask.limits
  pub offsets : (k : ℕ) → k ≤ characters_of ask.source → offset_by text.offsets k ≡ source_offset ask.source k

-- a room before and after a call that lays out a text, or that breaks one into lines again. Its capacity is unchanged.
-- If the call succeeds, it contains such a text with its layout, broken at the breaks. Else it is unchanged, for a
-- reason
pub record LeavesText (IsTaken : Type 0) (IsRejected : LayoutFault → Type 0) (IsText : TextOf →
    Type 0) (breaks : List ℕ) (old new : RoomOf) (done : Result (Unit {0}) LayoutFault) : Type 0 where
  pub capacity : new.capacity ≡ old.capacity
  pub encodes : new.encodes ≡ old.encodes
  pub unchanged : OnErr done (new ≡ old)
  pub rejected : IfErr done IsRejected
  pub taken : OnOk done IsTaken
  pub text : OnOk done (IsText new.text)
  pub broken : OnOk done (IsBrokenAt breaks new)

-- of a call that lays out a text as it is asked for
abbrev pub Leaves : AskOf → TablesOf → RoomOf → RoomOf → Result (Unit {0}) LayoutFault → Type 0
Leaves ask tables old new done =
    LeavesText (Takes ask old) (Rejects ask old) (IsAsked ask tables) ask.breaks old new done

-- P1 to L2: a room contains the layout of the text that is asked for, broken at the characters that begin at the
-- breaks. These are the breaks themselves if each unit of the text is a character
abbrev pub IsBrokenAsAsked : AskOf → TablesOf → RoomOf → Type 0
IsBrokenAsAsked ask tables room =
    (indices : List ℕ) → AreBreaks indices (characters_of ask.source) →
    map (source_offset ask.source) indices ≡ ask.breaks
    → room.layout ≡ layout_of ask.limits (units_of tables ask.source) ask.direction indices

-- this holds of each room after a call that lays out a text
abbrev pub BreaksAreTaken : Type 0
BreaksAreTaken =
    (ask : AskOf) (tables : TablesOf) (old new : RoomOf) (done : Result (Unit {0}) LayoutFault)
    → Leaves ask tables old new done → OnOk done (IsBrokenAsAsked ask tables new)

-- breaks of the room's text are rejected for this reason
abbrev pub RejectsLines : RoomOf → List ℕ → LayoutFault → Type 0
RejectsLines room breaks fault = RejectsBreaks (offset_in room) (characters_in room) (size_in room) breaks fault

-- of a call that breaks the text of the room into lines again
abbrev pub SetsLines : List ℕ → RoomOf → RoomOf → Result (Unit {0}) LayoutFault → Type 0
SetsLines breaks old new done =
    LeavesText (AreBreaks breaks (size_in old)) (RejectsLines old breaks) (λ text. text ≡ old.text) breaks old new done
