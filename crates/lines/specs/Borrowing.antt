-- The state of a scratch after the layout that borrows it is dropped.
use Rattle.std.specs.Prelude.{◌≡◌, ⊤, List, Result, OnErr, OnOk}
use Rattle.std.specs.Borrow.{follows_so, MutBor, Fml}
use mathlib.Core.Option.{none}
use Rattle.units.specs.Limits.{LimitsOf}
use Rattle.units.specs.declared.bracket.Unit.{Unit as BidiUnit}
use Rattle.units.specs.declared.level.Direction.{Direction}
use Rattle.lines.specs.Scratches.{room_of, HoldsText, StillHoldsText}
use Rattle.lines.specs.declared.scratch.Scratch.{Scratch}
use Rattle.lines.specs.contracts.scratch.Scratch.{the_row}

-- it is unchanged
abbrev pub IsUnchanged : MutBor Scratch → Fml
IsUnchanged room = follows_so the_row the_row room.ghost_name none (λ _ _. ⊤) (λ last. last ≡ room.now)

-- its capacity is unchanged; after an error all of it is unchanged, and else it contains the text that was laid out
abbrev pub KeepsRoom : {T E : Type 0} → LimitsOf → List BidiUnit → Direction → MutBor Scratch → Result T E → Fml
KeepsRoom limits text direction room result =
    follows_so the_row the_row room.ghost_name none (λ _ _. ⊤)
    (λ last.
    (room_of last ≡ room_of room.now) × OnErr result (last ≡ room.now)
    × OnOk result (HoldsText limits text direction last))

-- its capacity is unchanged, and it still contains the text
abbrev pub KeepsText : List BidiUnit → MutBor Scratch → Fml
KeepsText text room =
    follows_so the_row the_row room.ghost_name none (λ _ _. ⊤)
    (λ last. (room_of last ≡ room_of room.now) × StillHoldsText text room.now last)
