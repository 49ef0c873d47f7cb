-- The levels of a text whose characters all have one level, as bytes.
use Rattle.std.proofs.Common.{◌≡◌, ◌∙◌, ℕ, zero, suc, Option, Some, None, List, ap, get_or, length, map, refl, sym, ◌∷◌}
use Rattle.std.specs.Prelude.{replicate}
use Rattle.std.proofs.lemmas.List.{get_or-replicate}
use Rattle.lines.specs.OneLevel.{AllHaveLevel}
use Rattle.room.specs.Looking.{size_in}
use Rattle.room.specs.Rooms.{RoomOf}
use Rattle.room.proofs.LevelPass.{Rise, at_inside}
use Rattle.for_c.specs.InUnits.{AreLevelBytes}
use Rattle.for_c.specs.LevelBytes.{level_byte}

bytes_of_one : (n level : ℕ) → map level_byte (replicate n (Some level)) ≡ replicate n level
bytes_of_one zero level = refl
bytes_of_one (suc n) level = ap (λ (bytes : List ℕ). level ∷ bytes) (bytes_of_one n level)

-- all characters have the level as a byte
pub character_bytes : (levels : List (Option ℕ)) (level : ℕ) → AllHaveLevel level levels →
    map level_byte levels ≡ replicate (length levels) level
character_bytes levels level all = ap (map level_byte) all ∙ bytes_of_one (length levels) level

-- all units have it
pub unit_bytes : (room : RoomOf) → Rise room → (level : ℕ) (bytes : List ℕ) → AllHaveLevel level room.layout.levels →
    bytes ≡ replicate (size_in room) level → AreLevelBytes room bytes
unit_bytes room rise level bytes all filled = λ at k is.
    let inside = at_inside room rise at k is in
    let level_is = get_or-replicate (length room.layout.levels) k (Some level) None is.inside in
    ap (λ (bs : List ℕ). get_or bs at 0) filled ∙ get_or-replicate (size_in room) at level 0 inside
    ∙ ap level_byte (sym level_is) ∙ ap (λ (xs : List (Option ℕ)). level_byte (get_or xs k None)) (sym all)
