-- What a map of isolates says about the paragraph that it was filled from.
use Rattle.std.specs.Prelude.{◌≡◌, ℕ, ◌<◌, ◌≤◌, Bool, true, List, length, Option, Some, None, slice_index_or}
use Rattle.units.specs.Classes.{class_at, is_isolate_initiator}
use Rattle.units.specs.Isolates.{partner_of, first_strong, begins_right_to_left}
use Rattle.units.specs.OptionalPositions.{no_position}
use Rattle.units.specs.declared.class.Class.{Class}
use Rattle.explicit.specs.Sides.{side_at, HasSides}
use Rattle.explicit.specs.declared.side.Side.{Side}

-- BD9, P2, P3: the partner of each position; the side of each isolate, at its initiator; and the side outside of all
-- isolates
pub record Isolates : Type 0 where
  pub partners : List (Option ℕ)
  pub sides : List Side
  pub outside : Side

-- the length of the longest paragraph that fits into the map
abbrev pub room : Isolates → ℕ
room map = length map.partners

-- the columns have one length, and positions of four bytes can count it
pub record FitsTogether (partners openers sides : ℕ) : Type 0 where
  pub openers_fit : openers ≡ partners
  pub sides_fit : sides ≡ partners
  pub few : partners ≤ no_position

-- BD9: these are the partners in a paragraph with these classes
pub record HasPartners (partners : List (Option ℕ)) (cs : List Class) : Type 0 where
  pub enough : length cs ≤ length partners
  pub at : (p : ℕ) → p < length cs → slice_index_or partners p None ≡ partner_of cs p

-- BD9, P2, P3: the map was filled from a paragraph with these classes
pub record IsFilledFrom (map : Isolates) (cs : List Class) : Type 0 where
  pub matched : HasPartners map.partners cs
  pub sides : HasSides map.sides cs
  pub outside : map.outside ≡ side_at cs (first_strong cs None)

-- P2, P3: whether the first strong class directly inside the isolate that begins at p is R or AL, in every paragraph
-- that the map can have been filled from
abbrev pub IsSideInside : Isolates → ℕ → Bool → Type 0
IsSideInside map p right_to_left =
    (cs : List Class) → IsFilledFrom map cs → p < length cs → is_isolate_initiator (class_at cs p) ≡ true
    → right_to_left ≡ begins_right_to_left cs (first_strong cs (Some p))
