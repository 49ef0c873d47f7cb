-- P2, P3: the side of the first strong class, directly inside an isolate or outside of all isolates.
use Rattle.std.specs.Prelude.{◌≡◌, ◌<◌, ℕ, Bool, true, false, if◌then◌else◌, List, Option, Some, None, length, slice_index_or, slice_set}
use Rattle.units.specs.Classes.{class_at, is_isolate_initiator}
use Rattle.units.specs.Classes.{is_right_to_left as is_class_right_to_left}
use Rattle.units.specs.Isolates.{first_strong}
use Rattle.units.specs.declared.class.Class.{Class}
use Rattle.explicit.specs.declared.side.Side.{Side}
use Rattle.explicit.specs.declared.side.Side.TheVariants.{Unknown, LeftToRight, RightToLeft}

-- the side of a strong class
abbrev pub strong_side : Class → Side
strong_side c = if is_class_right_to_left c then RightToLeft else LeftToRight

-- the known side, or that of this strong class if none is known
abbrev pub noted : Side → Class → Side
noted Unknown c = strong_side c
noted LeftToRight c = LeftToRight
noted RightToLeft c = RightToLeft

-- the first strong class is R or AL
abbrev pub is_right_to_left_side : Side → Bool
is_right_to_left_side Unknown = false
is_right_to_left_side LeftToRight = false
is_right_to_left_side RightToLeft = true

-- the side of the strong class at this position, if there is one
abbrev pub side_at : List Class → Option ℕ → Side
side_at cs None = Unknown
side_at cs (Some p) = strong_side (class_at cs p)

-- the side at each initiator is that of the first strong class directly inside its isolate
abbrev pub HasSides : List Side → List Class → Type 0
HasSides sides cs =
    (p : ℕ) → p < length cs → is_isolate_initiator (class_at cs p) ≡ true
    → slice_index_or sides p Unknown ≡ side_at cs (first_strong cs (Some p))

-- the known sides, with this strong class noted at a position
abbrev pub noted_at : List Side → ℕ → Class → List Side
noted_at sides i c = slice_set sides i (noted (slice_index_or sides i Unknown) c)
