-- P2: the side of the first strong class.
use Rattle.std.specs.Prelude.{Option, Some, None}
use Rattle.units.specs.declared.class.Class.{Class}
use Rattle.explicit.specs.declared.side.Side.{Side}
use Rattle.explicit.specs.declared.side.Side.TheVariants.{Unknown}
use Rattle.explicit.specs.Sides.{strong_side}

-- the side of the strong class, if there is one
abbrev pub side_by : Option Class → Side
side_by None = Unknown
side_by (Some c) = strong_side c
