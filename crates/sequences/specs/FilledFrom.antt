-- The isolates and the explicit levels of a paragraph, which its sequences are found from.
use Rattle.std.specs.Prelude.{Option, ℕ, ◌≤◌, List, length, map, take}
use Rattle.std.specs.Option.{option_map}
use Rattle.units.specs.Classes.{classes_of}
use Rattle.units.specs.Isolates.{partner_of}
use Rattle.units.specs.Positions.{positions_of}
use Rattle.units.specs.Runs.{LeveledView}
use Rattle.units.specs.declared.bracket.Unit.{Unit as BidiUnit}
use Rattle.units.specs.declared.class.Class.{Class}
use Rattle.explicit.specs.IsolateMaps.{Isolates, IsFilledFrom}
use Rattle.explicit.specs.ExplicitLevels.{HoldsLevels}
use Rattle.explicit.specs.Leveled.{IsLeveled, IsNested}

-- a paragraph of this level with these explicit levels, and the partners of BD9
abbrev pub leveled_by : List (Option (ℕ × Class)) → List Class → ℕ → LeveledView
leveled_by explicit cs para_level = record {
  classes = cs;
  levels = map (option_map (λ leveled. leveled.0)) (take (length cs) explicit);
  partners = map (partner_of cs) (positions_of cs);
  base = para_level;
}

-- X1 to X9: these are the explicit levels, up to some allowed depth (BD2), and the current classes of a paragraph with
-- these classes and this level
pub record AreExplicitLevels (explicit : List (Option (ℕ × Class))) (cs : List Class) (para_level : ℕ) : Type 0 where
  pub depth : ℕ
  pub within : depth ≤ 125
  pub found : HoldsLevels explicit depth cs para_level

-- these are the isolates (BD9) and the explicit levels (X1 to X9) of a paragraph of this level
pub record AreOfParagraph (units : List BidiUnit) (isolates : Isolates) (explicit : List (Option (ℕ × Class)))
    (base : ℕ) : Type 0 where
  pub matched : IsFilledFrom isolates (classes_of units)
  pub enough : length (classes_of units) ≤ length explicit
  pub leveled : IsLeveled (leveled_by explicit (classes_of units) base)
  pub nested : IsNested (leveled_by explicit (classes_of units) base)
