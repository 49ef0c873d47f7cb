-- Paragraphs of level 0 in which each position that remains keeps its explicit level (X1 to I2).
use Rattle.std.specs.Prelude.{Bool, ◌≡◌, ◌&&◌, true, false, List}
use Rattle.std.specs.List.{list_any}
use Rattle.units.specs.Classes.{classes_of, is_initiator}
use Rattle.units.specs.Layout.{resolved_levels}
use Rattle.units.specs.Limits.{LimitsOf}
use Rattle.units.specs.Runs.{leveled_of}
use Rattle.units.specs.declared.bracket.Unit.{Unit as BidiUnit}
use Rattle.units.specs.declared.class.Class.{Class}
use Rattle.units.specs.declared.class.Class.TheVariants.{RLE, RLO, RLI}
use Rattle.units.specs.declared.level.Direction.{Direction}
use Rattle.units.specs.declared.level.Direction.TheVariants.{Auto, Ltr}
use Rattle.explicit.specs.Uniform.{may_rise_at_even}
use Rattle.paragraph.specs.Contents.{has_none}

-- the own classes that can bring a position of a paragraph of level 0 above its explicit level: R, AL and AN rise above
-- an even level (I1), and RLE, RLO and RLI ask for an odd one (X2, X4, X5a), above which L and numbers rise (I2)
abbrev pub may_leave : Class → Bool
may_leave RLE = true
may_leave RLO = true
may_leave RLI = true
may_leave c = may_rise_at_even c

-- X1 to I2: at level 0 the resolved levels of the paragraph are its explicit ones
abbrev pub KeepsExplicitLevels : LimitsOf → List BidiUnit → Type 0
KeepsExplicitLevels limits us = resolved_levels limits us 0 ≡ (leveled_of limits.depth (classes_of us) 0).levels

-- P2, P3: without R and AL a paragraph has level 0 under this direction
abbrev pub begins_at_zero : Direction → Bool
begins_at_zero Auto = true
begins_at_zero Ltr = true
begins_at_zero _ = false

-- P2 to I2: under this direction a paragraph with these classes, of which one is an initiator, has level 0, and each
-- position that remains keeps its explicit level
abbrev pub keeps_explicit : Direction → List Class → Bool
keeps_explicit direction cs = begins_at_zero direction && list_any is_initiator cs && has_none may_leave cs
