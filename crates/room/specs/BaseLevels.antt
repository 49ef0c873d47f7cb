-- The direction of a text that is not laid out.
use Rattle.std.specs.Prelude.{ℕ, ◌≡◌, ◌<◌, ◌≤◌, ◌+◌, ◌-◌, Option, Some, None, List, Result, IfErr, IfOk, OnErr, drop, if◌then◌else◌, length, take}
use Rattle.units.specs.Classes.{classes_of, is_isolate_initiator, is_pdi}
use Rattle.units.specs.Isolates.{first_strong, para_level_of}
use Rattle.units.specs.Layout.{para_levels_of}
use Rattle.units.specs.declared.bracket.Unit.{Unit as BidiUnit}
use Rattle.units.specs.declared.class.Class.{Class}
use Rattle.units.specs.declared.level.Direction.{Direction}
use Rattle.explicit.specs.FirstParagraph.{first_length}
use Rattle.explicit.specs.Sides.{side_at}
use Rattle.explicit.specs.declared.side.Side.{Side}
use Rattle.ucdfiles.specs.Tables.{TablesOf}
use Rattle.sources.specs.Sources.{SourceOf, IsFirstFault, IsWellFormed, size_of, units_of}
use Rattle.room.specs.Written.{WritesWhole}

-- P1: the units of the first paragraph of a text
abbrev pub first_paragraph : List BidiUnit → List BidiUnit
first_paragraph units = take (first_length units) units

-- P1 to P3: the level of the first paragraph of a text
abbrev pub base_level : List BidiUnit → Direction → ℕ
base_level units direction = para_level_of (classes_of (first_paragraph units)) direction

-- P1, P2: the side of the first strong class of the text's first paragraph outside of its isolates
abbrev pub first_side : List BidiUnit → Side
first_side units = let cs : List Class = classes_of (first_paragraph units) in side_at cs (first_strong cs None)

-- how many of n positions there are up to this one, which counts too; all of them, if there is no such position
abbrev pub through : Option ℕ → ℕ → ℕ
through None n = n
through (Some p) n = p + 1

-- P1, P2: how many units of the text show that side: those of its first paragraph up to that strong class, or all of
-- the paragraph
abbrev pub units_read : List BidiUnit → ℕ
units_read units = through (first_strong (classes_of (first_paragraph units)) None) (first_length units)

-- BD9: how many isolates are open after a class, if `depth` are open before it; a PDI closes one, if one is open
abbrev pub depth_after : Class → ℕ → ℕ
depth_after class depth =
    if is_isolate_initiator class then depth + 1 else (if is_pdi class then depth - 1 else depth)

-- P1: the other text is what comes after the first paragraph of a text, and it is well formed too
pub record IsAfterParagraph (tables : TablesOf) (source rest : SourceOf) : Type 0 where
  pub well_formed : IsWellFormed rest
  pub units : units_of tables rest ≡ drop (first_length (units_of tables source)) (units_of tables source)
  pub size : size_of rest ≤ size_of source

-- P1: the text has a first paragraph, and the other text is what comes after it
pub record IsNextText (tables : TablesOf) (source rest : SourceOf) : Type 0 where
  pub some : 0 < length (units_of tables source)
  pub after : IsAfterParagraph tables source rest
  pub shorter : size_of rest < size_of source

-- P1 to P3: the levels of the paragraphs of a well-formed text are counted, and written to the front whole or not at
-- all; for another text the result is its first fault, and nothing is written
pub record WritesBaseLevels (tables : TablesOf) (source : SourceOf) (direction : Direction) (old new : List ℕ)
    (counted : Result ℕ ℕ) : Type 0 where
  pub well_formed : IfOk counted (λ _. IsWellFormed source)
  pub written : IfOk counted (λ count. WritesWhole (para_levels_of (units_of tables source) direction) count old new)
  pub fault : IfErr counted (IsFirstFault source)
  pub unchanged : OnErr counted (new ≡ old)
