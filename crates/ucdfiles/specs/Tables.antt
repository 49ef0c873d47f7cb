-- What the tables give a code point.
use Rattle.std.specs.Prelude.{Option, None, ℕ, List, [], map, ◌≡◌, ◌≢◌, ◌<◌, ◌≤◌, ◌+◌, ◌*◌, length, slice_index_or}
use Rattle.std.specs.Option.{unwrap_or}
use Rattle.units.specs.declared.class.Class.{Class}
use Rattle.units.specs.declared.class.Class.TheVariants.{L, ON}
use Rattle.units.specs.declared.bracket.Bracket.{Bracket}
use Rattle.units.specs.declared.bracket.Bracket.TheVariants.{No}
use Rattle.units.specs.declared.bracket.Unit.{Unit as BidiUnit}
use Rattle.ucdfiles.specs.declared.span.Span.{Span}
use Rattle.ucdfiles.specs.Spans.{value_in}
use Rattle.ucdfiles.specs.Stages.{Stages, stage_at}

-- the class that a table gives a code point
unfoldable pub class_by : Stages Class → ℕ → Class
class_by table c = stage_at table c L

-- the bracket that a table gives a code point
unfoldable pub bracket_by : Stages Bracket → ℕ → Bracket
bracket_by table c = stage_at table c No

-- the mirror image that a table gives a code point, if it gives one
unfoldable pub mirror_by : Stages (Option ℕ) → ℕ → Option ℕ
mirror_by table c = stage_at table c None

-- the three tables
pub record TablesOf : Type 0 where
  pub classes : Stages Class
  pub brackets : Stages Bracket
  pub mirrors : Stages (Option ℕ)

-- the properties that the tables give a code point: its class and its bracket
abbrev pub unit_by : TablesOf → ℕ → BidiUnit
unit_by tables c = record { class = class_by tables.classes c; bracket = bracket_by tables.brackets c }

-- the units that the tables give a text
abbrev pub units_by : TablesOf → List ℕ → List BidiUnit
units_by tables text = map (unit_by tables) text

-- the table gives each code point the bracket of the span that contains it, and none to the others
abbrev pub IsTableOf : List (Span Bracket) → Stages Bracket → Type 0
IsTableOf spans table = (c : ℕ) → c ≤ 0x10FFFF → bracket_by table c ≡ unwrap_or (value_in spans [] c) No

-- a code point whose class is another than ON is no bracket
abbrev pub AreNeutral : Stages Class → Stages Bracket → Type 0
AreNeutral classes brackets = (c : ℕ) → c ≤ 0x10FFFF → class_by classes c ≢ ON → bracket_by brackets c ≡ No

-- the classes that a table gives the code points of a block
pub record AreOfBlock (table : Stages Class) (block : ℕ) (classes : List Class) : Type 0 where
  pub count : length classes ≡ 128
  pub values : (k : ℕ) → k < 128 → slice_index_or classes k L ≡ class_by table (block * 128 + k)
