-- L1 and L2 on a caller's own arrays, and properties of whole arrays.
use Rattle.std.specs.Prelude.{ℕ, ◌≡◌, ◌<◌, ◌≤◌, ◌++◌, ◌⊎◌, Some, IfErr, OnErr, OnOk, List, drop, length, map, slice_index, take}
use Rattle.std.specs.Char.{IsScalar}
use Rattle.std.specs.Option.{unwrap_or}
use Rattle.units.specs.Reordering.{line_order}
use Rattle.units.specs.declared.class.Class.{Class}
use Rattle.units.specs.declared.class.Class.TheVariants.{L}
use Rattle.ucdfiles.specs.Tables.{TablesOf, bracket_by, class_by}
use Rattle.sources.specs.ClassNumbers.{IsClassNumber, class_numbered}
use Rattle.sources.specs.Kinds.{AllAre, IsFirstOther}
use Rattle.visual.specs.GivenLevels.{all_present, levels_reset_in}
use Rattle.for_c.specs.Properties.{bracket_number}
use Rattle.for_c.specs.Statuses.{Outcome}
use Rattle.for_c.specs.declared.call_error.CallError.{CallError}
use Rattle.for_c.specs.declared.call_error.CallError.TheVariants.{NoCharacter, NoClass, NoLevel, TooSmall}

-- the classes with these numbers
abbrev pub classes_numbered : List ℕ → List Class
classes_numbered numbers = map (λ number. unwrap_or (class_numbered number) L) numbers

-- BD2: the number is that of a level
abbrev pub IsLevelNumber : ℕ → Type 0
IsLevelNumber number = number ≤ 126

-- L1 of a line with the numbers of its classes, at the front of a list of levels
pub record ResetsLine (classes : List ℕ) (para_level : ℕ) (old new : List ℕ) : Type 0 where
  pub fits : length classes ≤ length old
  pub level : IsLevelNumber para_level
  pub are_classes : AllAre IsClassNumber classes
  pub reset : new ≡ levels_reset_in (classes_numbered classes) para_level (take (length classes) old) ++
      drop (length classes) old

-- the line is rejected for this reason, the first of several: there are fewer levels than classes, the paragraph's
-- level is out of range, or a number is that of no class
abbrev pub RejectsLine : List ℕ → ℕ → List ℕ → CallError → Type 0
RejectsLine classes para_level levels TooSmall = length levels < length classes
RejectsLine classes para_level levels (NoLevel place) = (length classes ≤ length levels) × (126 < para_level) ×
    (place ≡ 0)
RejectsLine classes para_level levels (NoClass index) =
    (length classes ≤ length levels) × IsLevelNumber para_level × IsFirstOther IsClassNumber classes index
RejectsLine classes para_level levels _ = ⊥

-- L2: the positions from left to right, as their levels give them, at the front of a list
pub record Reorders (levels old new : List ℕ) : Type 0 where
  pub fits : length levels ≤ length old
  pub are_levels : AllAre IsLevelNumber levels
  pub order : new ≡ line_order (all_present levels) 0 (length levels) ++ drop (length levels) old

-- the levels are rejected for this reason, the first of several: the list has fewer items, or a number is no level
abbrev pub RejectsLevels : List ℕ → List ℕ → CallError → Type 0
RejectsLevels levels order TooSmall = length order < length levels
RejectsLevels levels order (NoLevel index) = (length levels ≤ length order) × IsFirstOther IsLevelNumber levels index
RejectsLevels levels order _ = ⊥

-- the numbers of the class and of the bracket of each code point
pub record AreProperties (tables : TablesOf) (codes classes brackets : List ℕ) : Type 0 where
  pub class : (k : ℕ) → k < length codes →
      class_numbered (slice_index classes k) ≡ Some (class_by tables.classes (slice_index codes k))
  pub bracket : (k : ℕ) → k < length codes →
      slice_index brackets k ≡ bracket_number (bracket_by tables.brackets (slice_index codes k))

-- these numbers, at the fronts of two lists
pub record WritesProperties (tables : TablesOf) (codes classes classes2 brackets brackets2 : List ℕ) : Type 0 where
  pub classes_fit : length codes ≤ length classes
  pub brackets_fit : length codes ≤ length brackets
  pub scalars : AllAre IsScalar codes
  pub front : AreProperties tables codes (take (length codes) classes2) (take (length codes) brackets2)
  pub classes_after : drop (length codes) classes2 ≡ drop (length codes) classes
  pub brackets_after : drop (length codes) brackets2 ≡ drop (length codes) brackets

-- the code points are rejected for this reason, the first of several: one of the lists has fewer items, or a code point
-- isn't a scalar value
abbrev pub RejectsCodes : List ℕ → List ℕ → List ℕ → CallError → Type 0
RejectsCodes codes classes brackets TooSmall = (length classes < length codes) ⊎ (length brackets < length codes)
RejectsCodes codes classes brackets (NoCharacter index) =
    (length codes ≤ length classes) × (length codes ≤ length brackets) × IsFirstOther IsScalar codes index
RejectsCodes codes classes brackets _ = ⊥

-- a call that writes the properties of code points, or fails for a reason; then nothing is written
pub record PutsProperties (tables : TablesOf) (codes classes classes2 brackets brackets2 : List ℕ) (outcome : Outcome) :
    Type 0 where
  pub written : OnOk outcome (WritesProperties tables codes classes classes2 brackets brackets2)
  pub unchanged_classes : OnErr outcome (classes2 ≡ classes)
  pub unchanged_brackets : OnErr outcome (brackets2 ≡ brackets)
  pub reason : IfErr outcome (RejectsCodes codes classes brackets)
