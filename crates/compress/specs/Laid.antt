-- The stack of the pass, as two columns contain it: the units that are chosen, and the position at which each begins.
use Rattle.std.specs.Prelude.{Option, None, false, ◌&&◌, ◌||◌, ltb, if◌then◌else◌, ℕ, true, ◌+◌, zero, suc, ◌-◌, ◌<◌, ◌≤◌, ◌≡◌, List, [], ◌∷◌, ◌++◌, length, take, drop, slice_index_or}
use Rattle.units.specs.Classes.{classes_of, is_removed}
use Rattle.units.specs.Layout.{no_unit, resolved_levels}
use Rattle.units.specs.Limits.{LimitsOf}
use Rattle.units.specs.Runs.{direction_of}
use Rattle.explicit.specs.Flat.{IsFlat}
use Rattle.units.specs.declared.bracket.Bracket.{Bracket}
use Rattle.units.specs.declared.bracket.Bracket.TheVariants.{Open}
use Rattle.units.specs.declared.bracket.Unit.{Unit as BidiUnit}
use Rattle.units.specs.declared.class.Class.{Class}
use Rattle.units.specs.declared.class.Class.TheVariants.{L, EN}
use Rattle.compress.specs.Spread.{is_apart}
use Rattle.compress.specs.Remaining.{remaining_units}
use Rattle.compress.specs.Squeeze.{Stack, is_bare, passes_after, known_after, first_unit, squeezed}
use Rattle.compress.specs.declared.pass.Known.{Known}

-- the number that a bracket contains
abbrev pub number_in : Bracket → ℕ
number_in (Open key) = key.0
number_in _ = 0

-- a position that is stored as a unit
abbrev pub start_of : BidiUnit → ℕ
start_of unit = number_in unit.bracket

-- the position at which the chosen unit k begins
abbrev pub start_at : List BidiUnit → ℕ → ℕ
start_at starts k = start_of (slice_index_or starts k no_unit)

-- X9: how many units before this position remain
abbrev pub remaining_before : List BidiUnit → ℕ → ℕ
remaining_before us p = length (remaining_units (take p us))

-- the stack of the first m chosen units, of which the last one ends at this position
abbrev pub stack_of : List BidiUnit → List BidiUnit → List BidiUnit → ℕ → ℕ → Stack
stack_of us chosen starts zero end = []
stack_of us chosen starts (suc m) end =
    (slice_index_or chosen m no_unit, remaining_before us end - remaining_before us (start_at starts m))
    ∷ stack_of us chosen starts m (start_at starts m)

-- the first of m chosen units begins here
abbrev pub bottom_of : List BidiUnit → ℕ → ℕ → ℕ
bottom_of starts zero end = end
bottom_of starts (suc m) end = start_at starts 0

-- the first m begin one after another, and before the end
pub record AreRising (starts : List BidiUnit) (m : ℕ) (end : ℕ) : Type 0 where
  pub low : (k : ℕ) → k < m → start_at starts k < end
  pub rise : (k : ℕ) → suc k < m → start_at starts k < start_at starts (suc k)

-- the first m chosen units begin where they should in the paragraph up to this position
pub record IsLaid (us starts : List BidiUnit) (m : ℕ) (end : ℕ) : Type 0 where
  pub within : m ≤ end
  pub end_within : end ≤ length us
  pub rising : AreRising starts m end
  pub none_before : remaining_before us (bottom_of starts m end) ≡ 0

-- X9: of the units from this position up to the end, only the first remains
pub record IsNextAt (us : List BidiUnit) (p end : ℕ) : Type 0 where
  pub later : p < end
  pub within : end ≤ length us
  pub only : remaining_before us end ≡ remaining_before us p + 1

-- these units from a position on lead from this stack to that of the whole paragraph
abbrev pub LeadsOn : Class → List BidiUnit → Stack → ℕ → Type 0
LeadsOn direction us stack p =
    squeezed direction direction stack (remaining_units (drop p us))
    ≡ squeezed direction direction [] (remaining_units us)

-- X9: the class of the next unit after this position that remains, or L
abbrev pub class_after : List BidiUnit → ℕ → Class
class_after us p = (first_unit (remaining_units (drop (p + 1) us))).class

-- W7: the unit at this position is a number without a bracket, and becomes this letter, L, after L or neutrals after
-- it: what comes next is of a class that joins no number
pub record BecomesLetter (letter : Class) (us : List BidiUnit) (p : ℕ) : Type 0 where
  pub is_l : letter ≡ L
  pub number : (slice_index_or us p no_unit).class ≡ EN
  pub bare : is_bare (slice_index_or us p no_unit).bracket ≡ true
  pub apart : is_apart (class_after us p) ≡ true

-- the unit at this position has the level of the last of the first m chosen ones, whatever comes after it
pub record IsPassed (direction : Class) (us chosen : List BidiUnit) (m p : ℕ) : Type 0 where
  pub passes : (k : ℕ) → m ≡ suc k →
      passes_after direction (slice_index_or chosen k no_unit) (slice_index_or us p no_unit).class ≡ true
  pub some : 0 < m
  pub bare : (is_bare (slice_index_or us p no_unit).bracket || is_removed (slice_index_or us p no_unit).class) ≡ true

-- this unit has not the level of the last of the first m chosen ones for its own class alone
pub record IsApart (direction : Class) (chosen : List BidiUnit) (m : ℕ) (unit : BidiUnit) : Type 0 where
  pub remains : is_removed unit.class ≡ false
  pub stopped : (k : ℕ) → m ≡ suc k →
      (passes_after direction (slice_index_or chosen k no_unit) unit.class && is_bare unit.bracket) ≡ false

-- it is known what comes before the unit at this position, which remains, and is not passed after the last chosen one
pub record IsStateAt (known : Known) (us chosen starts : List BidiUnit) (m p : ℕ) : Type 0 where
  pub laid : IsLaid us starts m p
  pub strong : known.strong ≡ (known_after known.direction (stack_of us chosen starts m p)).strong
  pub apart : IsApart known.direction chosen m (slice_index_or us p no_unit)

-- from this index on, both columns are as they were
pub record AreUnchangedFrom (k : ℕ) (chosen starts chosen2 starts2 : List BidiUnit) : Type 0 where
  pub units : drop k chosen2 ≡ drop k chosen
  pub positions : drop k starts2 ≡ drop k starts

-- the first m chosen units are those of the units before this position, and with the units from it on they lead to
-- those of the whole paragraph
pub record AreFew (direction : Class) (us chosen starts : List BidiUnit) (m end : ℕ) : Type 0 where
  pub laid : IsLaid us starts m end
  pub leads : LeadsOn direction us (stack_of us chosen starts m end) end
  pub fits : m ≤ length chosen
  pub starts_fit : m ≤ length starts

-- the level of the unit at p, by the levels of the first m chosen ones: that of the last one that begins before or at
-- p; none if X9 removes the unit, or before all of them
abbrev pub level_by : List BidiUnit → List BidiUnit → List (Option ℕ) → ℕ → ℕ → Option ℕ
level_by us starts few zero p = None
level_by us starts few (suc m) p =
    if ltb p (start_at starts m) then level_by us starts few m p
    else (if is_removed (slice_index_or us p no_unit).class then None else slice_index_or few m None)

-- these levels of a paragraph are those of the first m chosen units before this position, and of all units from it on
pub record AreSpread (us starts : List BidiUnit) (m end : ℕ) (few levels : List (Option ℕ)) : Type 0 where
  pub before : (p : ℕ) → p < end → slice_index_or levels p None ≡ level_by us starts few m p
  pub after : (p : ℕ) → end ≤ p → p < length us → slice_index_or levels p None ≡ slice_index_or few (m + (p - end)) None

-- the first m chosen units, and all units of the paragraph from this position on
abbrev pub few_and_rest : List BidiUnit → List BidiUnit → ℕ → ℕ → List BidiUnit
few_and_rest us chosen m end = take m chosen ++ drop end us

-- X1 to I2: if the first m chosen units and those from this position on have these levels as a paragraph of their own, at
-- the level of the paragraph of which they are the few, then these are its resolved levels
abbrev pub ResolvesFrom : List BidiUnit → List BidiUnit → ℕ → ℕ → List (Option ℕ) → List (Option ℕ) → Type 0
ResolvesFrom us starts m end few levels =
    (limits : LimitsOf) (para_level : ℕ) (chosen : List BidiUnit) → IsFlat (classes_of us) →
    AreFew (direction_of para_level) us chosen starts m end →
    few ≡ resolved_levels limits (few_and_rest us chosen m end) para_level → levels ≡ resolved_levels limits us para_level

-- X9: all units remain
abbrev pub RemainAll : List BidiUnit → Type 0
RemainAll us = (p : ℕ) → p < length us → is_removed (slice_index_or us p no_unit).class ≡ false

-- X9: from start up to end these levels are this one, and none where a unit is removed; all others are as they were
pub record IsRun (us : List BidiUnit) (start end : ℕ) (level : Option ℕ) (old levels : List (Option ℕ)) : Type 0 where
  pub inside : (p : ℕ) → start ≤ p → p < end →
      slice_index_or levels p None ≡ (if is_removed (slice_index_or us p no_unit).class then None else level)
  pub below : (p : ℕ) → p < start → slice_index_or levels p None ≡ slice_index_or old p None
  pub above : (p : ℕ) → end ≤ p → slice_index_or levels p None ≡ slice_index_or old p None

-- the same, but levels from the lowest position on may have changed before start too
pub record IsRunAfter (us : List BidiUnit) (lowest start end : ℕ) (level : Option ℕ) (old levels : List (Option ℕ)) : Type 0 where
  pub inside : (p : ℕ) → start ≤ p → p < end →
      slice_index_or levels p None ≡ (if is_removed (slice_index_or us p no_unit).class then None else level)
  pub below : (p : ℕ) → p < lowest → slice_index_or levels p None ≡ slice_index_or old p None
  pub above : (p : ℕ) → end ≤ p → slice_index_or levels p None ≡ slice_index_or old p None
