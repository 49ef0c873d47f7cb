-- The starts and ends of the runs of a line.
use Rattle.std.specs.Prelude.{ℕ, ◌≡◌, ◌≢◌, ◌<◌, ◌≤◌, ◌+◌, ◌-◌, ◌⊎◌, true, Option, None, List, is_some, slice_index, slice_index_or, unwrap_or}
use Rattle.units.specs.Isolates.{level_of_para}
use Rattle.visual.specs.EffectiveLevelRanges.{next_remaining}
use Rattle.visual.specs.declared.line.OrderedLine.{OrderedLine}

-- X9: all positions from p up to q were removed
abbrev pub AllRemoved : List (Option ℕ) → ℕ → ℕ → Type 0
AllRemoved levels p q = (d : ℕ) → p ≤ d → d < q → slice_index_or levels d None ≡ None

-- the start and the end of a run whose remaining positions are from low through high: removed positions before them
-- belong to it, and, if it has the level of the paragraph, those up to the end of the line
pub record IsSpan (levels : List (Option ℕ)) (para start end low high v from to : ℕ) : Type 0 where
  pub reaches : from ≤ low
  pub first : start ≤ from
  pub before : AllRemoved levels from low
  pub begins : (from ≡ start) ⊎ ((start < from) × (is_some (slice_index_or levels (from - 1) None) ≡ true))
  pub joined : next_remaining levels end (high + 1) ≡ None → v ≡ para → to ≡ end
  pub alone : (next_remaining levels end (high + 1) ≡ None → v ≢ para) → to ≡ high + 1

-- the level of a position, or that of the paragraph if it was removed
abbrev pub level_or_para : OrderedLine → ℕ → ℕ
level_or_para line p = unwrap_or (slice_index_or line.levels.now p None) (level_of_para line.para_level)

-- the level of the position at a place of the line's order
abbrev pub level_at_place : OrderedLine → ℕ → ℕ
level_at_place line place = level_or_para line (slice_index line.order.now place)

-- the place before this one, if there is one, has another level
abbrev pub BeginsAt : OrderedLine → ℕ → Type 0
BeginsAt line place = 0 < place → level_at_place line (place - 1) ≢ level_at_place line place

-- the position before this one in the text is not in the line, or has another level than the paragraph
abbrev pub IsAlone : OrderedLine → ℕ → Type 0
IsAlone line start = (start ≤ line.start) ⊎ (level_or_para line (start - 1) ≢ level_of_para line.para_level)
