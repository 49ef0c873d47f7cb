-- Which of a row's expected values are compared: its values as they are read. The layout's own values replace the
-- others, so that these can't differ.
use Rattle.std.specs.Prelude.{Option, None, Some, ℕ, Bool, true, false, List, [], ◌∷◌, filter}
use Rattle.std.specs.List.{slice_get}
use Rattle.std.specs.Option.{option_map_or}
use Rattle.units.specs.Layout.{TextLayout}
use Rattle.units.specs.Limits.{LimitsOf}
use Rattle.units.specs.declared.level.Direction.{Direction}
use Rattle.bidtests.specs.declared.verdict.Place.{Place}
use Rattle.bidtests.specs.Headline.{layout_under}
use Rattle.bidtests.specs.Verdicts.{Expected, wrong_place}
use Rattle.report.specs.declared.terms.Leniency.{Leniency}
use Rattle.report.specs.declared.terms.Parts.{Parts}
use Rattle.report.specs.declared.terms.Parts.TheVariants as parts
use Rattle.report.specs.declared.terms.Positions.{Positions}
use Rattle.report.specs.declared.terms.Positions.TheVariants as positions
use Rattle.report.specs.declared.terms.Terms.{Terms}

-- all parts are compared, at these positions
abbrev pub all_parts_at : Positions → Leniency
all_parts_at compared = record { parts = parts.All; positions = compared }

-- everything is compared
abbrev pub strict : Leniency
strict = all_parts_at positions.All

-- the same with these limits
abbrev pub strict_terms : LimitsOf → Terms
strict_terms limits = record { limits = limits; leniency = strict }

-- if only the order is compared, no paragraph level is read
abbrev pub para_read : Parts → Option ℕ → Option ℕ
para_read parts.All claimed = claimed
para_read parts.OrderAlone claimed = None

-- a position with this level is compared: if only shown positions are, X9 must not remove it
abbrev pub is_compared : Positions → Option ℕ → Bool
is_compared positions.All level = true
is_compared positions.Shown None = false
is_compared positions.Shown (Some level) = true

-- the expected level of a position with this level, as it is read: none if X9 removes the position
abbrev pub level_shown : Option ℕ → Option ℕ → Option ℕ
level_shown None claimed = None
level_shown (Some level) claimed = claimed

-- the expected levels of a text with these levels, each as it is read
abbrev pub levels_shown : List (Option ℕ) → List (Option ℕ) → List (Option ℕ)
levels_shown levels [] = []
levels_shown [] claimed = claimed
levels_shown (level ∷ levels) (c ∷ claimed) = level_shown level c ∷ levels_shown levels claimed

-- the expected levels as they are read beside those of the layout; these replace them if only the order is compared
abbrev pub levels_read : Parts → Positions → List (Option ℕ) → List (Option ℕ) → List (Option ℕ)
levels_read parts.OrderAlone compared levels claimed = levels
levels_read parts.All positions.All levels claimed = claimed
levels_read parts.All positions.Shown levels claimed = levels_shown levels claimed

-- the position of a text with these levels is read in an order: it is compared, or after the text's end
abbrev pub is_read : Positions → List (Option ℕ) → ℕ → Bool
is_read compared levels p = option_map_or (is_compared compared) (slice_get levels p) true

-- the expected order as it is read
abbrev pub order_read : Positions → List (Option ℕ) → List ℕ → List ℕ
order_read positions.All levels order = order
order_read positions.Shown levels order = filter (is_read positions.Shown levels) order

-- the expected values of a row as they are read beside this layout of its text
abbrev pub read_expected : Leniency → TextLayout → Expected → Expected
read_expected leniency layout expected = record {
  text = expected.text;
  directions = expected.directions;
  para_level = para_read leniency.parts expected.para_level;
  levels = levels_read leniency.parts leniency.positions layout.levels expected.levels;
  order = order_read leniency.positions layout.levels expected.order;
}

-- the expected values as they are read under the direction
abbrev pub read_under : Terms → Expected → Direction → Expected
read_under terms expected d = read_expected terms.leniency (layout_under terms.limits expected d) expected

-- the first place where the values as they are read differ from the layout
abbrev pub place_in : TextLayout → Expected → Option Place
place_in layout read = wrong_place read.para_level read.levels read.order layout

-- the first place where the expected values, as they are read under the direction, differ from the layout
abbrev pub place_under : Terms → Expected → Direction → Option Place
place_under terms expected d = place_in (layout_under terms.limits expected d) (read_under terms expected d)
