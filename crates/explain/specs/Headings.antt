-- The heading of a paragraph, as bytes: its level, what decides it, and the names of the columns.
use Rattle.std.specs.Prelude.{Option, ℕ, ◌+◌, Some, None, slice_index_or, List, [], ◌∷◌, ◌++◌, codes}
use Rattle.std.specs.List.{concat}
use Rattle.std.specs.Fmt.{decimal}
use Rattle.units.specs.ClassNames.{short_name}
use Rattle.units.specs.Layout.{no_unit}
use Rattle.units.specs.declared.bracket.Unit.{Unit as BidiUnit}
use Rattle.units.specs.declared.level.Direction.{Direction}
use Rattle.units.specs.declared.level.Direction.TheVariants.{Auto, Ltr, Rtl, AutoRtl}
use Rattle.printing.specs.LevelsText.{line_feed}
use Rattle.explain.specs.declared.heading.Decider.{Decider}
use Rattle.explain.specs.declared.heading.Decider.TheVariants.{Given, NoStrong, Strong}

-- what decides a paragraph's level
abbrev pub decider_text : Decider → List ℕ
decider_text Given = codes "given"
decider_text NoStrong = codes "no strong character"
decider_text (Strong class position) = concat (short_name class ∷ codes " at " ∷ decimal position ∷ [])

-- P2, P3: the first strong character outside isolates, if there is one; the paragraph begins at start
abbrev pub decider_by : List BidiUnit → ℕ → Option ℕ → Decider
decider_by para start None = NoStrong
decider_by para start (Some p) = Strong (slice_index_or para p no_unit).class (start + p)

-- P2, P3: what decides a paragraph's level: the requested direction, or the first strong character
abbrev pub decider_of : Direction → List BidiUnit → ℕ → Option ℕ → Decider
decider_of Ltr para start first = Given
decider_of Rtl para start first = Given
decider_of Auto para start first = decider_by para start first
decider_of AutoRtl para start first = decider_by para start first

-- the names of the columns
abbrev pub columns_text : List ℕ
columns_text = codes "position code class level X W1 W2 W3 W4 W5 W6 W7 N0 N1 N2 I L1\n"

-- a paragraph's number, counted from 0, its level, what decides it, and the names of the columns
abbrev pub heading_text : ℕ → ℕ → Decider → List ℕ
heading_text number level decider =
    concat (codes "paragraph " ∷ decimal number ∷ codes " level " ∷ decimal level ∷ codes ": " ∷ decider_text decider ∷
    line_feed ∷ [])
    ++ columns_text
