-- Statements about the bracket pairs of a sequence between W7 and N0.
use Rattle.std.specs.Prelude.{Option, ℕ, List}
use Rattle.units.specs.Classes.{classes_at}
use Rattle.units.specs.Layout.{brackets_of, after_brackets}
use Rattle.units.specs.Runs.{SequenceView}
use Rattle.units.specs.Weak.{after_weak}
use Rattle.units.specs.declared.bracket.Unit.{Unit as BidiUnit}
use Rattle.units.specs.declared.class.Class.{Class}
use Rattle.resolve.specs.Pairs.{HoldsPairs, HoldsPairsOf}
use Rattle.resolve.specs.Rewritten.{Rewrites}

-- BD14 to BD16: the table contains the pairs of the sequence by its classes after W7
abbrev pub HoldsPairsAfterWeak : ℕ → SequenceView → List BidiUnit → List Class → List (Option ℕ) → Type 0
HoldsPairsAfterWeak most_open s us before table =
    HoldsPairsOf most_open s.positions (brackets_of s us (after_weak s.sos (classes_at before s.positions))) table

-- BD14 to N0: the sequence's classes become those after its pairs, for this number of brackets that can be open, and
-- the others are unchanged. The units and `before`, the classes before W1, are those of its paragraph.
abbrev pub RewritesByBrackets : ℕ → SequenceView → List BidiUnit → List Class → List Class → List Class → Type 0
RewritesByBrackets most_open s us before old new =
    Rewrites (after_brackets most_open s us (classes_at before s.positions)) s.positions old new

-- N0: the sequence's classes become those after N0 with the pairs in the table, whichever paragraph these are of
abbrev pub RewritesByPairs : SequenceView → List Class → List (Option ℕ) → List Class → List Class → Type 0
RewritesByPairs s before table old new =
    (most_open : ℕ) (para : List BidiUnit) → HoldsPairs most_open s.positions para old table
    → RewritesByBrackets most_open s para before old new
