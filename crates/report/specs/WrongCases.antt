-- The wrong cases of a test file, each with its expected and its defined item.
use Rattle.std.specs.Prelude.{Option, Some, None, ℕ, ◌+◌, List, [], ◌∷◌, ◌++◌}
use Rattle.std.specs.List.{slice_get, flat_map}
use Rattle.std.specs.Option.{option_map, option_to_list}
use Rattle.units.specs.Layout.{TextLayout, all_orders}
use Rattle.report.specs.declared.terms.Terms.{Terms}
use Rattle.units.specs.Lines.{line_number}
use Rattle.units.specs.declared.level.Direction.{Direction}
use Rattle.bidtests.specs.declared.verdict.Place.{Place}
use Rattle.bidtests.specs.declared.verdict.Place.TheVariants.{ParaLevel, Levels, Order}
use Rattle.bidtests.specs.Verdicts.{Expected, Finding, Silent, Row, Faulty}
use Rattle.bidtests.specs.Headline.{layout_under}
use Rattle.report.specs.declared.terms.Leniency.{Leniency}
use Rattle.report.specs.declared.wrong_case.Item.{Item}
use Rattle.report.specs.declared.wrong_case.Item.TheVariants.{Ended, Removed, Level, Position}
use Rattle.report.specs.declared.wrong_case.WrongCase.{WrongCase}
use Rattle.report.specs.ReadExpected.{place_in, read_expected}

-- the item at an index of a list of levels
abbrev pub level_item : Option (Option ℕ) → Item
level_item None = Ended
level_item (Some None) = Removed
level_item (Some (Some level)) = Level level

-- the item at an index of an order
abbrev pub position_item : Option ℕ → Item
position_item None = Ended
position_item (Some position) = Position position

-- the level of a first paragraph
abbrev pub para_item : Option ℕ → Item
para_item None = Ended
para_item (Some level) = Level level

-- the expected item at a place
abbrev pub expected_at : Expected → Place → Item
expected_at expected ParaLevel = para_item expected.para_level
expected_at expected (Levels i) = level_item (slice_get expected.levels i)
expected_at expected (Order i) = position_item (slice_get expected.order i)

-- the item of a layout at a place
abbrev pub defined_at : TextLayout → Place → Item
defined_at layout ParaLevel = para_item (slice_get layout.paras 0)
defined_at layout (Levels i) = level_item (slice_get layout.levels i)
defined_at layout (Order i) = position_item (slice_get (all_orders layout) i)

-- the wrong case of a row on the line with this number, whose expected values differ from the layout at this place
abbrev pub wrong_case_at : ℕ → Expected → Direction → TextLayout → Place → WrongCase
wrong_case_at number expected d layout place = record {
  line = number;
  direction = d;
  place = place;
  claimed = expected_at expected place;
  defined = defined_at layout place;
}

-- the wrong case of a row under the direction, if its expected values, as they are read, differ from this layout
abbrev pub wrong_case_in : Leniency → ℕ → Expected → Direction → TextLayout → Option WrongCase
wrong_case_in leniency number expected d layout =
    let read = read_expected leniency layout expected in
    option_map (wrong_case_at number read d layout) (place_in layout read)

-- the same for the layout under the direction
abbrev pub wrong_case_under : Terms → ℕ → Expected → Direction → Option WrongCase
wrong_case_under terms number expected d =
    wrong_case_in terms.leniency number expected d (layout_under terms.limits expected d)

-- the wrong cases of a row under these directions
abbrev pub wrong_cases_under : Terms → ℕ → Expected → List Direction → List WrongCase
wrong_cases_under terms number expected ds =
    flat_map (λ d. option_to_list (wrong_case_under terms number expected d)) ds

-- the wrong cases of the line with this number
abbrev pub wrong_cases_in : Terms → ℕ → Finding → List WrongCase
wrong_cases_in terms number Silent = []
wrong_cases_in terms number (Faulty cause) = []
wrong_cases_in terms number (Row expected) = wrong_cases_under terms number expected expected.directions

-- the wrong cases of these lines, if k lines are before them
abbrev pub wrong_cases_from : Terms → ℕ → List Finding → List WrongCase
wrong_cases_from terms k [] = []
wrong_cases_from terms k (f ∷ fs) = wrong_cases_in terms (line_number k) f ++ wrong_cases_from terms (k + 1) fs

-- the lines before the first malformed one: later lines may depend on what it was to say
abbrev pub sound_lines : List Finding → List Finding
sound_lines [] = []
sound_lines (Faulty cause ∷ fs) = []
sound_lines (f ∷ fs) = f ∷ sound_lines fs
