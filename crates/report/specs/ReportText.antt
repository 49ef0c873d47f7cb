-- The text of a report, as bytes.
use Rattle.std.specs.Prelude.{Option, Some, None, ℕ, List, [], ◌∷◌, ◌++◌, codes, take}
use Rattle.std.specs.List.{concat, flat_map}
use Rattle.std.specs.Fmt.{decimal}
use Rattle.bidtests.specs.declared.verdict.Cause.{Cause}
use Rattle.bidtests.specs.declared.verdict.Place.{Place}
use Rattle.bidtests.specs.declared.verdict.Place.TheVariants.{ParaLevel, Levels, Order}
use Rattle.bidtests.specs.declared.verdict.Verdict.TheVariants.{Malformed}
use Rattle.bidtests.specs.VerdictText.{direction_word, verdict_text}
use Rattle.report.specs.declared.case_counts.CaseCounts.{CaseCounts}
use Rattle.report.specs.declared.wrong_case.Item.{Item}
use Rattle.report.specs.declared.wrong_case.Item.TheVariants.{Ended, Removed, Level, Position}
use Rattle.report.specs.declared.wrong_case.WrongCase.{WrongCase}
use Rattle.report.specs.FileReports.{FileReport}

-- the item at a place: a level or a position, `x` if the position is removed, `nothing` if the list has ended
abbrev pub item_text : Item → List ℕ
item_text Ended = codes "nothing"
item_text Removed = codes "x"
item_text (Level level) = decimal level
item_text (Position position) = decimal position

-- a place, its index counted from 0
abbrev pub place_words : Place → List ℕ
place_words ParaLevel = codes "paragraph level"
place_words (Levels index) = codes "levels at " ++ decimal index
place_words (Order index) = codes "order at " ++ decimal index

-- the line of a wrong case, with its LF: lines of the file are counted from 1
abbrev pub wrong_case_text : WrongCase → List ℕ
wrong_case_text w =
    concat (codes "line " ∷ decimal w.line ∷ codes ": " ∷ direction_word w.direction ∷ codes ": " ∷ place_words w.place
    ∷ codes ": claimed " ∷ item_text w.claimed ∷ codes ", defined " ∷ item_text w.defined ∷ codes "\n" ∷ [])

-- how many rows and cases there are, and how many of them are wrong
abbrev pub totals_text : CaseCounts → List ℕ
totals_text t =
    concat (decimal t.rows ∷ codes " rows, " ∷ decimal t.wrong_rows ∷ codes " wrong; " ∷ decimal t.cases ∷
    codes " cases, "
    ∷ decimal t.wrong_cases ∷ codes " wrong\n" ∷ [])

-- how many wrong cases there are under each direction
abbrev pub directions_text : CaseCounts → List ℕ
directions_text t =
    concat (codes "wrong by direction: auto " ∷ decimal t.by_direction.auto ∷ codes ", ltr " ∷
    decimal t.by_direction.ltr
    ∷ codes ", rtl " ∷ decimal t.by_direction.rtl ∷ codes ", auto-rtl " ∷ decimal t.by_direction.auto_rtl ∷ codes "\n" ∷
    [])

-- how many wrong cases there are by what differs first
abbrev pub parts_text : CaseCounts → List ℕ
parts_text t =
    concat (codes "wrong by place: paragraph level " ∷ decimal t.by_part.para_level ∷ codes ", levels " ∷
    decimal t.by_part.levels
    ∷ codes ", order " ∷ decimal t.by_part.order ∷ codes "\n" ∷ [])

-- the first malformed line, if there is one, in the words of the verdict
abbrev pub malformed_text : Option (ℕ × Cause) → List ℕ
malformed_text None = []
malformed_text (Some m) = verdict_text (Malformed m.0 m.1)

-- the text after the wrong cases
abbrev pub foot_text : Option (ℕ × Cause) → CaseCounts → List ℕ
foot_text malformed t = malformed_text malformed ++ totals_text t ++ directions_text t ++ parts_text t

-- the lines of these wrong cases
abbrev pub wrong_cases_text : List WrongCase → List ℕ
wrong_cases_text ws = flat_map wrong_case_text ws

-- the lines of the first of these wrong cases, at most `most`
abbrev pub first_cases_text : ℕ → List WrongCase → List ℕ
first_cases_text most ws = wrong_cases_text (take most ws)

-- the text of a report: its first wrong cases, at most `most`, and its foot
abbrev pub report_text : ℕ → FileReport → List ℕ
report_text most report = first_cases_text most report.wrong ++ foot_text report.malformed report.case_counts
