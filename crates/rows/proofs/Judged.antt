-- The verdict on a file of cases is yes.
use Rattle.std.proofs.Common.{◌≡◌, ℕ, ◌+◌, ◌<◌, ◌≤◌, true, Bool, Option, Some, None, List, [], ◌∷◌, length, map, refl, ap, cond, ◌∙◌, arith, eq-eqb}
use Rattle.std.specs.Prelude.{nat_eq, count_by, sum_by}
use Rattle.std.specs.List.{All, flat_map}
use Rattle.std.specs.Borrow.{Bor}
use Rattle.std.proofs.lemmas.List.{length-map}
use Rattle.std.proofs.lemmas.List.Elements.{All-nil, All-cons, All-head, All-tail, All-weaker}
use Rattle.std.proofs.lemmas.List.Sums.{sum_by-cons}
use Rattle.units.specs.Layout.{TextLayout, all_orders}
use Rattle.units.specs.Limits.{LimitsOf}
use Rattle.units.specs.Lines.{HasNoFeed, saturated}
use Rattle.units.specs.Positions.{same_position}
use Rattle.units.proofs.Positions.{same_position_refl}
use Rattle.units.specs.Text.{lines_of}
use Rattle.units.specs.declared.bracket.Unit.{Unit as BidiUnit}
use Rattle.ucdfiles.specs.Tables.{TablesOf, unit_by}
use Rattle.lines.proofs.Lengths.{length-levels}
use Rattle.bidtests.specs.declared.verdict.Verdict.TheVariants.{Yes}
use Rattle.bidtests.specs.Verdicts.{Expected, Finding, Silent, Row, agrees, cases_of, first_difference, first_no, first_of, is_row, verdict_on, wrong_case, wrong_place}
use Rattle.bidtests.specs.ClassesFile.{ClassesLine, LevelsAre, OrderIs, RowOf, expected_under, classes_findings, classes_line, classes_verdict, findings_after}
use Rattle.bidtests.specs.CharactersFile.{characters_findings, characters_line, characters_verdict}
use Rattle.bidtests.specs.declared.kind.Kind.{Kind}
use Rattle.bidtests.specs.declared.kind.Kind.TheVariants.{Classes, Characters}
use Rattle.rows.specs.Judged.{JudgeSaysYes}
use Rattle.rows.specs.Letters.{unit_of, units_of}
use Rattle.rows.specs.RowTexts.{Case, IsRowText, case_lines, cases_text, fields_with_layout, in_fields, layout_of_case, levels_line, lines_of_cases, order_line, row_line}
use Rattle.rows.proofs.CharacterRows.{SaysCase, case-row, expected_of_row}
use Rattle.rows.proofs.FileOfLines.{lines-written}
use Rattle.rows.proofs.LevelBounds.{levels-low, All-flat_map}
use Rattle.rows.proofs.LineTexts.{Says, levels-read, order-read, no_feed-noted}
use Rattle.rows.proofs.OrderBounds.{order-few}
use Rattle.rows.proofs.RowLines.{row-read}

-- the three lines of a case are read as its levels, its order and its row
record CaseSays (limits : LimitsOf) (c : Case) : Type 0 where
  pub levels : Says (levels_line (layout_of_case limits c).levels) (LevelsAre (layout_of_case limits c).levels)
  pub order : Says (order_line (all_orders (layout_of_case limits c))) (OrderIs (all_orders (layout_of_case limits c)))
  pub row : Says (row_line c.text c.direction) (RowOf (units_of c.text) (c.direction ∷ []))

case-says : (limits : LimitsOf) (c : Case) → limits.depth ≤ 125 → IsRowText Classes c.text → CaseSays limits c
case-says limits c deep is =
    let units : List BidiUnit = units_of c.text in
    let fits : length units ≤ 4095 = omega (arith, length-map c.text unit_of, is.fits) in
    let few = order-few limits units c.direction in
    let count : length (layout_of_case limits c).levels ≡ length units = length-levels limits units c.direction [] in
    record {
      levels = levels-read (layout_of_case limits c).levels (levels-low limits units c.direction [] deep) (omega (
        arith,
        count,
      ));
      order = order-read (all_orders (layout_of_case limits c))
          (All-weaker (λ p. p < length units) (λ p. p < 4096) (λ p lt.
          omega arith) (all_orders (layout_of_case limits c)) few.places) (omega (arith, few.few));
      row = row-read c.text c.direction is;
    }

-- the expected levels and order of a case
abbrev expected_of_case : LimitsOf → Case → Expected
expected_of_case limits c =
    expected_under (units_of c.text) (c.direction ∷ []) (layout_of_case limits c).levels
    (all_orders (layout_of_case limits c))

-- the findings of the lines of a case
abbrev findings_of : LimitsOf → Case → List Finding
findings_of limits c = Silent ∷ Silent ∷ Row (expected_of_case limits c) ∷ []

found : (limits : LimitsOf) (cases : List Case) (earlier : List ClassesLine) → All (CaseSays limits) cases
    → findings_after earlier (map classes_line (lines_of_cases limits Classes cases)) ≡
    flat_map (findings_of limits) cases
found limits [] earlier says = refl
found limits (c ∷ cases) earlier says =
    let here : CaseSays limits c = All-head (CaseSays limits) c cases says in
    let rest = found limits cases (RowOf (units_of c.text) (c.direction ∷ []) ∷
    OrderIs (all_orders (layout_of_case limits c)) ∷ LevelsAre (layout_of_case limits c).levels ∷ earlier)
    (All-tail (CaseSays limits) c cases says) in
    rw (
      here.levels.read,
      here.order.read,
      here.row.read,
    ) (ap (λ (fs : List Finding). Silent ∷ Silent ∷ Row (expected_of_case limits c) ∷ fs) rest)

no-difference : {A : Type 0} (same : A → A → Bool) → ((x : A) → same x x ≡ true) → (xs : List A) (at : ℕ) →
    first_difference same xs xs at ≡ None
no-difference same alike [] at = refl
no-difference same alike (x ∷ xs) at = rw (alike x) (no-difference same alike xs (at + 1))

no-wrong : (para : Option ℕ) (layout : TextLayout) → agrees para (first_of layout.paras) ≡ true →
    wrong_place para layout.levels (all_orders layout) layout ≡ None
no-wrong para layout agree =
    rw (
      agree,
      no-difference same_position same_position_refl layout.levels 0,
      no-difference nat_eq (λ n. eq-eqb n n refl) (all_orders layout) 0,
    ) refl

no-wrong-case : (limits : LimitsOf) (c : Case) → wrong_case limits (expected_of_case limits c) (c.direction ∷ []) ≡ None
no-wrong-case limits c = rw (no-wrong None (layout_of_case limits c) refl) refl

no-no : (limits : LimitsOf) (cases : List Case) (k : ℕ) → first_no limits k (flat_map (findings_of limits) cases) ≡ None
no-no limits [] k = refl
no-no limits (c ∷ cases) k = rw (no-wrong-case limits c) (no-no limits cases (k + 1 + 1 + 1))

count-rows : (limits : LimitsOf) (cases : List Case) →
    count_by is_row (flat_map (findings_of limits) cases) ≡ length cases
count-rows limits [] = refl
count-rows limits (c ∷ cases) =
    let more = flat_map (findings_of limits) cases in
    let row : Finding → ℕ = λ f. cond (is_row f) 1 0 in
    omega (
      arith,
      sum_by-cons row Silent (Silent ∷ Row (expected_of_case limits c) ∷ more),
      sum_by-cons row Silent (Row (expected_of_case limits c) ∷ more),
      sum_by-cons row (Row (expected_of_case limits c)) more,
      count-rows limits cases,
    )

count-cases : (limits : LimitsOf) (cases : List Case) →
    sum_by cases_of (flat_map (findings_of limits) cases) ≡ length cases
count-cases limits [] = refl
count-cases limits (c ∷ cases) =
    let more = flat_map (findings_of limits) cases in
    omega (
      arith,
      sum_by-cons cases_of Silent (Silent ∷ Row (expected_of_case limits c) ∷ more),
      sum_by-cons cases_of Silent (Row (expected_of_case limits c) ∷ more),
      sum_by-cons cases_of (Row (expected_of_case limits c)) more,
      count-cases limits cases,
    )

case-feedless : (limits : LimitsOf) (c : Case) → CaseSays limits c → All HasNoFeed (case_lines limits Classes c)
case-feedless limits c says =
    let levels : List ℕ = levels_line (layout_of_case limits c).levels in
    let order : List ℕ = order_line (all_orders (layout_of_case limits c)) in
    let row : List ℕ = row_line c.text c.direction in
    All-cons HasNoFeed levels (order ∷ row ∷ []) (no_feed-noted levels says.levels.by)
    (All-cons HasNoFeed order (row ∷ []) (no_feed-noted order says.order.by)
    (All-cons HasNoFeed row [] (no_feed-noted row says.row.by) (All-nil HasNoFeed)))

pub classes-yes : (limits : LimitsOf) (cases : List Case) → limits.depth ≤ 125 →
    All (λ c. IsRowText Classes c.text) cases
    → classes_verdict limits (cases_text limits Classes cases) ≡
    Yes (saturated (length cases)) (saturated (length cases))
unfolding classes_verdict verdict_on
classes-yes limits cases deep rows =
    let says : All (CaseSays limits) cases =
    All-weaker (λ (c : Case). IsRowText Classes c.text) (CaseSays limits) (λ c is.
    case-says limits c deep is) cases rows in
    let feedless = All-flat_map HasNoFeed (case_lines limits Classes) cases (All-weaker (CaseSays limits) (λ c.
    All HasNoFeed (case_lines limits Classes c)) (case-feedless limits) cases says) in
    let lines : classes_findings (lines_of (cases_text limits Classes cases)) ≡ flat_map (findings_of limits) cases =
    ap classes_findings (lines-written (lines_of_cases limits Classes cases) feedless) ∙ found limits cases [] says in
    rw (lines, no-no limits cases 0, count-rows limits cases, count-cases limits cases) refl

module _ (tables : Bor TablesOf) (limits : LimitsOf) where
  -- the expected levels and orders of cases, as their rows have them
  abbrev row-findings : (cases : List Case) → All (SaysCase tables limits) cases → List Finding
  row-findings [] says = []
  row-findings (c ∷ cases) says =
      let here : SaysCase tables limits c = All-head (SaysCase tables limits) c cases says in
      Row (expected_of_row limits c here.para) ∷ row-findings cases (All-tail (SaysCase tables limits) c cases says)

  rows-found : (cases : List Case) (says : All (SaysCase tables limits) cases)
      → map (characters_line (unit_by tables.now)) (lines_of_cases limits (Characters tables) cases) ≡
      row-findings cases says
  rows-found [] says = refl
  rows-found (c ∷ cases) says =
      let here : SaysCase tables limits c = All-head (SaysCase tables limits) c cases says in
      rw here.row.read (ap (λ (fs : List Finding). Row (expected_of_row limits c here.para) ∷ fs)
      (rows-found cases (All-tail (SaysCase tables limits) c cases says)))

  right-row : (c : Case) (says : SaysCase tables limits c) →
      wrong_case limits (expected_of_row limits c says.para) (c.direction ∷ []) ≡ None
  right-row c says =
      let agree : agrees (Some says.para) (first_of (layout_of_case limits c).paras) ≡ true =
      rw says.first.1 (eq-eqb says.para says.para refl) in
      rw (no-wrong (Some says.para) (layout_of_case limits c) agree) refl

  no-wrong-row : (cases : List Case) (says : All (SaysCase tables limits) cases) (k : ℕ) →
      first_no limits k (row-findings cases says) ≡ None
  no-wrong-row [] says k = refl
  no-wrong-row (c ∷ cases) says k =
      rw (right-row c (All-head (SaysCase tables limits) c cases says))
      (no-wrong-row cases (All-tail (SaysCase tables limits) c cases says) (k + 1))

  rows-counted : (cases : List Case) (says : All (SaysCase tables limits) cases) →
      count_by is_row (row-findings cases says) ≡ length cases
  rows-counted [] says = refl
  rows-counted (c ∷ cases) says =
      let here : SaysCase tables limits c = All-head (SaysCase tables limits) c cases says in
      let rest = All-tail (SaysCase tables limits) c cases says in
      let row : Finding → ℕ = λ f. cond (is_row f) 1 0 in
      omega (
        arith,
        sum_by-cons row (Row (expected_of_row limits c here.para)) (row-findings cases rest),
        rows-counted cases rest,
      )

  cases-counted : (cases : List Case) (says : All (SaysCase tables limits) cases) →
      sum_by cases_of (row-findings cases says) ≡ length cases
  cases-counted [] says = refl
  cases-counted (c ∷ cases) says =
      let here : SaysCase tables limits c = All-head (SaysCase tables limits) c cases says in
      let rest = All-tail (SaysCase tables limits) c cases says in
      omega (
        arith,
        sum_by-cons cases_of (Row (expected_of_row limits c here.para)) (row-findings cases rest),
        cases-counted cases rest,
      )

  row-feedless : (c : Case) → SaysCase tables limits c → All HasNoFeed (case_lines limits (Characters tables) c)
  row-feedless c says =
      let line : List ℕ = in_fields (fields_with_layout (layout_of_case limits c) c) in
      All-cons HasNoFeed line [] (no_feed-noted line says.row.by) (All-nil HasNoFeed)

  characters-yes : (cases : List Case) → limits.depth ≤ 125 → All (λ c. IsRowText (Characters tables) c.text) cases
      → characters_verdict limits (unit_by tables.now) (cases_text limits (Characters tables) cases) ≡
      Yes (saturated (length cases)) (saturated (length cases))
  unfolding characters_verdict verdict_on
  characters-yes cases deep rows =
      let says : All (SaysCase tables limits) cases =
      All-weaker (λ (c : Case). IsRowText (Characters tables) c.text) (SaysCase tables limits) (λ c is.
      case-row tables limits c deep is) cases rows in
      let feedless = All-flat_map HasNoFeed (case_lines limits (Characters tables)) cases
      (All-weaker (SaysCase tables limits) (λ c. All HasNoFeed (case_lines limits (Characters tables) c)) row-feedless
      cases says) in
      let lines : characters_findings (unit_by tables.now) (lines_of (cases_text limits (Characters tables) cases)) ≡
      row-findings cases says =
      ap (characters_findings (unit_by tables.now))
      (lines-written (lines_of_cases limits (Characters tables) cases) feedless) ∙ rows-found cases says in
      rw (lines, no-wrong-row cases says 0, rows-counted cases says, cases-counted cases says) refl

pub judged-yes : (limits : LimitsOf) (kind : Kind) (cases : List Case) → limits.depth ≤ 125 →
    All (λ c. IsRowText kind c.text) cases → JudgeSaysYes limits kind cases
judged-yes limits Classes cases deep rows = classes-yes limits cases deep rows
judged-yes limits (Characters tables) cases deep rows = characters-yes tables limits cases deep rows
