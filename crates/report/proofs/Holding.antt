-- Which wrong cases a report contains, in the terms of the main theorem.
use Rattle.std.proofs.Common.{◌≡◌, ◌≢◌, ◌↔◌, ℕ, zero, suc, ◌+◌, ◌<◌, ◌≤◌, Option, None, Some, List, [], ◌∷◌, length, get_or, refl, sym, ap, subst, ◌∙◌, arith, inl, inr}
use Rattle.std.specs.List.{Contains}
use Rattle.std.specs.Option.{option_map, option_to_list}
use Rattle.std.proofs.lemmas.List.Elements.{Contains-append_left, Contains-append_right, Contains-append_cases}
use Rattle.std.proofs.lemmas.Option.{none-some, same_Some}
use Rattle.report.specs.declared.terms.Terms.{Terms}
use Rattle.units.specs.Lines.{line_number}
use Rattle.units.specs.declared.level.Direction.{Direction}
use Rattle.bidtests.specs.declared.verdict.Cause.{Cause}
use Rattle.bidtests.specs.declared.verdict.Place.{Place}
use Rattle.bidtests.specs.Headline.{layout_under, IsMalformed, IsRow, IsWrongAt}
use Rattle.bidtests.specs.Verdicts.{Expected, Finding, Silent, Row, Faulty}
use Rattle.bidtests.proofs.Places.{CaseIs, case-is, right-wrong, place-unique, same-expected}
use Rattle.report.specs.declared.wrong_case.WrongCase.{WrongCase}
use Rattle.report.specs.FileReports.{IsWrongCase}
use Rattle.report.specs.ReadExpected.{place_under, read_under}
use Rattle.report.specs.WrongCases.{expected_at, defined_at, wrong_case_at, wrong_case_under, wrong_cases_under, wrong_cases_in, wrong_cases_from, sound_lines}

none-in : {A : Type 0} (x : A) → Contains [] x → ⊥
none-in x h = absurd (omega (arith, h.1))

one-in : {A : Type 0} (x y : A) → Contains (x ∷ []) y → x ≡ y
one-in x y h = by h.0 h.1 h.2 where
  by : (i : ℕ) → i < length (x ∷ []) → get_or (x ∷ []) i y ≡ y → x ≡ y
  by zero lt e = e
  by (suc i) lt e = absurd (omega arith)

in-one : {A : Type 0} (x y : A) → x ≡ y → Contains (x ∷ []) y
in-one x y e = (0, omega arith, e)

module _ (terms : Terms) where
  -- the wrong case is one of this row, on the line with this number, under its direction
  record IsCase (n : ℕ) (expected : Expected) (w : WrongCase) : Type 0 where
    line : w.line ≡ n
    wrong : IsWrongAt terms.limits (read_under terms expected w.direction) w.direction w.place
    claimed : w.claimed ≡ expected_at (read_under terms expected w.direction) w.place
    defined : w.defined ≡ defined_at (layout_under terms.limits expected w.direction) w.place

  module _ (n : ℕ) (expected : Expected) where
    -- the wrong case under a direction at a place
    abbrev case-at : Direction → Place → WrongCase
    case-at d = wrong_case_at n (read_under terms expected d) d (layout_under terms.limits expected d)

    case-in : (d : Direction) (o : Option Place) → CaseIs terms.limits (read_under terms expected d) d o →
        (w : WrongCase)
        → Contains (option_to_list (option_map (case-at d) o)) w → (w.direction ≡ d) × IsCase n expected w
    case-in d None right w h = absurd (none-in w h)
    case-in d (Some place) wrong w h =
        let P : WrongCase → Type 0 = λ v. (v.direction ≡ d) × IsCase n expected v in
        subst P (one-in (case-at d place) w h)
        (refl, record { line = refl; wrong = wrong; claimed = refl; defined = refl })

    in-case : (o : Option Place) (w : WrongCase) →
        CaseIs terms.limits (read_under terms expected w.direction) w.direction o → IsCase n expected w
        → Contains (option_to_list (option_map (case-at w.direction) o)) w
    in-case None w right c =
        absurd (right-wrong terms.limits (read_under terms expected w.direction) w.direction w.place right c.wrong)
    in-case (Some place) w wrong c =
        let same : place ≡ w.place =
        place-unique terms.limits (read_under terms expected w.direction) w.direction place w.place wrong c.wrong in
        let line = c.line in
        let claimed = c.claimed in
        let defined = c.defined in
        in-one (case-at w.direction place) w (rw (same, ← c.line, ← c.claimed, ← c.defined) refl)

    cases-in : (ds : List Direction) (w : WrongCase) → Contains (wrong_cases_under terms n expected ds) w →
        Contains ds w.direction × IsCase n expected w
    cases-in [] w h = absurd (none-in w h)
    cases-in (d ∷ ds) w h =
        elim (Contains-append_cases (option_to_list (wrong_case_under terms n expected d))
        (wrong_cases_under terms n expected ds) w h) [
          | inl here ↦
              let c = case-in d (place_under terms expected d) (case-is terms.limits (read_under terms expected d) d) w
              here in
              (Contains-append_left (d ∷ []) ds w.direction (in-one d w.direction (sym c.0)), c.1)
          | inr there ↦
              let c = cases-in ds w there in
              (Contains-append_right (d ∷ []) ds w.direction c.0, c.1)
        ]

    in-cases : (ds : List Direction) (w : WrongCase) → Contains ds w.direction → IsCase n expected w →
        Contains (wrong_cases_under terms n expected ds) w
    in-cases [] w named c = absurd (none-in w.direction named)
    in-cases (d ∷ ds) w named c =
        elim (Contains-append_cases (d ∷ []) ds w.direction named) [
          | inl here ↦
              let same : d ≡ w.direction = one-in d w.direction here in
              let P : Direction → Type 0 = λ e. Contains (option_to_list (wrong_case_under terms n expected e)) w in
              Contains-append_left (option_to_list (wrong_case_under terms n expected d))
              (wrong_cases_under terms n expected ds) w
              (subst P (sym same) (in-case (place_under terms expected w.direction) w
              (case-is terms.limits (read_under terms expected w.direction) w.direction) c))
          | inr there ↦
              Contains-append_right (option_to_list (wrong_case_under terms n expected d))
              (wrong_cases_under terms n expected ds) w (in-cases ds w there c)
        ]

  -- the line at this index is a row with this wrong case, and neither it nor a line before it is malformed
  record IsAt (k : ℕ) (fs : List Finding) (w : WrongCase) : Type 0 where
    j : ℕ
    well_formed : (i : ℕ) (cause : Cause) → i ≤ j → ¬ IsMalformed fs i cause
    expected : Expected
    row : IsRow fs j expected
    names : Contains expected.directions w.direction
    case : IsCase (line_number (k + j)) expected w

  not-row : (f : Finding) (fs : List Finding) (cause : Cause) → f ≢ Faulty cause → ¬ IsMalformed (f ∷ fs) 0 cause
  not-row f fs cause ne e = ne (same_Some _ _ e)

  -- the same with one line more in front that is not malformed
  later : (k : ℕ) (f : Finding) (fs : List Finding) (w : WrongCase) → ((cause : Cause) → f ≢ Faulty cause) →
      IsAt (k + 1) fs w → IsAt k (f ∷ fs) w
  later k f fs w sound a =
      let P : ℕ → Type 0 = λ n. IsCase (line_number n) a.expected w in
      let at : k + 1 + a.j ≡ k + suc a.j = omega arith in
      record {
        j = suc a.j;
        well_formed = formed;
        expected = a.expected;
        row = a.row;
        names = a.names;
        case =
            subst P at a.case;
      } where
        formed : (i : ℕ) (cause : Cause) → i ≤ suc a.j → ¬ IsMalformed (f ∷ fs) i cause
        formed zero cause le = not-row f fs cause (sound cause)
        formed (suc i) cause le = a.well_formed i cause (omega arith)

  first : (k : ℕ) (expected : Expected) (fs : List Finding) (w : WrongCase) → Contains expected.directions w.direction →
      IsCase (line_number k) expected w → IsAt k (Row expected ∷ fs) w
  first k expected fs w named c =
      let P : ℕ → Type 0 = λ n. IsCase (line_number n) expected w in
      let at : k ≡ k + 0 = omega arith in
      record { j = 0; well_formed = formed; expected = expected; row = refl; names = named; case = subst P at c } where
        formed : (i : ℕ) (cause : Cause) → i ≤ 0 → ¬ IsMalformed (Row expected ∷ fs) i cause
        formed zero cause le = not-row (Row expected) fs cause (λ e. absurd cc)
        formed (suc i) cause le = absurd (omega arith)

  lines-in : (k : ℕ) (fs : List Finding) (w : WrongCase) → Contains (wrong_cases_from terms k (sound_lines fs)) w →
      IsAt k fs w
  lines-in k [] w h = absurd (none-in w h)
  lines-in k (Silent ∷ fs) w h = later k Silent fs w (λ cause e. absurd cc) (lines-in (k + 1) fs w h)
  lines-in k (Faulty cause ∷ fs) w h = absurd (none-in w h)
  lines-in k (Row expected ∷ fs) w h =
      elim (Contains-append_cases (wrong_cases_in terms (line_number k) (Row expected))
      (wrong_cases_from terms (k + 1) (sound_lines fs)) w h) [
        | inl here ↦ let c = cases-in (line_number k) expected expected.directions w here in
            first k expected fs w c.0 c.1
        | inr there ↦ later k (Row expected) fs w (λ cause e. absurd cc) (lines-in (k + 1) fs w there)
      ]

  in-lines : (k j : ℕ) (fs : List Finding) (w : WrongCase) (expected : Expected) →
      ((i : ℕ) (cause : Cause) → i ≤ j → ¬ IsMalformed fs i cause) → IsRow fs j expected
      → Contains expected.directions w.direction → IsCase (line_number (k + j)) expected w →
      Contains (wrong_cases_from terms k (sound_lines fs)) w
  in-lines k j [] w expected formed row named c = absurd (none-some _ row)
  in-lines k zero (Silent ∷ fs) w expected formed row named c = absurd cc
  in-lines k zero (Faulty cause ∷ fs) w expected formed row named c = absurd (formed 0 cause (omega arith) refl)
  in-lines k zero (Row other ∷ fs) w expected formed row named c =
      let same : expected ≡ other = same-expected expected other (sym (same_Some _ _ row)) in
      let at : k + 0 ≡ k = omega arith in
      let P : Expected → Type 0 = λ x. Contains x.directions w.direction × IsCase (line_number k) x w in
      let Q : ℕ → Type 0 = λ n. IsCase (line_number n) expected w in
      let both = subst P same (named, subst Q at c) in
      Contains-append_left (wrong_cases_in terms (line_number k) (Row other))
      (wrong_cases_from terms (k + 1) (sound_lines fs)) w
      (in-cases (line_number k) other other.directions w both.0 both.1)
  in-lines k (suc j) (Silent ∷ fs) w expected formed row named c =
      let at : k + suc j ≡ k + 1 + j = omega arith in
      let Q : ℕ → Type 0 = λ n. IsCase (line_number n) expected w in
      in-lines (k + 1) j fs w expected (λ i cause le. formed (suc i) cause (omega arith)) row named (subst Q at c)
  in-lines k (suc j) (Faulty cause ∷ fs) w expected formed row named c = absurd (formed 0 cause (omega arith) refl)
  in-lines k (suc j) (Row other ∷ fs) w expected formed row named c =
      let at : k + suc j ≡ k + 1 + j = omega arith in
      let Q : ℕ → Type 0 = λ n. IsCase (line_number n) expected w in
      Contains-append_right (wrong_cases_in terms (line_number k) (Row other))
      (wrong_cases_from terms (k + 1) (sound_lines fs)) w
      (in-lines (k + 1) j fs w expected (λ i cause le. formed (suc i) cause (omega arith)) row named (subst Q at c))

  -- a report contains exactly the wrong cases of its lines
  pub holds : (fs : List Finding) (w : WrongCase) →
      Contains (wrong_cases_from terms 0 (sound_lines fs)) w ↔ IsWrongCase terms fs w
  holds fs w = (
    (λ h.
        let a = lines-in 0 fs w h in
        let at : line_number (0 + a.j) ≡ line_number a.j = ap (λ n. line_number n) (omega arith) in
        record {
          k = a.j;
          numbered = a.case.line ∙ at;
          well_formed = a.well_formed;
          expected = a.expected;
          row = a.row;
          names = a.names;
          wrong = a.case.wrong;
          claimed = a.case.claimed;
          defined = a.case.defined;
        }),
    λ x.
        let at : line_number x.k ≡ line_number (0 + x.k) = ap (λ n. line_number n) (omega arith) in
        in-lines 0 x.k fs w x.expected x.well_formed x.row x.names (record {
          line = x.numbered ∙ at;
          wrong = x.wrong;
          claimed = x.claimed;
          defined = x.defined;
        }),
  )
