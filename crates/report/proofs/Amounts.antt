-- The verdict that a report amounts to.
use Rattle.std.proofs.Common.{◌≡◌, ℕ, ◌+◌, Option, None, Some, List, [], ◌∷◌, ◌++◌, refl, sym, ap, ◌∙◌}
use Rattle.std.specs.Option.{option_or, option_map, option_to_list}
use Rattle.units.specs.Limits.{LimitsOf}
use Rattle.units.specs.Lines.{line_number}
use Rattle.units.specs.declared.level.Direction.{Direction}
use Rattle.units.specs.Layout.{TextLayout}
use Rattle.units.proofs.Options.{option_or-assoc}
use Rattle.bidtests.specs.declared.verdict.Cause.{Cause}
use Rattle.bidtests.specs.declared.verdict.Place.{Place}
use Rattle.bidtests.specs.declared.verdict.Verdict.{Verdict}
use Rattle.bidtests.specs.declared.verdict.Verdict.TheVariants.{Malformed, Wrong}
use Rattle.bidtests.specs.Headline.{layout_under}
use Rattle.bidtests.specs.Verdicts.{Expected, Finding, Silent, Row, Faulty, wrong_place_under, wrong_case, with_place, wrong_at, first_no, or_yes, rows_in, cases_in, verdict_on}
use Rattle.report.specs.declared.wrong_case.WrongCase.{WrongCase}
use Rattle.report.specs.ReadExpected.{read_under, strict_terms}
use Rattle.report.specs.WrongCases.{wrong_case_at, wrong_cases_under, wrong_cases_from, sound_lines}
use Rattle.report.proofs.LineSteps.{all-sound}
use Rattle.report.specs.FileReports.{first_malformed, report_on, verdict_from, verdict_by}

-- the verdict that the first of these wrong cases gives, if there is one
abbrev no_of_first : List WrongCase → Option Verdict
no_of_first [] = None
no_of_first (w ∷ ws) = Some (Wrong w.line w.direction w.place)

-- the verdict that a malformed line gives, if there is one
abbrev no_of_malformed : Option (ℕ × Cause) → Option Verdict
no_of_malformed None = None
no_of_malformed (Some m) = Some (Malformed m.0 m.1)

no_of_first-append : (a b : List WrongCase) → no_of_first (a ++ b) ≡ option_or (no_of_first a) (no_of_first b)
no_of_first-append [] b = refl
no_of_first-append (w ∷ a) b = refl

one-more : (n : ℕ) (expected : Expected) (d : Direction) (layout : TextLayout) (ws : List WrongCase) (o : Option Place)
    (rest : Option (Direction × Place))
    → wrong_at n rest ≡ no_of_first ws →
    wrong_at n (option_or (with_place d o) rest) ≡
    no_of_first (option_to_list (option_map (wrong_case_at n expected d layout) o) ++ ws)
one-more n expected d layout ws None rest e = e
one-more n expected d layout ws (Some place) rest e = refl

module _ (limits : LimitsOf) where
  -- the first wrong case of a row
  first-under : (n : ℕ) (expected : Expected) (ds : List Direction) →
      wrong_at n (wrong_case limits expected ds) ≡ no_of_first (wrong_cases_under (strict_terms limits) n expected ds)
  first-under n expected [] = refl
  first-under n expected (d ∷ ds) =
      one-more n (read_under (strict_terms limits) expected d) d (layout_under limits expected d)
      (wrong_cases_under (strict_terms limits) n expected ds) (wrong_place_under limits expected d)
      (wrong_case limits expected ds) (first-under n expected ds)

  -- the verdict of the first of these lines that is wrong or malformed
  first-from : (k : ℕ) (fs : List Finding) →
      first_no limits k fs ≡ option_or (no_of_first (wrong_cases_from (strict_terms limits) k (sound_lines fs)))
      (no_of_malformed (first_malformed k fs))
  first-from k [] = refl
  first-from k (Silent ∷ fs) = first-from (k + 1) fs
  first-from k (Faulty cause ∷ fs) = refl
  first-from k (Row expected ∷ fs) =
      let here = wrong_cases_under (strict_terms limits) (line_number k) expected expected.directions in
      let following = wrong_cases_from (strict_terms limits) (k + 1) (sound_lines fs) in
      let malformed = no_of_malformed (first_malformed (k + 1) fs) in
      ap (λ o. option_or o (first_no limits (k + 1) fs)) (first-under (line_number k) expected expected.directions)
      ∙ ap (λ o. option_or (no_of_first here) o) (first-from (k + 1) fs)
      ∙ option_or-assoc (no_of_first here) (no_of_first following) malformed
      ∙ ap (λ o. option_or o malformed) (sym (no_of_first-append here following))

  by-first : (fs : List Finding) (ws : List WrongCase) (m : Option (ℕ × Cause)) → (m ≡ None → sound_lines fs ≡ fs)
      → or_yes fs (option_or (no_of_first ws) (no_of_malformed m)) ≡ verdict_from ws m (rows_in (sound_lines fs))
      (cases_in (sound_lines fs))
  by-first fs (w ∷ ws) m sound = refl
  by-first fs [] (Some m) sound = refl
  by-first fs [] None sound = rw (sound refl) refl

  pub amounts : (fs : List Finding) → verdict_on limits fs ≡ verdict_by (report_on (strict_terms limits) fs)
  unfolding verdict_on
  amounts fs =
      ap (or_yes fs) (first-from 0 fs)
      ∙ by-first fs (wrong_cases_from (strict_terms limits) 0 (sound_lines fs)) (first_malformed 0 fs) (all-sound 0 fs)
