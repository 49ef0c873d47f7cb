-- What a line does to a report.
use Rattle.std.proofs.Common.{◌≡◌, ℕ, ◌+◌, ◌<◌, None, Some, List, [], ◌∷◌, ◌++◌, length, refl, sym, ap, ◌∙◌, arith}
use Rattle.std.proofs.lemmas.Bool.{lt-ltb}
use Rattle.units.specs.Limits.{standard}
use Rattle.report.specs.declared.terms.Terms.{Terms}
use Rattle.units.specs.Lines.{line_number}
use Rattle.units.specs.Text.{longest_line}
use Rattle.bidtests.specs.declared.kind.Kind.{Kind}
use Rattle.bidtests.specs.declared.kind.Kind.TheVariants.{Classes, Characters}
use Rattle.bidtests.specs.declared.verdict.Cause.{Cause}
use Rattle.bidtests.specs.declared.verdict.Cause.TheVariants.{LineTooLong}
use Rattle.bidtests.specs.Carried.{AreInForce}
use Rattle.bidtests.specs.ClassesFile.{classes_line}
use Rattle.bidtests.specs.CharactersFile.{characters_line}
use Rattle.bidtests.specs.FileKinds.{findings_by}
use Rattle.bidtests.specs.LineReadings.{LineReading, levels_in, order_in, finding_after, IsAfterOneLine}
use Rattle.bidtests.specs.Verdicts.{Finding, Silent, Row, Faulty}
use Rattle.bidtests.proofs.LineByLine.{findings-line, findings-last, in-force, length-findings}
use Rattle.bidtests.proofs.LineReads.{carried_by, comes-alike}
use Rattle.report.specs.declared.wrong_case.WrongCase.{WrongCase}
use Rattle.report.specs.FileReports.{first_malformed, report_on}
use Rattle.report.specs.Reporting.{LineReporting, IsAtStart, IsAfterLine, IsReportAfter, cause_of, counts_after}
use Rattle.report.specs.ReportCounts.{counts_of}
use Rattle.report.specs.WrongCases.{wrong_cases_in, wrong_cases_from, sound_lines}
use Rattle.report.proofs.Counting.{from-push, case_counts-row, case_counts-silent}

-- a line with a cause is malformed with this cause
pub is-faulty : (f : Finding) (cause : Cause) → cause_of f ≡ Some cause → f ≡ Faulty cause
is-faulty Silent cause e = absurd cc
is-faulty (Faulty other) cause e = cc
is-faulty (Row expected) cause e = absurd cc

-- after lines without a malformed one
pub malformed-following : (k : ℕ) (fs gs : List Finding) → first_malformed k fs ≡ None →
    first_malformed k (fs ++ gs) ≡ first_malformed (k + length fs) gs
malformed-following k [] gs e = ap (λ n. first_malformed n gs) (omega arith)
malformed-following k (Silent ∷ fs) gs e = malformed-following (k + 1) fs gs e ∙
    ap (λ n. first_malformed n gs) (omega arith)
malformed-following k (Faulty cause ∷ fs) gs e = absurd cc
malformed-following k (Row expected ∷ fs) gs e = malformed-following (k + 1) fs gs e ∙
    ap (λ n. first_malformed n gs) (omega arith)

pub one-sound : (k : ℕ) (f : Finding) → cause_of f ≡ None → first_malformed k (f ∷ []) ≡ None
one-sound k Silent e = refl
one-sound k (Faulty cause) e = absurd cc
one-sound k (Row expected) e = refl

-- the sound lines end at the first malformed one
sound-before : (k : ℕ) (fs gs : List Finding) (cause : Cause) → first_malformed k fs ≡ None →
    sound_lines (fs ++ Faulty cause ∷ gs) ≡ fs
sound-before k [] gs cause e = refl
sound-before k (Silent ∷ fs) gs cause e = ap (λ hs. Silent ∷ hs) (sound-before (k + 1) fs gs cause e)
sound-before k (Faulty other ∷ fs) gs cause e = absurd cc
sound-before k (Row expected ∷ fs) gs cause e = ap (λ hs. Row expected ∷ hs) (sound-before (k + 1) fs gs cause e)

pub all-sound : (k : ℕ) (fs : List Finding) → first_malformed k fs ≡ None → sound_lines fs ≡ fs
all-sound k [] e = refl
all-sound k (Silent ∷ fs) e = ap (λ hs. Silent ∷ hs) (all-sound (k + 1) fs e)
all-sound k (Faulty cause ∷ fs) e = absurd cc
all-sound k (Row expected ∷ fs) e = ap (λ hs. Row expected ∷ hs) (all-sound (k + 1) fs e)

-- the lists in force after one line more
pub lists-after : (kind : Kind) (before after : LineReading) (lines : List (List ℕ)) (line : List ℕ) →
    AreInForce kind (levels_in before) (order_in before) lines
    → IsAfterOneLine kind line before after → AreInForce kind (levels_in after) (order_in after) (lines ++ line ∷ [])
lists-after Classes before after lines line h b =
    rw (b.levels, b.order) (in-force Classes (carried_by standard 0 0 before) lines line h)
lists-after (Characters tables) before after lines line h b = tt

case_counts-push : (terms : Terms) (fs : List Finding) (f : Finding) → cause_of f ≡ None
    → counts_after f (wrong_cases_in terms (line_number (length fs)) f) (counts_of terms fs) ≡ counts_of terms (fs ++
    f ∷ [])
case_counts-push terms fs Silent e = sym (case_counts-silent terms fs)
case_counts-push terms fs (Faulty cause) e = absurd cc
case_counts-push terms fs (Row expected) e = sym (case_counts-row terms fs expected)

pub over-long : (kind : Kind) (reading : LineReading) (line : List ℕ) → longest_line < length line →
    cause_of (finding_after kind reading line) ≡ Some LineTooLong
unfolding classes_line characters_line
over-long Classes reading line long = rw (lt-ltb longest_line (length line) long) refl
over-long (Characters tables) reading line long = rw (lt-ltb longest_line (length line) long) refl

-- before the first line
pub report-start : (terms : Terms) (kind : Kind) (s : LineReporting) → IsAtStart terms s →
    IsReportAfter terms kind s [] []
report-start terms Classes s h = record {
  under = h.under;
  sound = refl;
  lists = (h.lists.levels, h.lists.order);
  case_counts = h.case_counts;
  cases = refl;
}
report-start terms (Characters tables) s h = record {
  under = h.under;
  sound = refl;
  lists = tt;
  case_counts =
      h.case_counts;
  cases = refl;
}

module _ (terms : Terms) (kind : Kind) (s : LineReporting) (reported : List WrongCase) (lines : List (List ℕ))
    (h : IsReportAfter terms kind s reported lines) where
  abbrev noted : List ℕ → Finding
  noted line = finding_after kind s.reading line

  abbrev before : List Finding
  before = findings_by kind lines

  findings-push : (line : List ℕ) → findings_by kind (lines ++ line ∷ []) ≡ before ++ noted line ∷ []
  findings-push line =
      findings-last kind (carried_by terms.limits 0 0 s.reading) lines line h.lists
      ∙ ap (λ f. before ++ f ∷ []) (comes-alike kind terms.limits 0 0 s.reading line)

  found-is : (line : List ℕ) (after : LineReporting) → IsAfterLine kind (line_number (length lines)) line s after
      → after.found ≡ wrong_cases_in terms (line_number (length before)) (noted line)
  found-is line after a =
      a.found ∙ ap (λ l. wrong_cases_in l (line_number (length lines)) (noted line)) h.under
      ∙ ap (λ n. wrong_cases_in terms (line_number n) (noted line)) (sym (length-findings kind lines))

  -- after a line that is not malformed
  pub report-following : (line : List ℕ) (after : LineReporting) →
      IsAfterLine kind (line_number (length lines)) line s after
      → cause_of (finding_after kind s.reading line) ≡ None →
      IsReportAfter terms kind after (reported ++ after.found) (lines ++ line ∷ [])
  report-following line after a none =
      let found = found-is line after a in
      let case_counts : after.case_counts ≡ counts_of terms (before ++ noted line ∷ []) =
      a.case_counts ∙ ap (λ ws. counts_after (noted line) ws s.case_counts) found
      ∙ ap (λ t. counts_after (noted line) (wrong_cases_in terms (line_number (length before)) (noted line)) t)
      h.case_counts
      ∙ case_counts-push terms before (noted line) none in
      let all : reported ++ after.found ≡ wrong_cases_from terms 0 (before ++ noted line ∷ []) =
      ap (λ ws. reported ++ ws) found ∙
      ap (λ ws. ws ++ wrong_cases_in terms (line_number (length before)) (noted line)) h.cases
      ∙ sym (from-push terms before (noted line)) in
      record {
        under = a.terms ∙ h.under;
        sound = ap (first_malformed 0) (findings-push line) ∙ malformed-following 0 before (noted line ∷ []) h.sound ∙
            one-sound (0 + length before) (noted line) none;
        lists = lists-after kind s.reading after.reading lines line h.lists a.lists;
        case_counts = case_counts ∙ ap (counts_of terms) (sym (findings-push line));
        cases = all ∙ ap (wrong_cases_from terms 0) (sym (findings-push line));
      }

  -- a malformed line ends the report, whatever follows it
  pub report-ends : (line : List ℕ) (cause : Cause) → cause_of (finding_after kind s.reading line) ≡ Some cause →
      (others : List (List ℕ))
      → report_on terms (findings_by kind (lines ++ line ∷ others)) ≡ record {
        wrong = reported;
        case_counts =
            s.case_counts;
        malformed = Some (line_number (length lines), cause);
      }
  report-ends line cause e others =
      let f = findings-line kind (carried_by terms.limits 0 0 s.reading) lines line others h.lists in
      let faulty : findings_by kind (lines ++ line ∷ others) ≡ before ++ Faulty cause ∷ f.0 =
      f.1 ∙ ap (λ x. before ++ x ∷ f.0) (comes-alike kind terms.limits 0 0 s.reading line ∙
      is-faulty (noted line) cause e) in
      let at : line_number (0 + length before) ≡ line_number (length lines) =
      ap (λ n. line_number n) (omega (arith, length-findings kind lines)) in
      let first : first_malformed 0 (before ++ Faulty cause ∷ f.0) ≡ Some (line_number (length lines), cause) =
      malformed-following 0 before (Faulty cause ∷ f.0) h.sound ∙ ap (λ n. Some (n, cause)) at in
      rw (faulty, sound-before 0 before f.0 cause h.sound, first, h.cases, h.case_counts) refl

  -- at the end of a file without a malformed line
  pub report-whole : report_on terms (findings_by kind lines) ≡ record {
    wrong = reported;
    case_counts = s.case_counts;
    malformed = None;
  }
  report-whole = rw (all-sound 0 before h.sound, h.sound, h.cases, h.case_counts) refl
