-- What bytes do to a report.
use Rattle.std.proofs.Common.{◌≡◌, ℕ, ◌≤◌, Option, None, Some, List, [], ◌∷◌, ◌++◌, length, take, refl, sym, ap, subst, ◌∙◌, arith, append_assoc, append-nil, is_some, true}
use Rattle.std.specs.Borrow.{Bor}
use Rattle.std.specs.Prelude.{Result, Ok, Err, OnErr}
use Rattle.std.specs.Result.{result_err}
use Rattle.std.proofs.lemmas.Bool.{false≢true}
use Rattle.units.specs.LineCutting.{Cutting, Represents}
use Rattle.units.specs.LineReturns.{ReturnsPiece, Finishes}
use Rattle.report.specs.declared.terms.Terms.{Terms}
use Rattle.units.specs.Lines.{EndsByFeed, CutsInto, IsTooLongAfter, line_number}
use Rattle.units.specs.Text.{has_bytes, lines_of}
use Rattle.units.specs.declared.line_cut.Cut.{Cut}
use Rattle.units.specs.declared.line_cut.Cut.TheVariants.{More, Line, TooLong}
use Rattle.units.proofs.FirstItem.{some_bytes}
use Rattle.ucdfiles.proofs.LinesWith.{lines_with-more, lines_with-long}
use Rattle.bidtests.specs.declared.kind.Kind.{Kind}
use Rattle.bidtests.specs.declared.verdict.Cause.{Cause}
use Rattle.bidtests.specs.declared.verdict.Cause.TheVariants.{LineTooLong}
use Rattle.bidtests.specs.FileKinds.{findings_by, tables_of}
use Rattle.bidtests.specs.LineReadings.{finding_after}
use Rattle.bidtests.proofs.SplitterSteps.{cut-line, cut-long, cut-more, last-lines, lines-ended}
use Rattle.report.specs.declared.wrong_case.WrongCase.{WrongCase}
use Rattle.report.specs.FileReports.{FileReport, report_on, report_of}
use Rattle.report.specs.Reporting.{LineReporting, Reporting, Reports, IsAfterLine, HasNothingNew, IsReportAfter, GoesOn, ReportsBy, forgotten, IsAfterCut, IsAfterLast, cause_of, malformed_at, malformed_by, malformed_last}
use Rattle.report.proofs.LineSteps.{over-long, report-following, report-ends, report-whole}
use Rattle.report.proofs.SameReports.{report-as, reports-as}

module _ (terms : Terms) (kind : Kind) (s : LineReporting) (reported : List WrongCase) (lines : List (List ℕ))
    (h : IsReportAfter terms kind s reported lines) where
  -- the report that ends here with this cause
  abbrev ended-here : Cause → FileReport
  ended-here cause = record {
    wrong = reported;
    case_counts = s.case_counts;
    malformed =
        Some (line_number (length lines), cause);
  }

  ends-by : (b line : List ℕ) (cause : Cause) → CutsInto b (lines ++ line ∷ []) [] →
      cause_of (finding_after kind s.reading line) ≡ Some cause
      → (more : List ℕ) → report_of terms kind (b ++ more) ≡ ended-here cause
  ends-by b line cause cut e more =
      ap (λ ls. report_on terms (findings_by kind ls)) (lines_with-more has_bytes b (lines ++ line ∷ []) more cut ∙
      append_assoc lines (line ∷ []) (lines_of more))
      ∙ report-ends terms kind s reported lines h line cause e (lines_of more)

  ends-long : (b : List ℕ) → IsTooLongAfter b lines → (more : List ℕ) →
      report_of terms kind (b ++ more) ≡ ended-here LineTooLong
  ends-long b over more =
      let l = lines_with-long has_bytes (λ line above. some_bytes line (omega (arith, above))) b lines more over in
      ap (λ ls. report_on terms (findings_by kind ls)) l.3
      ∙ report-ends terms kind s reported lines h l.0 LineTooLong (over-long kind s.reading l.0 l.2) l.1

  -- a complete line: the report goes on, or ends with the cause if the line is malformed
  line-step : (o : Option Cause) (new : Cutting) (t : LineReporting) (b line : List ℕ) → Represents new b →
      CutsInto b (lines ++ line ∷ []) []
      → cause_of (finding_after kind s.reading line) ≡ o →
      (o ≡ None → IsAfterLine kind (line_number (length lines)) line s t)
      → ((cause : Cause) → o ≡ Some cause → HasNothingNew s t) →
      ReportsBy terms kind (malformed_at (line_number (length lines)) o) new t (reported ++ t.found) b
  line-step None new t b line represents cut e after ended = record {
    splitter = represents;
    lines = lines ++ line ∷ [];
    rest = [];
    cut = cut;
    following = report-following terms kind s reported lines h line t (after refl) e;
  }
  line-step (Some cause) new t b line represents cut e after ended = λ more.
      let nothing = ended cause refl in
      rw (nothing.found, nothing.case_counts, append-nil reported) (ends-by b line cause cut e more)

  -- at the end of the file, if no line has begun
  whole-at : (b : List ℕ) → lines_of b ≡ lines → report_of terms kind b ≡ record {
    wrong = reported;
    case_counts =
        s.case_counts;
    malformed = None;
  }
  whole-at b is = ap (λ ls. report_on terms (findings_by kind ls)) is ∙ report-whole terms kind s reported lines h

  -- at the end of the file, if this line has begun
  last-at : (o : Option Cause) (t : LineReporting) (b line : List ℕ) → lines_of b ≡ lines ++ line ∷ []
      → cause_of (finding_after kind s.reading line) ≡ o →
      (o ≡ None → IsAfterLine kind (line_number (length lines)) line s t)
      → ((cause : Cause) → o ≡ Some cause → HasNothingNew s t)
      → report_of terms kind b ≡ record {
        wrong = reported ++ t.found;
        case_counts = t.case_counts;
        malformed =
            malformed_at (line_number (length lines)) o;
      }
  last-at None t b line is e after ended =
      ap (λ ls. report_on terms (findings_by kind ls)) is
      ∙ report-whole terms kind t (reported ++ t.found) (lines ++
      line ∷ []) (report-following terms kind s reported lines h line t (after refl) e)
  last-at (Some cause) t b line is e after ended =
      let nothing = ended cause refl in
      rw (nothing.found, nothing.case_counts, append-nil reported)
      (ap (λ ls. report_on terms (findings_by kind ls)) is ∙ report-ends terms kind s reported lines h line cause e [])

malformed-some : (number : ℕ) (o : Option Cause) (cause : Cause) → o ≡ Some cause →
    malformed_at number o ≡ Some (number, cause)
malformed-some number o cause e = ap (malformed_at number) e

-- if no wrong cases are stored, no more are reported
none-more : (reported : List WrongCase) (s t : LineReporting) → t ≡ s → s.found ≡ [] → reported ++ t.found ≡ reported
none-more reported s t same none = ap (λ (u : LineReporting). reported ++ u.found) same ∙
    ap (λ ws. reported ++ ws) none ∙ append-nil reported

module _ (terms : Terms) (kind : Kind) (old new : Cutting) (s t : LineReporting) (reported : List WrongCase)
    (b piece : List ℕ) (used : ℕ)
    (o : GoesOn terms kind old s reported b) (none : s.found ≡ []) (within : used ≤ length piece)
    (through : EndsByFeed used piece) (represents : Represents new (b ++ take used piece)) where
  pub reports-on : (taken : Cut) → ReturnsPiece b piece used taken →
      (malformed_by kind s taken ≡ None → IsAfterCut kind taken s t)
      → ((m : ℕ × Cause) → malformed_by kind s taken ≡ Some m → HasNothingNew s t)
      → ReportsBy terms kind (malformed_by kind s taken) new t (reported ++ t.found) (b ++ take used piece)
  reports-on More a after ended =
      let l = cut-more b o.lines o.rest o.cut piece used a in
      let P : LineReporting → Type 0 = λ u. IsReportAfter terms kind u (reported ++ t.found) o.lines in
      let Q : List WrongCase → Type 0 = λ ws. IsReportAfter terms kind s ws o.lines in
      record {
        splitter = represents;
        lines = o.lines;
        rest = l.0;
        cut = l.1;
        following =
            subst P (sym (after refl)) (subst Q (sym (none-more reported s t (after refl) none)) o.following);
      }
  reports-on (Line number text) a after ended =
      let l = cut-line b o.lines o.rest o.cut piece used number text a in
      let cause = cause_of (finding_after kind s.reading text.now) in
      let At : ℕ → Type 0 = λ n. IsAfterLine kind n text.now s t in
      let By : ℕ → Type 0 =
      λ n. ReportsBy terms kind (malformed_at n cause) new t (reported ++ t.found) (b ++ take used piece) in
      subst By (sym l.1)
      (line-step terms kind s reported o.lines o.following cause new t (b ++
      take used piece) text.now represents l.0 refl
      (λ e. subst At l.1 (after (ap (malformed_at number) e))) (λ c e.
      ended (number, c) (malformed-some number cause c e)))
  reports-on (TooLong number) a after ended = λ more.
      let l = cut-long b o.lines o.rest o.cut piece used number within through a in
      let nothing = ended (number, LineTooLong) refl in
      rw (
        nothing.found,
        nothing.case_counts,
        append-nil reported,
        l.1,
      ) (ends-long terms kind s reported o.lines o.following (b ++ take used piece) l.0 more)

-- after a malformed line nothing changes
pub ended-on : (terms : Terms) (kind : Kind) (m : ℕ × Cause) (old new : Cutting) (s t : LineReporting)
    (reported : List WrongCase) (b xs : List ℕ)
    → HasNothingNew s t → ReportsBy terms kind (Some m) old s reported b →
    ReportsBy terms kind (Some m) new t (reported ++ t.found) (b ++ xs)
ended-on terms kind m old new s t reported b xs nothing r more =
    rw (nothing.found, nothing.case_counts, append-nil reported) (ap (report_of terms kind) (append_assoc b xs more) ∙
    r (xs ++ more))

-- at the end of the file the report is the one that ended
pub ended-whole : (terms : Terms) (kind : Kind) (m : ℕ × Cause) (cutting : Cutting) (s t : LineReporting)
    (reported : List WrongCase) (b : List ℕ)
    → HasNothingNew s t → ReportsBy terms kind (Some m) cutting s reported b →
    report_of terms kind b ≡ record { wrong = reported ++ t.found; case_counts = t.case_counts; malformed = Some m }
ended-whole terms kind m cutting s t reported b nothing r =
    rw (nothing.found, nothing.case_counts, append-nil reported) (ap (report_of terms kind) (sym (append-nil b)) ∙ r [])

module _ (terms : Terms) (kind : Kind) (cutting : Cutting) (s t : LineReporting) (reported : List WrongCase)
    (b : List ℕ)
    (o : GoesOn terms kind cutting s reported b) (none : s.found ≡ []) where
  -- the end of the file
  pub reports-whole : (last : Option (ℕ × Bor (List ℕ))) → Finishes b last →
      (malformed_last kind s last ≡ None → IsAfterLast kind last s t)
      → ((m : ℕ × Cause) → malformed_last kind s last ≡ Some m → HasNothingNew s t)
      → report_of terms kind b ≡ record {
        wrong = reported ++ t.found;
        case_counts = t.case_counts;
        malformed =
            malformed_last kind s last;
      }
  reports-whole None f after ended =
      rw (none-more reported s t (after refl) none, ap (λ (u : LineReporting). u.case_counts) (after refl))
      (whole-at terms kind s reported o.lines o.following b (lines-ended b o.lines o.rest o.cut f))
  reports-whole (Some last) f after ended =
      let l = last-lines b o.lines o.rest o.cut last.0 last.1 f in
      let cause = cause_of (finding_after kind s.reading last.1.now) in
      let At : ℕ → Type 0 = λ n. IsAfterLine kind n last.1.now s t in
      let By : ℕ → Type 0 = λ n. report_of terms kind b ≡ record {
        wrong = reported ++ t.found;
        case_counts =
            t.case_counts;
        malformed = malformed_at n cause;
      } in
      subst By (sym l.1)
      (last-at terms kind s reported o.lines o.following cause t b last.1.now l.0 refl
      (λ e. subst At l.1 (after (ap (malformed_at last.0) e))) (λ c e.
      ended (last.0, c) (malformed-some last.0 cause c e)))

-- what holds of a result if it is an error holds, because it is one
pub if-error : {T E : Type 0} (P : Type 0) (r : Result T E) (e : E) → result_err r ≡ Some e → OnErr r P → P
if-error P (Ok x) e some holds = absurd cc
if-error P (Err x) e some holds = holds

-- forgetting the wrong cases of the last line changes nothing that was reported
forgets : (terms : Terms) (kind : Kind) (cutting : Cutting) (s t : LineReporting) (reported : List WrongCase)
    (b : List ℕ) → t ≡ forgotten s
    → GoesOn terms kind cutting s reported b → GoesOn terms kind cutting t reported b
forgets terms kind cutting s t reported b same o =
    let h = o.following in
    let P : LineReporting → Type 0 = λ u. GoesOn terms kind cutting u reported b in
    subst P (sym same) (record {
      splitter = o.splitter;
      lines = o.lines;
      rest = o.rest;
      cut = o.cut;
      following = record {
        under = h.under;
        sound = h.sound;
        lists = h.lists;
        case_counts = h.case_counts;
        cases =
            h.cases;
      };
    })

none-found : (s t : LineReporting) → t ≡ forgotten s → t.found ≡ []
none-found s t same = ap (λ (u : LineReporting). u.found) same

same-case_counts : (s t : LineReporting) → t ≡ forgotten s → t.case_counts ≡ s.case_counts
same-case_counts s t same = ap (λ (u : LineReporting). u.case_counts) same

module _ (j : Reporting) (s t : LineReporting) (fresh : s ≡ forgotten j.lines) where
  -- a report whose own kind has the same tables
  module _ (own : Kind) (owned : tables_of own ≡ j.tables) (undecided : j.malformed ≡ None) where
    going-on : (terms : Terms) (kind : Kind) (reported : List WrongCase) (b : List ℕ) →
        Reports terms kind j reported b → GoesOn terms own j.cutting s reported b
    going-on terms kind reported b r =
        let P : Option (ℕ × Cause) → Type 0 = λ m. ReportsBy terms own m j.cutting j.lines reported b in
        forgets terms own j.cutting j.lines s reported b fresh
        (subst P undecided (reports-as terms kind own (owned ∙ r.of) j.malformed j.cutting j.lines reported b r.is))

    -- a report after the bytes that its line splitter used
    pub takes : (new : Cutting) (malformed : Option (ℕ × Cause)) (piece : List ℕ) (used : ℕ) (taken : Cut) →
        used ≤ length piece
        → ((b : List ℕ) (lines : List (List ℕ)) (rest : List ℕ) → Represents j.cutting b → CutsInto b lines rest →
        EndsByFeed used piece)
        → ((b : List ℕ) → Represents j.cutting b → ReturnsPiece b piece used taken)
        → ((b : List ℕ) → Represents j.cutting b → Represents new (b ++ take used piece))
        → malformed ≡ malformed_by own s taken → (malformed ≡ None → IsAfterCut own taken s t)
        → ((m : ℕ × Cause) → malformed ≡ Some m → HasNothingNew s t)
        → (terms : Terms) (kind : Kind) (reported : List WrongCase) (b : List ℕ) → Reports terms kind j reported b
        → Reports terms kind (record { tables = j.tables; cutting = new; lines = t; malformed = malformed }) (reported
        ++ t.found) (b ++ take used piece)
    takes new malformed piece used taken within through outcomes represents is after ended terms kind reported b r =
        let o = going-on terms kind reported b r in
        let Q : Option (ℕ × Cause) → Type 0 =
        λ m. ReportsBy terms own m new t (reported ++ t.found) (b ++ take used piece) in
        let by : ReportsBy terms own malformed new t (reported ++ t.found) (b ++ take used piece) =
        subst Q (sym is) (reports-on terms own j.cutting new s t reported b piece used o
        (none-found j.lines s fresh) within (through b o.lines o.rest o.splitter o.cut)
        (represents b o.splitter) taken (outcomes b o.splitter)
        (λ e. after (is ∙ e)) (λ m e. ended m (is ∙ e))) in
        record {
          of = r.of;
          is = reports-as terms own kind (sym (owned ∙ r.of)) malformed new t (reported ++ t.found) (b ++
              take used piece) by;
        }

    -- a report at the end of its file
    pub ends : (malformed : Option (ℕ × Cause)) (last : Option (ℕ × Bor (List ℕ))) →
        ((b : List ℕ) → Represents j.cutting b → Finishes b last)
        → malformed ≡ malformed_last own s last → (malformed ≡ None → IsAfterLast own last s t)
        → ((m : ℕ × Cause) → malformed ≡ Some m → HasNothingNew s t)
        → (terms : Terms) (kind : Kind) (reported : List WrongCase) (b : List ℕ) → Reports terms kind j reported b
        → report_of terms kind b ≡ record {
          wrong = reported ++ t.found;
          case_counts = t.case_counts;
          malformed =
              malformed;
        }
    ends malformed last finishes is after ended terms kind reported b r =
        let o = going-on terms kind reported b r in
        let whole = reports-whole terms own j.cutting s t reported b o (none-found j.lines s fresh) last
        (finishes b o.splitter) (λ e. after (is ∙ e)) (λ m e. ended m (is ∙ e)) in
        report-as terms own kind (sym (owned ∙ r.of)) b ∙ rw (is) whole

  nothing-new : HasNothingNew j.lines s
  nothing-new = record { found = none-found j.lines s fresh; case_counts = same-case_counts j.lines s fresh }

  -- a report that has ended, after further bytes
  pub takes-ended : (piece : List ℕ) → is_some j.malformed ≡ true
      → (terms : Terms) (kind : Kind) (reported : List WrongCase) (b : List ℕ) → Reports terms kind j reported b
      → Reports terms kind (record {
        tables = j.tables;
        cutting = j.cutting;
        lines = s;
        malformed =
            j.malformed;
      }) (reported ++ s.found) (b ++ piece)
  takes-ended piece some terms kind reported b r = record { of = r.of; is = by j.malformed some r.is } where
    by : (m : Option (ℕ × Cause)) → is_some m ≡ true → ReportsBy terms kind m j.cutting j.lines reported b →
        ReportsBy terms kind m j.cutting s (reported ++ s.found) (b ++ piece)
    by None e r = absurd (false≢true e)
    by (Some m) e r = ended-on terms kind m j.cutting j.cutting j.lines s reported b piece nothing-new r

  -- a report that has ended, at the end of its file
  pub ends-ended : is_some j.malformed ≡ true → (terms : Terms) (kind : Kind) (reported : List WrongCase) (b : List ℕ) →
      Reports terms kind j reported b
      → report_of terms kind b ≡ record {
        wrong = reported ++ s.found;
        case_counts = s.case_counts;
        malformed =
            j.malformed;
      }
  ends-ended some terms kind reported b r = by j.malformed some r.is where
    by : (m : Option (ℕ × Cause)) → is_some m ≡ true → ReportsBy terms kind m j.cutting j.lines reported b
        → report_of terms kind b ≡ record { wrong = reported ++ s.found; case_counts = s.case_counts; malformed = m }
    by None e r = absurd (false≢true e)
    by (Some m) e r = ended-whole terms kind m j.cutting j.lines s reported b nothing-new r
