-- What a line does to a search.
use Rattle.std.proofs.Common.{◌≡◌, ℕ, zero, suc, ◌+◌, ◌-◌, ◌<◌, None, Some, List, [], ◌∷◌, ◌++◌, length, take, Ok, Err, refl, ap, ap₂, ◌∙◌, arith}
use Rattle.std.specs.Prelude.{slice_index_or}
use Rattle.std.specs.List.{slice_get}
use Rattle.std.proofs.Math.Seq.{get_or-append_seam}
use Rattle.std.proofs.lemmas.List.{take_all}
use Rattle.std.proofs.lemmas.Option.{slice_get_past}
use Rattle.units.specs.Limits.{standard}
use Rattle.units.specs.Lines.{line_number}
use Rattle.bidtests.specs.declared.kind.Kind.{Kind}
use Rattle.bidtests.specs.declared.verdict.Cause.{Cause}
use Rattle.bidtests.specs.Carried.{AreInForce}
use Rattle.bidtests.specs.FileKinds.{findings_by}
use Rattle.bidtests.specs.LineReadings.{LineReading, levels_in, order_in, finding_after}
use Rattle.bidtests.specs.Verdicts.{Finding, Silent, Row, Faulty}
use Rattle.bidtests.proofs.LineByLine.{findings-line, findings-last, length-findings}
use Rattle.bidtests.proofs.LineReads.{carried_by, comes-alike}
use Rattle.report.specs.FileReports.{first_malformed}
use Rattle.report.specs.Reporting.{cause_of}
use Rattle.report.proofs.LineSteps.{malformed-following, one-sound}
use Rattle.explain.specs.declared.row_fault.RowFault.TheVariants.{Malformed, NoRow}
use Rattle.explain.specs.WantedRows.{RowView, row_by, row_at, row_in_lines, unless_malformed}

-- the item after others
following-others : {A : Type 0} (xs : List A) (x : A) (ys : List A) → slice_get (xs ++ x ∷ ys) (length xs) ≡ Some x
following-others [] x ys = refl
following-others (y ∷ xs) x ys = following-others xs x ys

-- a prefix that ends after the item x
through : {A : Type 0} (xs : List A) (x : A) (ys : List A) (n : ℕ) → length xs < n →
    take n (xs ++ x ∷ ys) ≡ xs ++ x ∷ take (n - length xs - 1) ys
through [] x ys zero lt = absurd (omega arith)
through [] x ys (suc n) lt = ap (λ k. x ∷ take k ys) (omega arith)
through (y ∷ xs) x ys zero lt = absurd (omega arith)
through (y ∷ xs) x ys (suc n) lt =
    ap (λ zs. y ∷ zs) (through xs x ys n (omega arith)) ∙ ap (λ k. y ∷ (xs ++ x ∷ take k ys)) (omega arith)

-- a row is not malformed
sound-row : (kind : Kind) (f : Finding) (line : List ℕ) (row : RowView) → row_by kind line (Some f) ≡ Some row →
    cause_of f ≡ None
sound-row kind Silent line row e = absurd cc
sound-row kind (Faulty cause) line row e = absurd cc
sound-row kind (Row expected) line row e = refl

module _ (kind : Kind) (s : LineReading) (lines : List (List ℕ))
    (lists : AreInForce kind (levels_in s) (order_in s) lines)
    (sound : first_malformed 0 (findings_by kind lines) ≡ None) (wanted : ℕ) (before : length lines < wanted) where
  abbrev noted : List ℕ → Finding
  noted line = finding_after kind s line

  -- after one more line, which is not malformed
  pub sound-more : (line : List ℕ) → cause_of (finding_after kind s line) ≡ None →
      first_malformed 0 (findings_by kind (lines ++ line ∷ [])) ≡ None
  sound-more line none =
      let all = findings-last kind (carried_by standard 0 0 s) lines line lists ∙
      ap (λ f. findings_by kind lines ++ f ∷ []) (comes-alike kind standard 0 0 s line) in
      ap (first_malformed 0) all ∙ malformed-following 0 (findings_by kind lines) (noted line ∷ []) sound ∙
      one-sound (0 + length (findings_by kind lines)) (noted line) none

  -- the findings of these lines, this line and others
  come : (line : List ℕ) (others : List (List ℕ)) → (rest : List Finding) ×
      (findings_by kind (lines ++ line ∷ others) ≡ findings_by kind lines ++ noted line ∷ rest)
  come line others =
      let f = findings-line kind (carried_by standard 0 0 s) lines line others lists in
      (f.0, f.1 ∙ ap (λ x. findings_by kind lines ++ x ∷ f.0) (comes-alike kind standard 0 0 s line))

  -- the first malformed line up to the wanted line, if the lines before this one are sound
  first-from : (line : List ℕ) (others : List (List ℕ)) → (rest : List Finding)
      × (first_malformed 0 (take wanted (findings_by kind (lines ++ line ∷ others))) ≡
      first_malformed (length lines) (noted line ∷ take (wanted - length lines - 1) rest))
  first-from line others =
      let f = come line others in
      let count = length-findings kind lines in
      let front = ap (take wanted) f.1 ∙
      through (findings_by kind lines) (noted line) f.0 wanted (omega (arith, count, before)) in
      let more = take (wanted - length (findings_by kind lines) - 1) f.0 in
      let same : more ≡ take (wanted - length lines - 1) f.0 = ap (λ n. take (wanted - n - 1) f.0) count in
      let from : 0 + length (findings_by kind lines) ≡ length lines = omega (arith, count) in (
        f.0,
        ap (first_malformed 0) front ∙ malformed-following 0 (findings_by kind lines) (noted line ∷ more) sound
            ∙ ap (λ n. first_malformed n (noted line ∷ more)) from ∙
            ap (λ (fs : List Finding). first_malformed (length lines) (noted line ∷ fs)) same,
      )

  -- a malformed line, whatever comes after it
  pub malformed-there : (line : List ℕ) (others : List (List ℕ)) (cause : Cause) →
      finding_after kind s line ≡ Faulty cause
      → row_in_lines kind wanted (lines ++ line ∷ others) ≡ Err (Malformed (line_number (length lines)) cause)
  malformed-there line others cause e =
      let f = first-from line others in
      let first = f.1 ∙ ap (λ x. first_malformed (length lines) (x ∷ take (wanted - length lines - 1) f.0)) e in
      ap (λ m. unless_malformed m (row_at kind wanted (lines ++ line ∷ others))) first

  module _ (there : wanted ≡ length lines + 1) where
    -- the result of the wanted line
    at-there : (line : List ℕ) (others : List (List ℕ)) →
        row_at kind wanted (lines ++ line ∷ others) ≡ row_by kind line (Some (noted line))
    at-there line others =
        let f = come line others in
        let k : wanted - 1 ≡ length lines = omega (arith, there) in
        let here : slice_index_or (lines ++ line ∷ others) (wanted - 1) [] ≡ line =
        ap (λ n. slice_index_or (lines ++ line ∷ others) n []) k ∙ get_or-append_seam lines line others [] in
        let count : wanted - 1 ≡ length (findings_by kind lines) = omega (arith, there, length-findings kind lines) in
        let found : slice_get (findings_by kind (lines ++ line ∷ others)) (wanted - 1) ≡ Some (noted line) =
        ap (λ fs. slice_get fs (wanted - 1)) f.1 ∙
        ap (λ n. slice_get (findings_by kind lines ++ noted line ∷ f.0) n) count
        ∙ following-others (findings_by kind lines) (noted line) f.0 in
        ap₂ (λ l f. row_by kind l f) here found

    -- no line up to it is malformed
    sound-there : (line : List ℕ) (others : List (List ℕ)) → cause_of (finding_after kind s line) ≡ None
        → first_malformed 0 (take wanted (findings_by kind (lines ++ line ∷ others))) ≡ None
    sound-there line others none =
        let f = first-from line others in
        let last : wanted - length lines - 1 ≡ 0 = omega (arith, there) in
        f.1 ∙ ap (λ n. first_malformed (length lines) (noted line ∷ take n f.0)) last ∙
        one-sound (length lines) (noted line) none

    -- not a row, whatever comes after it
    pub no-row-there : (line : List ℕ) (others : List (List ℕ)) → finding_after kind s line ≡ Silent
        → row_in_lines kind wanted (lines ++ line ∷ others) ≡ Err NoRow
    no-row-there line others e =
        let none : cause_of (noted line) ≡ None = ap cause_of e in
        let at = at-there line others ∙ ap (λ f. row_by kind line (Some f)) e in
        ap₂ unless_malformed (sound-there line others none) at

    -- a row, whatever comes after it
    pub row-there : (line : List ℕ) (others : List (List ℕ)) (row : RowView) →
        row_by kind line (Some (finding_after kind s line)) ≡ Some row
        → row_in_lines kind wanted (lines ++ line ∷ others) ≡ Ok row
    row-there line others row e =
        let none : cause_of (noted line) ≡ None = sound-row kind (noted line) line row e in
        ap₂ unless_malformed (sound-there line others none) (at-there line others ∙ e)

-- fewer lines than the number of the wanted line
pub beyond : (kind : Kind) (lines : List (List ℕ)) (wanted : ℕ) → first_malformed 0 (findings_by kind lines) ≡ None →
    length lines < wanted
    → row_in_lines kind wanted lines ≡ Err NoRow
beyond kind lines wanted sound lt =
    let count = length-findings kind lines in
    let all : take wanted (findings_by kind lines) ≡ findings_by kind lines =
    take_all wanted (findings_by kind lines) (omega (arith, count, lt)) in
    let none : slice_get (findings_by kind lines) (wanted - 1) ≡ None =
    slice_get_past (findings_by kind lines) (wanted - 1) (omega (arith, count, lt)) in
    ap₂ unless_malformed (ap (first_malformed 0) all ∙
    sound) (ap (row_by kind (slice_index_or lines (wanted - 1) [])) none)
