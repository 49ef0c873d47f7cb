-- The wrong cases that were reported are those of the final lines, which no further bytes change.
use Rattle.std.proofs.Common.{◌≡◌, ◌⊎◌, ℕ, ◌+◌, true, false, Bool, Option, None, Some, List, [], ◌∷◌, ◌++◌, reverse, map, refl, sym, ap, ◌∙◌, append-nil, inl, inr}
use Rattle.units.specs.Limits.{standard}
use Rattle.report.specs.declared.terms.Terms.{Terms}
use Rattle.units.specs.LineCutting.{Cutting}
use Rattle.units.specs.Text.{lines_with, lines_of, decided_lines, has_bytes, is_over_long}
use Rattle.units.proofs.Ranges.{cut_at-some}
use Rattle.ucdfiles.proofs.Decided.{decided-whole}
use Rattle.bidtests.specs.declared.kind.Kind.{Kind}
use Rattle.bidtests.specs.declared.kind.Kind.TheVariants.{Classes, Characters}
use Rattle.bidtests.specs.declared.verdict.Cause.{Cause}
use Rattle.bidtests.specs.Carried.{Carried, comes_to_after}
use Rattle.bidtests.specs.ClassesFile.{classes_line, levels_in_force, order_in_force}
use Rattle.bidtests.specs.FileKinds.{findings_by}
use Rattle.bidtests.specs.Verdicts.{Finding, Silent, Row, Faulty}
use Rattle.bidtests.proofs.LineByLine.{findings-last}
use Rattle.report.specs.declared.wrong_case.WrongCase.{WrongCase}
use Rattle.report.specs.FileReports.{FileReport, first_malformed, report_of, decided_cases}
use Rattle.report.specs.Reporting.{LineReporting, Reporting, Reports, ReportsBy}
use Rattle.report.specs.WrongCases.{sound_lines, wrong_cases_from}
use Rattle.report.proofs.LineSteps.{all-sound}

-- the lines are the final ones, or these and one more
abbrev OneMore : List (List ℕ) → List (List ℕ) → Type 0
OneMore lines decided = (lines ≡ decided) ⊎ ((last : List ℕ) × (lines ≡ decided ++ last ∷ []))

last-line : (b : ℕ) (line : List ℕ) (over : Bool) → is_over_long (b ∷ line) ≡ over
    → OneMore (lines_with has_bytes ((b ∷ line) ∷ [])) (lines_with is_over_long ((b ∷ line) ∷ []))
last-line b line true e = rw e (inl refl)
last-line b line false e = rw e (inr (b ∷ line, refl))

following-line : (line : List ℕ) (lines decided : List (List ℕ)) → OneMore lines decided →
    OneMore (line ∷ lines) (line ∷ decided)
following-line line lines decided (inl e) = inl (ap (λ ls. line ∷ ls) e)
following-line line lines decided (inr last) = inr (last.0, ap (λ ls. line ∷ ls) last.1)

with-last : (x : List ℕ) (more : List (List ℕ)) →
    OneMore (lines_with has_bytes (x ∷ more)) (lines_with is_over_long (x ∷ more))
with-last [] [] = inl refl
with-last (b ∷ line) [] = last-line b line (is_over_long (b ∷ line)) refl
with-last x (y ∷ more) = following-line x _ _ (with-last y more)

lines-decided : (bytes : List ℕ) → OneMore (lines_of bytes) (decided_lines bytes)
lines-decided bytes = let s = cut_at-some 10 bytes in rw s.2 (with-last s.0 s.1)

-- one line more gives one finding more
one-finding : (kind : Kind) (lines : List (List ℕ)) (line : List ℕ) →
    (f : Finding) × (findings_by kind (lines ++ line ∷ []) ≡ findings_by kind lines ++ f ∷ [])
one-finding Classes lines line =
    let s : Carried = record {
      limits = standard;
      levels = levels_in_force (reverse (map classes_line lines));
      order = order_in_force (reverse (map classes_line lines));
      rows = 0;
      cases = 0;
    } in
    (comes_to_after Classes s line, findings-last Classes s lines line (refl, refl))
one-finding (Characters tables) lines line =
    let s : Carried = record { limits = standard; levels = None; order = None; rows = 0; cases = 0 } in
    (comes_to_after (Characters tables) s line, findings-last (Characters tables) s lines line tt)

-- if one of these lines is malformed, the last line is not among the sound ones
last-unsound : (k : ℕ) (fs : List Finding) (f : Finding) (m : ℕ × Cause) → first_malformed k (fs ++ f ∷ []) ≡ Some m →
    sound_lines (fs ++ f ∷ []) ≡ sound_lines fs
last-unsound k [] Silent m e = absurd cc
last-unsound k [] (Faulty cause) m e = refl
last-unsound k [] (Row expected) m e = absurd cc
last-unsound k (Silent ∷ fs) f m e = ap (λ hs. Silent ∷ hs) (last-unsound (k + 1) fs f m e)
last-unsound k (Faulty cause ∷ fs) f m e = refl
last-unsound k (Row expected ∷ fs) f m e = ap (λ hs. Row expected ∷ hs) (last-unsound (k + 1) fs f m e)

sound-decided : (kind : Kind) (lines decided : List (List ℕ)) (m : ℕ × Cause) → OneMore lines decided →
    first_malformed 0 (findings_by kind lines) ≡ Some m
    → sound_lines (findings_by kind lines) ≡ sound_lines (findings_by kind decided)
sound-decided kind lines decided m (inl e) malformed = ap (λ ls. sound_lines (findings_by kind ls)) e
sound-decided kind lines decided m (inr last) malformed =
    let f = one-finding kind decided last.0 in
    let all : findings_by kind lines ≡ findings_by kind decided ++ f.0 ∷ [] = ap (findings_by kind) last.1 ∙ f.1 in
    ap sound_lines all ∙ last-unsound 0 (findings_by kind decided) f.0 m (sym (ap (first_malformed 0) all) ∙ malformed)

reported-decided-by : (terms : Terms) (kind : Kind) (m : Option (ℕ × Cause)) (cutting : Cutting) (s : LineReporting)
    (reported : List WrongCase) (b : List ℕ)
    → ReportsBy terms kind m cutting s reported b → reported ≡ decided_cases terms kind b
reported-decided-by terms kind None cutting s reported b o =
    let lines : decided_lines b ≡ o.lines = decided-whole b o.lines o.rest o.cut in
    o.following.cases ∙ sym (ap (λ ls. wrong_cases_from terms 0 (sound_lines (findings_by kind ls))) lines
    ∙ ap (wrong_cases_from terms 0) (all-sound 0 (findings_by kind o.lines) o.following.sound))
reported-decided-by terms kind (Some m) cutting s reported b r =
    let whole = ap (report_of terms kind) (sym (append-nil b)) ∙ r [] in
    sym (ap (λ (report : FileReport). report.wrong) whole)
    ∙ ap (wrong_cases_from terms 0) (sound-decided kind (lines_of b) (decided_lines b) m (lines-decided b)
    (ap (λ (report : FileReport). report.malformed) whole))

pub reported-decided : (terms : Terms) (kind : Kind) (r : Reporting) (reported : List WrongCase) (b : List ℕ) →
    Reports terms kind r reported b → reported ≡ decided_cases terms kind b
reported-decided terms kind r reported b h =
    reported-decided-by terms kind r.malformed r.cutting r.lines reported b h.is
