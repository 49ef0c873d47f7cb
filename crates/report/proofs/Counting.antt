-- The counts grow line by line.
use Rattle.std.proofs.Common.{◌≡◌, ℕ, ◌+◌, ◌||◌, min, Bool, false, Option, None, Some, List, [], ◌∷◌, ◌++◌, length, refl, sym, ap, ◌∙◌, arith, append_assoc, append-nil, count_by, sum_by, cond, length-append, is_some}
use Rattle.std.proofs.lemmas.List.Sums.{sum_by-append}
use Rattle.std.specs.List.{list_any}
use Rattle.std.specs.Option.{option_map, option_to_list}
use Rattle.report.specs.declared.terms.Terms.{Terms}
use Rattle.units.specs.Lines.{line_number, saturated}
use Rattle.units.specs.Layout.{TextLayout}
use Rattle.units.specs.declared.level.Direction.{Direction}
use Rattle.units.specs.declared.level.Direction.TheVariants.{Auto, Ltr, Rtl, AutoRtl}
use Rattle.bidtests.specs.declared.verdict.Place.{Place}
use Rattle.bidtests.specs.Headline.{layout_under}
use Rattle.bidtests.specs.Verdicts.{Expected, Finding, Silent, Row, is_row, cases_of, rows_in, cases_in}
use Rattle.report.specs.declared.wrong_case.WrongCase.{WrongCase}
use Rattle.report.specs.declared.case_counts.Part.TheVariants.{ParaLevel, Levels, Order}
use Rattle.report.specs.ReadExpected.{place_under, read_under}
use Rattle.report.specs.WrongCases.{wrong_case_at, wrong_cases_in, wrong_cases_under, wrong_cases_from}
use Rattle.report.specs.ReportCounts.{is_under, is_of, is_wrong_row, counted_by, counts_by_direction, counts_by_part, counts_of, more_by_direction, more_by_part, with_row}

-- saturated counts add up
more : (a c n : ℕ) → n ≡ a + c → saturated n ≡ saturated (saturated a + c)
more a c n e = omega (arith, e)

count-append : {A : Type 0} (p : A → Bool) (xs ys : List A) → count_by p (xs ++ ys) ≡ count_by p xs + count_by p ys
count-append p xs ys = sum_by-append (λ x. cond (p x) 1 0) xs ys

counted-append : (p : WrongCase → Bool) (ws vs : List WrongCase) →
    counted_by p (ws ++ vs) ≡ saturated (counted_by p ws + count_by p vs)
counted-append p ws vs = more (count_by p ws) (count_by p vs) (count_by p (ws ++ vs)) (count-append p ws vs)

by-direction-append : (ws vs : List WrongCase) →
    counts_by_direction (ws ++ vs) ≡ more_by_direction vs (counts_by_direction ws)
by-direction-append ws vs = rw (
  counted-append (is_under Auto) ws vs,
  counted-append (is_under Ltr) ws vs,
  counted-append (is_under Rtl) ws vs,
  counted-append (is_under AutoRtl) ws vs,
) refl

by-part-append : (ws vs : List WrongCase) → counts_by_part (ws ++ vs) ≡ more_by_part vs (counts_by_part ws)
by-part-append ws vs = rw (
  counted-append (is_of ParaLevel) ws vs,
  counted-append (is_of Levels) ws vs,
  counted-append (is_of Order) ws vs,
) refl

one-case : (n : ℕ) (expected : Expected) (d : Direction) (layout : TextLayout) (ws : List WrongCase) (o : Option Place)
    (rest : Bool)
    → cond rest 1 0 ≡ min (length ws) 1
    → cond (is_some o || rest) 1 0 ≡ min (length (option_to_list (option_map (wrong_case_at n expected d layout) o) ++
    ws)) 1
one-case n expected d layout ws None rest e = e
one-case n expected d layout ws (Some place) rest e = omega arith

module _ (terms : Terms) where
  -- a row is wrong if and only if it has a wrong case
  some-case : (n : ℕ) (expected : Expected) (ds : List Direction) →
      cond (list_any (λ d. is_some (place_under terms expected d)) ds) 1 0 ≡
      min (length (wrong_cases_under terms n expected ds)) 1
  some-case n expected [] = refl
  some-case n expected (d ∷ ds) =
      one-case n (read_under terms expected d) d (layout_under terms.limits expected d)
      (wrong_cases_under terms n expected ds) (place_under terms expected d)
      (list_any (λ e. is_some (place_under terms expected e)) ds) (some-case n expected ds)

  from-append : (k : ℕ) (a b : List Finding) → wrong_cases_from terms k (a ++ b) ≡ wrong_cases_from terms k a ++
      wrong_cases_from terms (k + length a) b
  from-append k [] b = ap (λ n. wrong_cases_from terms n b) (omega arith)
  from-append k (f ∷ a) b =
      let here = wrong_cases_in terms (line_number k) f in
      ap (λ ws. here ++ ws) (from-append (k + 1) a b ∙
      ap (λ n. wrong_cases_from terms (k + 1) a ++ wrong_cases_from terms n b) (omega arith))
      ∙ sym (append_assoc here (wrong_cases_from terms (k + 1) a) (wrong_cases_from terms (k + length (f ∷ a)) b))

  -- the wrong cases after one line more
  pub from-push : (fs : List Finding) (f : Finding) →
      wrong_cases_from terms 0 (fs ++ f ∷ []) ≡ wrong_cases_from terms 0 fs ++
      wrong_cases_in terms (line_number (length fs)) f
  from-push fs f =
      from-append 0 fs (f ∷ [])
      ∙ ap (λ ws. wrong_cases_from terms 0 fs ++
      ws) (append-nil (wrong_cases_in terms (line_number (0 + length fs)) f) ∙
      ap (λ n. wrong_cases_in terms (line_number n) f) (omega arith))

  pub rows-push : (fs : List Finding) (expected : Expected) →
      rows_in (fs ++ Row expected ∷ []) ≡ saturated (rows_in fs + 1)
  rows-push fs expected = more (count_by is_row fs) 1 _ (count-append is_row fs (Row expected ∷ []))

  pub cases-push : (fs : List Finding) (expected : Expected) →
      cases_in (fs ++ Row expected ∷ []) ≡ saturated (cases_in fs + length expected.directions)
  cases-push fs expected =
      more (sum_by cases_of fs) (length expected.directions) _ (sum_by-append cases_of fs (Row expected ∷ []) ∙
      omega arith)

  wrong-rows-push : (fs : List Finding) (expected : Expected) (n : ℕ)
      → saturated (count_by (is_wrong_row terms) (fs ++ Row expected ∷ []))
      ≡ saturated (saturated (count_by (is_wrong_row terms) fs) +
      min (length (wrong_cases_under terms n expected expected.directions)) 1)
  wrong-rows-push fs expected n =
      more (count_by (is_wrong_row terms) fs) (min (length (wrong_cases_under terms n expected expected.directions)) 1)
      _
      (count-append (is_wrong_row terms) fs (Row expected ∷ []) ∙
      omega (arith, some-case n expected expected.directions))

  wrong-cases-push : (ws vs : List WrongCase) →
      saturated (length (ws ++ vs)) ≡ saturated (saturated (length ws) + length vs)
  wrong-cases-push ws vs = more (length ws) (length vs) _ (length-append ws vs)

  -- the counts after one row more
  pub case_counts-row : (fs : List Finding) (expected : Expected)
      → counts_of terms (fs ++ Row expected ∷ []) ≡
      with_row (length expected.directions) (wrong_cases_in terms (line_number (length fs)) (Row expected))
      (counts_of terms fs)
  case_counts-row fs expected =
      let ws = wrong_cases_from terms 0 fs in
      let vs = wrong_cases_in terms (line_number (length fs)) (Row expected) in
      rw (
        from-push fs (Row expected),
        rows-push fs expected,
        cases-push fs expected,
        wrong-rows-push fs expected (line_number (length fs)),
        wrong-cases-push ws vs,
        by-direction-append ws vs,
        by-part-append ws vs,
      ) refl

  none-more : {A : Type 0} (p : A → Bool) (xs : List A) (x : A) → p x ≡ false →
      count_by p (xs ++ x ∷ []) ≡ count_by p xs
  none-more p xs x none =
      let zero : count_by p (x ∷ []) ≡ 0 = rw none refl in
      count-append p xs (x ∷ []) ∙ omega (arith, zero)

  -- a line without a row adds nothing
  pub case_counts-silent : (fs : List Finding) → counts_of terms (fs ++ Silent ∷ []) ≡ counts_of terms fs
  case_counts-silent fs =
      let cases : sum_by cases_of (fs ++ Silent ∷ []) ≡ sum_by cases_of fs = sum_by-append cases_of fs (Silent ∷ []) ∙
      omega arith in
      let ws : wrong_cases_from terms 0 (fs ++ Silent ∷ []) ≡ wrong_cases_from terms 0 fs = from-push fs Silent ∙
      append-nil (wrong_cases_from terms 0 fs) in
      rw (ws, none-more is_row fs Silent refl, cases, none-more (is_wrong_row terms) fs Silent refl) refl
