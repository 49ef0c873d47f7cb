-- The result of the search for the first fault, in the terms of the headline.
use Rattle.std.proofs.Common.{◌≡◌, ◌≢◌, ◌↔◌, ℕ, zero, suc, ◌+◌, ◌<◌, Option, None, Some, List, [], ◌∷◌, length, refl, sym, ap, subst, ◌∙◌, arith, inl, inr}
use Rattle.std.specs.List.{slice_get, Contains, AllPairs}
use Rattle.std.proofs.lemmas.Bool.{cases_order}
use Rattle.std.proofs.lemmas.Option.{slice_get_within, none-some, same_Some}
use Rattle.units.specs.Limits.{LimitsOf}
use Rattle.units.specs.declared.level.Direction.{Direction}
use Rattle.bidtests.specs.declared.verdict.Cause.{Cause}
use Rattle.bidtests.specs.declared.verdict.Place.{Place}
use Rattle.bidtests.specs.declared.verdict.Verdict.{Verdict}
use Rattle.bidtests.specs.declared.verdict.Verdict.TheVariants.{Yes, Malformed, Wrong}
use Rattle.bidtests.specs.Verdicts.{Expected, Finding, Silent, Row, Faulty, wrong_place_under, wrong_case, with_place, wrong_at, no_of, first_no, or_yes, verdict_on}
use Rattle.std.specs.Option.{option_or}
use Rattle.units.specs.Lines.{line_number}
use Rattle.bidtests.specs.Headline.{IsMalformed, IsRow, IsCaseRight, IsWrongAt, ComesBefore, AreRight, FirstIsMalformed, FirstIsWrong, Says}
use Rattle.bidtests.proofs.Places.{CaseIs, case-is, right-wrong, place-unique, same-expected}
use Rattle.bidtests.proofs.Ordered.{IsOrdered, never-after, earlier-before, contained-at, at-contained}

module _ (limits : LimitsOf) where
  -- all cases are right, or this one is the first wrong one, at this place
  abbrev CasesAre : Expected → List Direction → Option (Direction × Place) → Type 0
  CasesAre expected ds None = (i : ℕ) (d : Direction) → slice_get ds i ≡ Some d → IsCaseRight limits expected d
  CasesAre expected ds (Some x) =
      (j : ℕ) × (slice_get ds j ≡ Some x.0) × ((i : ℕ) (d : Direction) → i < j → slice_get ds i ≡ Some d →
      IsCaseRight limits expected d) × IsWrongAt limits expected x.0 x.1

  all-right : (expected : Expected) (d : Direction) (ds : List Direction) → IsCaseRight limits expected d →
      CasesAre expected ds None → CasesAre expected (d ∷ ds) None
  all-right expected d ds right rest zero e h = subst (IsCaseRight limits expected) (same_Some _ _ h) right
  all-right expected d ds right rest (suc i) e h = rest i e h

  earlier-right : (expected : Expected) (d : Direction) (ds : List Direction) (j : ℕ) → IsCaseRight limits expected d
      → ((i : ℕ) (e : Direction) → i < j → slice_get ds i ≡ Some e → IsCaseRight limits expected e)
      → (i : ℕ) (e : Direction) → i < suc j → slice_get (d ∷ ds) i ≡ Some e → IsCaseRight limits expected e
  earlier-right expected d ds j right rest zero e lt h = subst (IsCaseRight limits expected) (same_Some _ _ h) right
  earlier-right expected d ds j right rest (suc i) e lt h = rest i e (omega arith) h

  cases-more : (expected : Expected) (d : Direction) (ds : List Direction) (place : Option Place)
      (rest : Option (Direction × Place))
      → CaseIs limits expected d place → CasesAre expected ds rest →
      CasesAre expected (d ∷ ds) (option_or (with_place d place) rest)
  cases-more expected d ds None None right are = all-right expected d ds right are
  cases-more expected d ds None (Some x) right are = (
    suc are.0,
    are.1,
    earlier-right expected d ds are.0 right are.2,
    are.3,
  )
  cases-more expected d ds (Some place) rest wrong are = (0, refl, (λ i e lt h. absurd (omega arith)), wrong)

  cases-are : (expected : Expected) (ds : List Direction) → CasesAre expected ds (wrong_case limits expected ds)
  cases-are expected [] = λ i d e. absurd (none-some d e)
  cases-are expected (d ∷ ds) =
      cases-more expected d ds (wrong_place_under limits expected d) (wrong_case limits expected ds)
      (case-is limits expected d) (cases-are expected ds)

  -- a line without a fault
  record IsLineRight (f : Finding) : Type 0 where
    well_formed : (cause : Cause) → f ≢ Faulty cause
    right : (expected : Expected) (d : Direction) → f ≡ Row expected → Contains expected.directions d →
        IsCaseRight limits expected d

  expected-right : (n : ℕ) (expected : Expected) (o : Option (Direction × Place)) → wrong_at n o ≡ None →
      CasesAre expected expected.directions o
      → (d : Direction) → Contains expected.directions d → IsCaseRight limits expected d
  expected-right n expected None e are d h = let at = contained-at expected.directions d h in are at.0 d at.1
  expected-right n expected (Some x) e are d h = absurd (none-some _ (sym e))

  line-right : (n : ℕ) (f : Finding) → no_of limits n f ≡ None → IsLineRight f
  line-right n Silent e = record { well_formed = λ cause h. absurd (cc); right = λ expected d h k. absurd (cc) }
  line-right n (Faulty cause) e = absurd (none-some _ (sym e))
  line-right n (Row expected) e =
      let all : (d : Direction) → Contains expected.directions d → IsCaseRight limits expected d =
      expected-right n expected (wrong_case limits expected expected.directions) e
      (cases-are expected expected.directions) in
      let P : Expected → Type 0 = λ c. (d : Direction) → Contains c.directions d → IsCaseRight limits c d in
      record {
        well_formed = λ cause h. absurd (cc);
        right =
            λ other d h k. subst P (same-expected expected other h) all d k;
      }

  none-right : (fs : List Finding) → AreRight limits fs 0
  none-right fs = record {
    well_formed = λ k cause lt. absurd (omega arith);
    right =
        λ k expected d lt. absurd (omega arith);
  }

  module _ (f : Finding) (fs : List Finding) (n : ℕ) (first : IsLineRight f) (rest : AreRight limits fs n) where
    formed-more : (k : ℕ) (cause : Cause) → k < suc n → ¬ IsMalformed (f ∷ fs) k cause
    formed-more zero cause lt e = first.well_formed cause (same_Some _ _ e)
    formed-more (suc k) cause lt e = rest.well_formed k cause (omega arith) e

    rows-more : (k : ℕ) (expected : Expected) (d : Direction) → k < suc n → IsRow (f ∷ fs) k expected →
        Contains expected.directions d → IsCaseRight limits expected d
    rows-more zero expected d lt e h = first.right expected d (same_Some _ _ e) h
    rows-more (suc k) expected d lt e h = rest.right k expected d (omega arith) e h

    right-more : AreRight limits (f ∷ fs) (suc n)
    right-more = record { well_formed = formed-more; right = rows-more }

  -- all lines are right, or this is the fault of the first line that isn't
  abbrev LinesAre : List Finding → ℕ → Option Verdict → Type 0
  LinesAre fs o None = AreRight limits fs (length fs)
  LinesAre fs o (Some v) = (k : ℕ) × (f : Finding) × (slice_get fs k ≡ Some f) × AreRight limits fs k ×
      (no_of limits (line_number (o + k)) f ≡ Some v)

  lines-more : (f : Finding) (fs : List Finding) (o : ℕ) (here rest : Option Verdict) →
      no_of limits (line_number o) f ≡ here → LinesAre fs (o + 1) rest
      → LinesAre (f ∷ fs) o (option_or here rest)
  lines-more f fs o None None e are = right-more f fs (length fs) (line-right (line_number o) f e) are
  lines-more f fs o None (Some v) e are =
      let at : o + suc are.0 ≡ o + 1 + are.0 = omega arith in (
        suc are.0,
        are.1,
        are.2,
        right-more f fs are.0 (line-right (line_number o) f e) are.3,
        ap (λ n. no_of limits (line_number n) are.1) at ∙ are.4,
      )
  lines-more f fs o (Some v) rest e are =
      let at : o + 0 ≡ o = omega arith in
      (0, f, refl, none-right (f ∷ fs), ap (λ n. no_of limits (line_number n) f) at ∙ e)

  lines-are : (fs : List Finding) (o : ℕ) → LinesAre fs o (first_no limits o fs)
  lines-are [] o = none-right []
  lines-are (f ∷ fs) o =
      lines-more f fs o (no_of limits (line_number o) f) (first_no limits (o + 1) fs) refl (lines-are fs (o + 1))

  -- the directions of a wrong row before the first wrong one
  module _ (expected : Expected) (ordered : AllPairs ComesBefore expected.directions) where
    before-wrong : (j : ℕ) (e : Direction) → slice_get expected.directions j ≡ Some e
        → ((i : ℕ) (d : Direction) → i < j → slice_get expected.directions i ≡ Some d → IsCaseRight limits expected d)
        → (d : Direction) → Contains expected.directions d → ComesBefore d e → IsCaseRight limits expected d
    before-wrong j e at right d has before =
        let here = contained-at expected.directions d has in
        elim (cases_order here.0 j) [
          | inl same ↦
              let is : d ≡ e = same_Some _ _ (sym here.1 ∙ ap (λ n. slice_get expected.directions n) same ∙ at) in
              let P : Direction → Type 0 = λ x. ComesBefore x d in
              absurd (never-after d e before (subst P is (subst (ComesBefore d) (sym is) before)))
          | inr other ↦ elim other [
            | inl less ↦ right here.0 d less here.1
            | inr more ↦ absurd (never-after d e before
                (earlier-before expected.directions ordered j here.0 e d more at here.1))
          ]
        ]

    same-case : (d e : Direction) (p q : Place) → Contains expected.directions d → Contains expected.directions e
        → ((x : Direction) → Contains expected.directions x → ComesBefore x d → IsCaseRight limits expected x) →
        ((x : Direction) → Contains expected.directions x → ComesBefore x e → IsCaseRight limits expected x)
        → IsWrongAt limits expected d p → IsWrongAt limits expected e q → (d ≡ e) × (p ≡ q)
    same-case d e p q hd he bd be wd we =
        let i = contained-at expected.directions d hd in
        let j = contained-at expected.directions e he in
        elim (cases_order i.0 j.0) [
          | inl same ↦
              let is : d ≡ e = same_Some _ _ (sym i.1 ∙ ap (λ n. slice_get expected.directions n) same ∙ j.1) in
              let P : Direction → Type 0 = λ x. IsWrongAt limits expected x q in
              (is, place-unique limits expected d p q wd (subst P (sym is) we))
          | inr other ↦ elim other [
            | inl less ↦ absurd (right-wrong limits expected d p
                (be d hd (earlier-before expected.directions ordered i.0 j.0 d e less i.1 j.1)) wd)
            | inr more ↦ absurd (right-wrong limits expected e q
                (bd e he (earlier-before expected.directions ordered j.0 i.0 e d more j.1 i.1)) we)
          ]
        ]

  module _ (fs : List Finding) (ordered : (k : ℕ) (f : Finding) → slice_get fs k ≡ Some f → IsOrdered f) where
    row-says : (k n : ℕ) (expected : Expected) → IsRow fs k expected → AreRight limits fs k → n ≡ line_number k
        → (o : Option (Direction × Place)) → CasesAre expected expected.directions o → (v : Verdict) →
        wrong_at n o ≡ Some v → Says limits fs v
    row-says k n expected row right number None are v e = absurd (none-some v e)
    row-says k n expected row right number (Some x) are v e =
        let says : FirstIsWrong limits fs n x.0 x.1 = record {
          k = k;
          numbered = number;
          earlier = right;
          expected = expected;
          row = row;
          names = at-contained expected.directions are.0 x.0 are.1;
          before = before-wrong expected (ordered k (Row expected) row) are.0 x.0 are.1 are.2;
          wrong = are.3;
        } in
        subst (Says limits fs) (same_Some _ _ e) says

    fault-says : (k n : ℕ) (f : Finding) → slice_get fs k ≡ Some f → AreRight limits fs k → n ≡ line_number k →
        (v : Verdict) → no_of limits n f ≡ Some v → Says limits fs v
    fault-says k n Silent at right number v e = absurd (none-some v e)
    fault-says k n (Faulty cause) at right number v e = grind (arith, same_Some)
    fault-says k n (Row expected) at right number v e =
        row-says k n expected at right number (wrong_case limits expected expected.directions)
        (cases-are expected expected.directions) v e

    says-by : (o : Option Verdict) → LinesAre fs 0 o → Says limits fs (or_yes fs o)
    says-by None are = record { all = are; rows_counted = refl; cases_counted = refl }
    says-by (Some v) are = grind (arith, fault-says)

    pub verdict-says : Says limits fs (verdict_on limits fs)
    unfolding verdict_on
    verdict-says = says-by (first_no limits 0 fs) (lines-are fs 0)

    same-line : (k j : ℕ) → (k < j → ⊥) → (j < k → ⊥) → k ≡ j
    same-line k j less more = elim (cases_order k j) [
      | inl same ↦ same
      | inr other ↦
          elim other [ inl l ↦ absurd (less l) | inr m ↦ absurd (more m) ]
    ]

    -- two malformed lines
    malformed-unique : (n m : ℕ) (c e : Cause) → FirstIsMalformed limits fs n c → FirstIsMalformed limits fs m e →
        Malformed n c ≡ Malformed m e
    malformed-unique n m c e a b = grind (arith, same-line, same_Some)

    not-both : (n m : ℕ) (c : Cause) (d : Direction) (p : Place) → FirstIsMalformed limits fs n c →
        FirstIsWrong limits fs m d p → ⊥
    not-both n m c d p a b = grind (arith, same-line, right-wrong, same_Some)

    wrong-unique : (n m : ℕ) (d e : Direction) (p q : Place) → FirstIsWrong limits fs n d p →
        FirstIsWrong limits fs m e q → Wrong n d p ≡ Wrong m e q
    wrong-unique n m d e p q a b =
        let same : a.k ≡ b.k =
        same-line a.k b.k (λ lt.
        right-wrong limits a.expected d p (b.earlier.right a.k a.expected d lt a.row a.names) a.wrong)
        (λ lt. right-wrong limits b.expected e q (a.earlier.right b.k b.expected e lt b.row b.names) b.wrong) in
        let number : n ≡ m = a.numbered ∙ ap (λ k. line_number k) same ∙ sym b.numbered in
        let expected : b.expected ≡ a.expected =
        same-expected b.expected a.expected (same_Some _ _ (sym b.row ∙ ap (λ k. slice_get fs k) (sym same) ∙
        a.row)) in
        let Names : Expected → Type 0 = λ c. Contains c.directions e in
        let Before : Expected → Type 0 = λ c. (x : Direction) → Contains c.directions x → ComesBefore x e →
        IsCaseRight limits c x in
        let Wrongly : Expected → Type 0 = λ c. IsWrongAt limits c e q in
        let case = same-case a.expected (ordered a.k (Row a.expected) a.row) d e p q a.names
        (subst Names expected b.names) a.before (subst Before expected b.before) a.wrong
        (subst Wrongly expected b.wrong) in
        let direction : d ≡ e = case.0 in
        let place : p ≡ q = case.1 in
        cc

    says-unique : (v w : Verdict) → Says limits fs v → Says limits fs w → v ≡ w
    says-unique (Yes r c) (Yes s e) a b = let rows : r ≡ s = a.rows_counted ∙ sym b.rows_counted in let cases : c ≡ e =
        a.cases_counted ∙ sym b.cases_counted in cc
    says-unique (Yes r c) (Malformed n cause) a b =
        absurd (a.all.well_formed b.k cause (slice_get_within fs b.k (Faulty cause) b.malformed) b.malformed)
    says-unique (Yes r c) (Wrong n d p) a b =
        absurd (right-wrong limits b.expected d p
        (a.all.right b.k b.expected d (slice_get_within fs b.k (Row b.expected) b.row) b.row b.names) b.wrong)
    says-unique (Malformed n cause) (Yes r c) a b =
        absurd (b.all.well_formed a.k cause (slice_get_within fs a.k (Faulty cause) a.malformed) a.malformed)
    says-unique (Malformed n c) (Malformed m e) a b = malformed-unique n m c e a b
    says-unique (Malformed n c) (Wrong m d p) a b = absurd (not-both n m c d p a b)
    says-unique (Wrong n d p) (Yes r c) a b =
        absurd (right-wrong limits a.expected d p
        (b.all.right a.k a.expected d (slice_get_within fs a.k (Row a.expected) a.row) a.row a.names) a.wrong)
    says-unique (Wrong n d p) (Malformed m c) a b = absurd (not-both m n c d p b a)
    says-unique (Wrong n d p) (Wrong m e q) a b = wrong-unique n m d e p q a b

    -- the verdict is the only one whose meaning is true of the file
    pub verdict-exact : (v : Verdict) → (verdict_on limits fs ≡ v) ↔ Says limits fs v
    verdict-exact v = (
      (λ e. subst (Says limits fs) e verdict-says),
      λ s. says-unique (verdict_on limits fs) v verdict-says s,
    )
