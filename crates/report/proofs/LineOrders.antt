-- The rest of an expected order beside the order of a line, position by position.
use Rattle.std.proofs.Common.{◌≡◌, ◌≢◌, ℕ, ◌+◌, ◌<◌, ◌≤◌, Bool, true, false, not, Option, None, Some, List, [], ◌∷◌, ◌++◌, length, drop, get_or, refl, sym, ap, ap₂, ◌∙◌, arith}
use Rattle.std.specs.Prelude.{nat_eq, MatchOption}
use Rattle.std.specs.Option.{option_eq}
use Rattle.std.proofs.lemmas.Bool.{eq-eqb, eqb-true, false≢true, ne_eqb}
use Rattle.std.proofs.lemmas.List.{drop_all, drop_more}
use Rattle.std.proofs.lemmas.Option.{none-some, same_Some}
use Rattle.bidtests.specs.Verdicts.{first_difference}
use Rattle.report.specs.Comparing.{PassesLine}

-- the next position, and the rest after it
abbrev pub Takes : List ℕ → Option ℕ → List ℕ → Type 0
Takes before next after = MatchOption next ((before ≡ []) × (after ≡ [])) (λ x. before ≡ x ∷ after)

step : (x y : ℕ) (xs ys : List ℕ) (at : ℕ) → x ≡ y →
    first_difference nat_eq (x ∷ xs) (y ∷ ys) at ≡ first_difference nat_eq xs ys (at + 1)
step x y xs ys at e = rw (eq-eqb x y e) refl

apart : (x y : ℕ) (xs ys : List ℕ) (at : ℕ) → x ≢ y → first_difference nat_eq (x ∷ xs) (y ∷ ys) at ≡ Some at
apart x y xs ys at ne = rw (ne_eqb x y ne) refl

not-false : (b : Bool) → not b ≡ false → b ≡ true
not-false true e = refl
not-false false e = absurd (false≢true (sym e))

-- the next position is this one, or another one, or there is none
pub is-next : (next : Option ℕ) (n : ℕ) (other : Bool) → other ≡ not (option_eq nat_eq next (Some n)) → other ≡ false →
    next ≡ Some n
is-next None n other is none = absurd (false≢true (sym none ∙ is))
is-next (Some x) n other is none = ap (λ p. Some p) (eqb-true x n (not-false (nat_eq x n) (sym is ∙ none)))

pub is-no-next : (next : Option ℕ) (n : ℕ) (other : Bool) → other ≡ not (option_eq nat_eq next (Some n)) →
    other ≡ true → next ≢ Some n
is-no-next None n other is differs e = none-some n e
is-no-next (Some x) n other is differs e =
    let same : nat_eq x n ≡ true = eq-eqb x n (same_Some _ _ e) in
    false≢true (sym (ap not same) ∙ sym is ∙ differs)

module _ (line : List ℕ) (i : ℕ) (lt : i < length line) (more : List ℕ) (at : ℕ) where
  here : drop i line ++ more ≡ get_or line i 0 ∷ (drop (i + 1) line ++ more)
  here = ap (λ (ps : List ℕ). ps ++ more) (drop_more line i 0 lt)

  -- the next position is the line's
  pub agrees-on : (before after : List ℕ) (next : Option ℕ) → Takes before next after → next ≡ Some (get_or line i 0)
      → first_difference nat_eq before (drop i line ++ more) (at + i) ≡
      first_difference nat_eq after (drop (i + 1) line ++ more) (at + (i + 1))
  agrees-on before after None takes e = absurd (none-some _ e)
  agrees-on before after (Some x) takes e =
      let count : at + i + 1 ≡ at + (i + 1) = omega arith in
      ap₂ (λ (b r : List ℕ). first_difference nat_eq b r (at + i)) takes here
      ∙ step x (get_or line i 0) after (drop (i + 1) line ++ more) (at + i) (same_Some _ _ e)
      ∙ ap (λ n. first_difference nat_eq after (drop (i + 1) line ++ more) n) count

  -- the next position is another one, or there is none
  pub differs-on : (before after : List ℕ) (next : Option ℕ) → Takes before next after → next ≢ Some (get_or line i 0)
      → first_difference nat_eq before (drop i line ++ more) (at + i) ≡ Some (at + i)
  differs-on before after None takes ne = ap₂ (λ (b r : List ℕ). first_difference nat_eq b r (at + i)) takes.0 here
  differs-on before after (Some x) takes ne =
      ap₂ (λ (b r : List ℕ). first_difference nat_eq b r (at + i)) takes here
      ∙ apart x (get_or line i 0) after (drop (i + 1) line ++ more) (at + i) (λ e. ne (ap (λ p. Some p) e))

pub taken-length : (before after : List ℕ) (next : Option ℕ) (n : ℕ) → Takes before next after → next ≡ Some n →
    length before ≡ 1 + length after
taken-length before after None n takes e = absurd (none-some _ e)
taken-length before after (Some x) n takes e = let both = ap (λ (ps : List ℕ). length ps) takes in omega (arith, both)

-- before a line, and after it
pub none-passed : (line before more : List ℕ) (at : ℕ) →
    first_difference nat_eq before (line ++ more) at ≡ first_difference nat_eq before (line ++ more) (at + 0)
none-passed line before more at = ap (λ n. first_difference nat_eq before (line ++ more) n) (omega arith)

pub line-passed : (line before after : List ℕ) (i : ℕ) → length line ≤ i → i ≤ length line →
    length before ≡ i + length after
    → ((more : List ℕ) (at : ℕ) →
    first_difference nat_eq before (line ++ more) at ≡ first_difference nat_eq after (drop i line ++ more) (at + i))
    → PassesLine line before after
line-passed line before after i low high fits goes =
    let whole : i ≡ length line = omega (arith, low, high) in
    let none : drop i line ≡ [] = drop_all i line low in
    record {
      fits = omega (arith, fits, low, high);
      search = λ more at.
          goes more at ∙ ap (λ (ps : List ℕ). first_difference nat_eq after (ps ++ more) (at + i)) none
          ∙ ap (λ n. first_difference nat_eq after more (at + n)) whole;
    }
