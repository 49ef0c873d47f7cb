-- The stack of open positions, for any two tests of positions that exclude each other.
use Rattle.std.proofs.Common.{◌≡◌, ℕ, suc, ◌+◌, ◌-◌, ◌<◌, Bool, true, false, Some, None, inl, inr, sym, ap, ◌∙◌, arith}
use Rattle.std.proofs.lemmas.Bool.{cases_eq, true≢false}
use Rattle.units.specs.Positions.{as_many}
use Rattle.explicit.proofs.Matched.Balance.{match_of, unmatched_before}
use Rattle.explicit.proofs.Matched.StillOpen.{bit, IsOpenAt, open_unlevel, open_first, open_next, open_closed}

-- the open positions below k, m of them, the last one at s (m - 1)
pub record IsStack (o : ℕ → Bool) (c : ℕ → Bool) (k : ℕ) (m : ℕ) (s : ℕ → ℕ) : Type 0 where
  pub before : (a : ℕ) → a < m → s a < k
  pub opener : (a : ℕ) → a < m → o (s a) ≡ true
  pub still : (a : ℕ) → a < m → IsOpenAt o c k (m - a) (s a)
  pub complete : (i : ℕ) → i < k → o i ≡ true → match_of o c k i ≡ None → (a : ℕ) × (a < m) × (s a ≡ i)

pub stack_empty : (o c : ℕ → Bool) (s : ℕ → ℕ) → IsStack o c 0 0 s
stack_empty o c s = grind arith

-- what position k does to the counts
record Does (o : ℕ → Bool) (c : ℕ → Bool) (k opens closes : ℕ) : Type 0 where
  opens_is : bit (o k) ≡ opens
  closes_is : bit (c k) ≡ closes

does_other : (o c : ℕ → Bool) (k : ℕ) → o k ≡ false → c k ≡ false → Does o c k 0 0
does_other o c k ok ck = record { opens_is = ap bit ok; closes_is = ap bit ck }

does_opening : (o c : ℕ → Bool) (k : ℕ) → o k ≡ true → c k ≡ false → Does o c k 1 0
does_opening o c k ok ck = record { opens_is = ap bit ok; closes_is = ap bit ck }

does_closing : (o c : ℕ → Bool) (k : ℕ) → o k ≡ false → c k ≡ true → Does o c k 0 1
does_closing o c k ok ck = record { opens_is = ap bit ok; closes_is = ap bit ck }

-- whether the counts agree at k, from an open position on
pub unlevel_at_other : (o c : ℕ → Bool) (k m : ℕ) (s : ℕ → ℕ) → IsStack o c k m s → o k ≡ false → c k ≡ false →
    (a : ℕ) → a < m → as_many o c (s a) k ≡ false
unlevel_at_other o c k m s stack ok ck a h = let d = does_other o c k ok ck in
    open_unlevel o c k (m - a) (m - a - 1) (s a) (stack.before a h) (stack.still a h) (omega (
      arith,
      d.opens_is,
      d.closes_is,
    ))

pub unlevel_at_opening : (o c : ℕ → Bool) (k m : ℕ) (s : ℕ → ℕ) → IsStack o c k m s → o k ≡ true → c k ≡ false →
    (a : ℕ) → a < m → as_many o c (s a) k ≡ false
unlevel_at_opening o c k m s stack ok ck a h = let d = does_opening o c k ok ck in
    open_unlevel o c k (m - a) (m - a) (s a) (stack.before a h) (stack.still a h) (omega (
      arith,
      d.opens_is,
      d.closes_is,
    ))

pub unlevel_at_closing : (o c : ℕ → Bool) (k n : ℕ) (s : ℕ → ℕ) → IsStack o c k (suc n) s → o k ≡ false → c k ≡ true →
    (a : ℕ) → a < n → as_many o c (s a) k ≡ false
unlevel_at_closing o c k n s stack ok ck a h = let d = does_closing o c k ok ck in
    open_unlevel o c k (suc n - a) (n - a - 1) (s a) (stack.before a (omega arith)) (stack.still a (omega arith))
    (omega (arith, d.opens_is, d.closes_is))

-- an open position as the position moves on, with n more
still_next : (o c : ℕ → Bool) (k m n n' q : ℕ) → q < k → IsOpenAt o c k m q → bit (o k) + m ≡ bit (c k) + n →
    n ≡ suc n' → IsOpenAt o c (k + 1) n q
still_next o c k m n n' q lt h e some =
    let next : k + 1 ≡ suc k = omega arith in
    rw (next, some) (open_next o c k m n' q lt h (rw some at e))

-- a position that neither opens nor closes leaves the stack unchanged
pub stack_stays : (o c : ℕ → Bool) (k m : ℕ) (s : ℕ → ℕ) → IsStack o c k m s → o k ≡ false → c k ≡ false →
    IsStack o c (k + 1) m s
stack_stays o c k m s stack ok ck = record {
  before = λ a h. let b = stack.before a h in omega arith;
  opener = stack.opener;
  still = λ a h. let d = does_other o c k ok ck in
      still_next o c k (m - a) (m - a) (m - a - 1) (s a) (stack.before a h) (stack.still a h) (omega (
        arith,
        d.opens_is,
        d.closes_is,
      )) (omega arith);
  complete = λ i h opener none.
      elim (cases_eq i k) [
        | inl here ↦ absurd (true≢false (sym opener ∙ ap o here ∙ ok))
        | inr lower ↦ let b : i < k = omega arith in
            stack.complete i b opener (unmatched_before o c k (k + 1) i (omega arith) none)
      ];
}

-- one that opens is pushed
pub stack_push : (o c : ℕ → Bool) (k m : ℕ) (s s' : ℕ → ℕ) → IsStack o c k m s → o k ≡ true → c k ≡ false →
    ((a : ℕ) → a < m → s' a ≡ s a) → s' m ≡ k → IsStack o c (k + 1) (m + 1) s'
stack_push o c k m s s' stack ok ck agree top = record {
  before = λ a h. elim (cases_eq a m) [
    | inl e ↦ let e' : s' a ≡ k = rw e top in omega arith
    | inr ne ↦ let lt : a < m = omega arith in let b = stack.before a lt in let e' = agree a lt in omega arith
  ];
  opener = λ a h. elim (cases_eq a m) [
    | inl e ↦ rw (e, top) ok
    | inr ne ↦ let lt : a < m = omega arith in
        rw (agree a lt) (stack.opener a lt)
  ];
  still = λ a h. elim (cases_eq a m) [
    | inl e ↦
        let next : k + 1 ≡ suc k = omega arith in
        let one : m + 1 - m ≡ 1 = omega arith in
        rw (e, top, one, next) (open_first o c k ok ck)
    | inr ne ↦
        let lt : a < m = omega arith in
        let d = does_opening o c k ok ck in
        rw (agree a lt) (still_next o c k (m - a) (m + 1 - a) (m - a) (s a) (stack.before a lt) (stack.still a lt)
        (omega (arith, d.opens_is, d.closes_is)) (omega arith))
  ];
  complete = λ i h opener none.
      elim (cases_eq i k) [
        | inl here ↦ (m, omega arith, top ∙ sym here)
        | inr lower ↦
            let b : i < k = omega arith in
            let at = stack.complete i b opener (unmatched_before o c k (k + 1) i (omega arith) none) in
            (at.0, omega (arith, at.1), agree at.0 at.1 ∙ at.2)
      ];
}

-- one that closes matches the top
pub top_is_closed : (o c : ℕ → Bool) (k n : ℕ) (s : ℕ → ℕ) → IsStack o c k (suc n) s → o k ≡ false → c k ≡ true →
    match_of o c (k + 1) (s n) ≡ Some k
top_is_closed o c k n s stack ok ck =
    let lt : n < suc n = omega arith in
    let next : k + 1 ≡ suc k = omega arith in
    let d = does_closing o c k ok ck in
    rw next (open_closed o c k (suc n - n) (s n) (stack.before n lt) (stack.still n lt) (omega (
      arith,
      d.opens_is,
      d.closes_is,
    )))

-- and pops it
pub stack_pop : (o c : ℕ → Bool) (k n : ℕ) (s : ℕ → ℕ) → IsStack o c k (suc n) s → o k ≡ false → c k ≡ true →
    IsStack o c (k + 1) n s
stack_pop o c k n s stack ok ck = record {
  before = λ a h. let b = stack.before a (omega arith) in omega arith;
  opener = λ a h. stack.opener a (omega arith);
  still = λ a h. let d = does_closing o c k ok ck in
      still_next o c k (suc n - a) (n - a) (n - a - 1) (s a) (stack.before a (omega arith))
      (stack.still a (omega arith)) (omega (arith, d.opens_is, d.closes_is)) (omega arith);
  complete = λ i h opener none.
      elim (cases_eq i k) [
        | inl here ↦ absurd (true≢false (sym opener ∙ ap o here ∙ ok))
        | inr lower ↦
            let b : i < k = omega arith in
            let at = stack.complete i b opener (unmatched_before o c k (k + 1) i (omega arith) none) in
            elim (cases_eq at.0 n) [
              | inl top ↦
                  let now = top_is_closed o c k n s stack ok ck in
                  let same : s n ≡ i = rw (← top) at.2 in
                  absurd (let now' : match_of o c (k + 1) i ≡ Some k = rw (← same) now in cc)
              | inr deeper ↦ (at.0, omega (arith, at.1), at.2)
            ]
      ];
}

-- with nothing open, a position closes nothing
pub stack_none_open : (o c : ℕ → Bool) (k : ℕ) (s : ℕ → ℕ) → IsStack o c k 0 s → o k ≡ false → IsStack o c (k + 1) 0 s
stack_none_open o c k s stack ok = grind (arith, true≢false, unmatched_before)
