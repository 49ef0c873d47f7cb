-- A position that opened and is not matched yet, from one position to the next, for any two tests of positions.
use Rattle.std.proofs.Common.{◌≡◌, ℕ, suc, ◌+◌, ◌<◌, Bool, true, false, cond, Some, None, refl, arith}
use Rattle.std.proofs.lemmas.Bool.{lt-ltb, le-ltb}
use Rattle.units.specs.Positions.{as_many, is_before}
use Rattle.explicit.proofs.Matched.Balance.{ups, surplus_level, surplus_unlevel, match_of, match_new, match_within, match_extends, gets_closed, stays_unclosed}

-- 1 for true, 0 for false
abbrev pub bit : Bool → ℕ
bit b = cond b 1 0

-- before k the position q is open: it has no match there, and from it on m more open than close
pub record IsOpenAt (o : ℕ → Bool) (c : ℕ → Bool) (k m q : ℕ) : Type 0 where
  pub unmatched : match_of o c k q ≡ None
  pub surplus : ups o k + ups c q ≡ ups c k + ups o q + m

pub ups_next : (test : ℕ → Bool) (k : ℕ) → ups test (suc k) ≡ ups test k + bit (test k)
unfolding ups
ups_next test k = refl

-- the counts at k, from q on
surplus_next : (o c : ℕ → Bool) (k m n q : ℕ) → IsOpenAt o c k m q → bit (o k) + m ≡ bit (c k) + n →
    ups o (suc k) + ups c q ≡ ups c (suc k) + ups o q + n
surplus_next o c k m n q h e = omega (arith, ups_next o k, ups_next c k, h.surplus, e)

-- whether the counts agree there
pub open_unlevel : (o c : ℕ → Bool) (k m n q : ℕ) → q < k → IsOpenAt o c k m q → bit (o k) + m ≡ bit (c k) + suc n →
    as_many o c q k ≡ false
open_unlevel o c k m n q lt h e =
    let next : k + 1 ≡ suc k = omega arith in
    surplus_unlevel o c q k (omega arith) (rw next (λ same. let s = surplus_next o c k m (suc n) q h e in
    omega (arith, s, same)))

pub open_level : (o c : ℕ → Bool) (k m q : ℕ) → q < k → IsOpenAt o c k m q → bit (o k) + m ≡ bit (c k) →
    as_many o c q k ≡ true
open_level o c k m q lt h e =
    let next : k + 1 ≡ suc k = omega arith in
    let s = surplus_next o c k m 0 q h (omega (arith, e)) in
    surplus_level o c q k (omega arith) (rw next (omega (arith, s)))

-- a position that opens at k is open after k
pub open_first : (o c : ℕ → Bool) (k : ℕ) → o k ≡ true → c k ≡ false → IsOpenAt o c (suc k) 1 k
open_first o c k ok ck =
    let next : k + 1 ≡ suc k = omega arith in
    record { unmatched = rw next at (match_new o c k); surplus = rw (ups_next o k, ups_next c k, ok, ck) (omega arith) }

-- an open position stays open if more still open than close
pub open_next : (o c : ℕ → Bool) (k m n q : ℕ) → q < k → IsOpenAt o c k m q → bit (o k) + m ≡ bit (c k) + suc n →
    IsOpenAt o c (suc k) (suc n) q
open_next o c k m n q lt h e =
    let next : k + 1 ≡ suc k = omega arith in
    let still = stays_unclosed o c k q lt h.unmatched (open_unlevel o c k m n q lt h e) in
    record { unmatched = rw next at still; surplus = surplus_next o c k m (suc n) q h e }

-- and it is matched at the first position at which as many open as close
pub open_closed : (o c : ℕ → Bool) (k m q : ℕ) → q < k → IsOpenAt o c k m q → bit (o k) + m ≡ bit (c k) →
    match_of o c (suc k) q ≡ Some k
open_closed o c k m q lt h e =
    let next : k + 1 ≡ suc k = omega arith in
    let now = gets_closed o c k q lt h.unmatched (open_level o c k m q lt h e) in
    rw next at now

-- before that position it has no match
pub before_match : (o c : ℕ → Bool) (y n q : ℕ) → match_of o c (suc y) q ≡ None → is_before y (match_of o c n q) ≡ true
before_match o c y n q e = grind (arith, lt-ltb, match_within)

pub at_match : (o c : ℕ → Bool) (k n q : ℕ) → k < n → match_of o c (suc k) q ≡ Some k →
    is_before k (match_of o c n q) ≡ false
at_match o c k n q lt e = rw (match_extends o c (suc k) n q k (omega arith) e) (le-ltb k k (omega arith))
