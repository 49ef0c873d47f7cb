-- Matching by counting, for any two tests of positions that exclude each other: one for opening, one for closing.
use Rattle.std.proofs.lemmas.Bool.Decides.{nat_tests}
use Rattle.std.proofs.lemmas.Grind.{common_steps}
use Rattle.std.proofs.Common.{◌≡◌, ◌≢◌, ℕ, zero, suc, ◌+◌, ◌-◌, ◌<◌, ◌≤◌, Bool, true, false, cond, Option, Some, None, inl, inr, refl, sym, ◌∙◌, arith}
use Rattle.std.specs.Prelude.{count_by}
use Rattle.std.proofs.lemmas.Bool.{cases_order, true≢false, eqb-true, eq-eqb, false_from_ne_true}
use Rattle.std.proofs.lemmas.List.Sums.{sum_by-cons}
use Rattle.units.specs.Positions.{positions_from, as_many, first_after}
use Rattle.units.proofs.Positions.{or_else, first_from_more, first_from_some, first_from_is}

-- no position both opens and closes
pub record Exclude (o : ℕ → Bool) (c : ℕ → Bool) : Type 0 where
  pub apart : (p : ℕ) → o p ≡ true → c p ≡ false

-- how many positions below p pass
unfoldable pub ups : (ℕ → Bool) → ℕ → ℕ
ups test zero = zero
ups test (suc p) = ups test p + cond (test p) 1 0

-- the first position after i and below n through which as many open as close
unfoldable pub match_of : (ℕ → Bool) → (ℕ → Bool) → ℕ → ℕ → Option ℕ
match_of o c n i = first_after (as_many o c i) i n

pub ups_yes : (test : ℕ → Bool) (p : ℕ) → test p ≡ true → ups test (p + 1) ≡ ups test p + 1
unfolding ups
ups_yes test p h = let e : p + 1 ≡ suc p = omega arith in rw (e, h) refl

pub ups_no : (test : ℕ → Bool) (p : ℕ) → test p ≡ false → ups test (p + 1) ≡ ups test p
unfolding ups
ups_no test p h = let e : p + 1 ≡ suc p = omega arith in rw (e, h) (omega arith)

pub ups_part : (test : ℕ → Bool) (i d : ℕ) → ups test i + count_by test (positions_from i d) ≡ ups test (i + d)
ups_part test i zero = let e : i + 0 ≡ i = omega arith in rw e (omega arith)
ups_part test i (suc d) = grind (arith, nat_tests, common_steps, sum_by-cons, ups_yes, ups_no, ups_part test (i + 1) d)

pub ups_between : (test : ℕ → Bool) (i j : ℕ) → i ≤ j + 1 →
    ups test i + count_by test (positions_from i (j + 1 - i)) ≡ ups test (j + 1)
ups_between test i j h = let n : i + (j + 1 - i) ≡ j + 1 = omega arith in let part = ups_part test i (j + 1 - i) in
    rw n at part

pub level_surplus : (o c : ℕ → Bool) (i j : ℕ) → i ≤ j + 1 → as_many o c i j ≡ true →
    ups o (j + 1) + ups c i ≡ ups c (j + 1) + ups o i
level_surplus o c i j h e = grind (arith, ups_between, eqb-true)

pub surplus_level : (o c : ℕ → Bool) (i j : ℕ) → i ≤ j + 1 → ups o (j + 1) + ups c i ≡ ups c (j + 1) + ups o i →
    as_many o c i j ≡ true
surplus_level o c i j h e = grind (arith, ups_between, eq-eqb)

pub unlevel_surplus : (o c : ℕ → Bool) (i j : ℕ) → i ≤ j + 1 → as_many o c i j ≡ false →
    ups o (j + 1) + ups c i ≢ ups c (j + 1) + ups o i
unlevel_surplus o c i j h e same = true≢false (sym (surplus_level o c i j h same) ∙ e)

pub surplus_unlevel : (o c : ℕ → Bool) (i j : ℕ) → i ≤ j + 1 → ups o (j + 1) + ups c i ≢ ups c (j + 1) + ups o i →
    as_many o c i j ≡ false
surplus_unlevel o c i j h ne = false_from_ne_true _ (λ t. absurd (ne (level_surplus o c i j h t)))

-- what a position does
pub data Turn (o : ℕ → Bool) (c : ℕ → Bool) (p : ℕ) : Type 0 where
  opens : o p ≡ true → c p ≡ false → Turn o c p
  closes : o p ≡ false → c p ≡ true → Turn o c p
  stays : o p ≡ false → c p ≡ false → Turn o c p

pub turn_of : (o c : ℕ → Bool) (p : ℕ) → Exclude o c → Turn o c p
turn_of o c p ex = grind arith

-- the match as the end moves on
pub match_more : (o c : ℕ → Bool) (k i : ℕ) → i < k →
    match_of o c (k + 1) i ≡ or_else (match_of o c k i) (cond (as_many o c i k) (Some k) None)
unfolding match_of
match_more o c k i h =
    let n : k + 1 - (i + 1) ≡ suc (k - (i + 1)) = omega arith in
    let at : i + 1 + (k - (i + 1)) ≡ k = omega arith in
    let step = first_from_more (as_many o c i) (i + 1) (k - (i + 1)) in
    let step' = rw at at step in
    rw n step'

pub match_new : (o c : ℕ → Bool) (k : ℕ) → match_of o c (k + 1) k ≡ None
unfolding match_of
match_new o c k = let n : k + 1 - (k + 1) ≡ 0 = omega arith in rw n refl

pub match_stays : (o c : ℕ → Bool) (k i j : ℕ) → i < k → match_of o c k i ≡ Some j → match_of o c (k + 1) i ≡ Some j
match_stays o c k i j h e = rw (match_more o c k i h, e) refl

pub match_extends : (o c : ℕ → Bool) (k n i j : ℕ) → k ≤ n → match_of o c k i ≡ Some j → match_of o c n i ≡ Some j
unfolding match_of
match_extends o c k n i j h e =
    let found = first_from_some (as_many o c i) (i + 1) (k - (i + 1)) j e in
    let within : j < i + 1 + (n - (i + 1)) = omega (arith, found.within, found.from) in
    first_from_is (as_many o c i) (i + 1) (n - (i + 1)) j found.from within found.passes found.fails_before

-- a position that has no match within n positions has none within fewer
pub unmatched_before : (o c : ℕ → Bool) (k n i : ℕ) → k ≤ n → match_of o c n i ≡ None → match_of o c k i ≡ None
unmatched_before o c k n i le none = grind (arith, match_extends)

pub match_within : (o c : ℕ → Bool) (k n i j : ℕ) → j < k → match_of o c n i ≡ Some j → match_of o c k i ≡ Some j
unfolding match_of
match_within o c k n i j h e =
    let found = first_from_some (as_many o c i) (i + 1) (n - (i + 1)) j e in
    let within : j < i + 1 + (k - (i + 1)) = omega (arith, found.within, found.from) in
    first_from_is (as_many o c i) (i + 1) (k - (i + 1)) j found.from within found.passes found.fails_before

pub match_of_bounds : (o c : ℕ → Bool) (n i j : ℕ) → match_of o c n i ≡ Some j → (i < j) × (j < n)
unfolding match_of
match_of_bounds o c n i j e = grind (arith, first_from_some)

pub match_of_surplus : (o c : ℕ → Bool) (n i j : ℕ) → match_of o c n i ≡ Some j →
    ups o (j + 1) + ups c i ≡ ups c (j + 1) + ups o i
unfolding match_of
match_of_surplus o c n i j e = grind (arith, first_from_some, level_surplus)

pub gets_closed : (o c : ℕ → Bool) (k i : ℕ) → i < k → match_of o c k i ≡ None → as_many o c i k ≡ true →
    match_of o c (k + 1) i ≡ Some k
gets_closed o c k i h e t = rw (match_more o c k i h, e, t) refl

pub stays_unclosed : (o c : ℕ → Bool) (k i : ℕ) → i < k → match_of o c k i ≡ None → as_many o c i k ≡ false →
    match_of o c (k + 1) i ≡ None
stays_unclosed o c k i h e t = rw (match_more o c k i h, e, t) refl

-- while i is open, more open than close from it on
pub surplus_by : (o c : ℕ → Bool) (i d : ℕ) → Exclude o c → o i ≡ true → match_of o c (i + 1 + d) i ≡ None →
    ups c (i + 1 + d) + ups o i < ups o (i + 1 + d) + ups c i
surplus_by o c i zero ex opener none =
    let e : i + 1 + 0 ≡ i + 1 = omega arith in
    rw e (omega (arith, ups_yes o i opener, ups_no c i (ex.apart i opener)))
surplus_by o c i (suc d) ex opener none =
    let e : i + 1 + suc d ≡ i + 1 + d + 1 = omega arith in
    let none' : match_of o c (i + 1 + d + 1) i ≡ None = rw e at none in
    let lt : i < i + 1 + d = omega arith in
    let before : match_of o c (i + 1 + d) i ≡ None =
    unmatched_before o c (i + 1 + d) (i + 1 + d + 1) i (omega arith) none' in
    let unlevel : as_many o c i (i + 1 + d) ≡ false =
    false_from_ne_true _ (λ t. absurd (let now = gets_closed o c (i + 1 + d) i lt before t in cc)) in
    let ne = unlevel_surplus o c i (i + 1 + d) (omega arith) unlevel in
    let ih = surplus_by o c i d ex opener before in
    rw e (go (turn_of o c (i + 1 + d) ex) ne ih)
  where
    go : Turn o c (i + 1 + d) → (ups o (i + 1 + d + 1) + ups c i ≢ ups c (i + 1 + d + 1) + ups o i) →
        ups c (i + 1 + d) + ups o i < ups o (i + 1 + d) + ups c i →
        ups c (i + 1 + d + 1) + ups o i < ups o (i + 1 + d + 1) + ups c i
    go (opens a b) ne ih = omega (arith, ups_yes o (i + 1 + d) a, ups_no c (i + 1 + d) b, ih)
    go (closes a b) ne ih = omega (arith, ups_no o (i + 1 + d) a, ups_yes c (i + 1 + d) b, ih, ne)
    go (stays a b) ne ih = omega (arith, ups_no o (i + 1 + d) a, ups_no c (i + 1 + d) b, ih)

pub surplus_open : (o c : ℕ → Bool) (i k : ℕ) → Exclude o c → i < k → o i ≡ true → match_of o c k i ≡ None →
    ups c k + ups o i < ups o k + ups c i
surplus_open o c i k ex h opener none =
    let e : i + 1 + (k - (i + 1)) ≡ k = omega arith in
    let s = surplus_by o c i (k - (i + 1)) ex opener (rw e none) in
    rw e at s

pub open_until : (o c : ℕ → Bool) (n i a k : ℕ) → match_of o c n i ≡ Some a → k ≤ a → match_of o c k i ≡ None
open_until o c n i a k e h = grind (arith, match_of_bounds, match_extends)

-- the match of a position that opens is a position that closes
pub match_closes : (o c : ℕ → Bool) (n i a : ℕ) → Exclude o c → o i ≡ true → match_of o c n i ≡ Some a → c a ≡ true
match_closes o c n i a ex opener e =
    let b = match_of_bounds o c n i a e in
    go (turn_of o c a ex) (match_of_surplus o c n i a e)
    (surplus_open o c i a ex b.0 opener (open_until o c n i a a e (omega arith)))
  where
    go : Turn o c a → ups o (a + 1) + ups c i ≡ ups c (a + 1) + ups o i → ups c a + ups o i < ups o a + ups c i →
        c a ≡ true
    go (opens x y) after before = absurd (omega (arith, ups_yes o a x, ups_no c a y, after, before))
    go (closes x y) after before = y
    go (stays x y) after before = absurd (omega (arith, ups_no o a x, ups_no c a y, after, before))

-- what opens between i and its match is matched before that
pub match_inner : (o c : ℕ → Bool) (n i j a : ℕ) → Exclude o c → o i ≡ true → o j ≡ true → match_of o c n i ≡ Some a →
    i < j → j < a → (b : ℕ) × (match_of o c n j ≡ Some b) × (b < a)
match_inner o c n i j a ex oi oj e ij ja = go (match_of o c (a + 1) j) refl
  where
    above : ups c j + ups o i < ups o j + ups c i
    above = surplus_open o c i j ex ij oi (open_until o c n i a j e (omega arith))

    go : (m : Option ℕ) → match_of o c (a + 1) j ≡ m → (b : ℕ) × (match_of o c n j ≡ Some b) × (b < a)
    go None e' =
        let still = surplus_open o c j (a + 1) ex (omega arith) oj e' in
        let level = match_of_surplus o c n i a e in
        let up = above in
        absurd (omega (arith, still, level, up))
    go (Some b) e' =
        let bounds = match_of_bounds o c (a + 1) j b e' in
        let a_in = match_of_bounds o c n i a e in
        let whole : match_of o c n j ≡ Some b = match_extends o c (a + 1) n j b (omega (arith, a_in.1)) e' in
        let level = match_of_surplus o c n i a e in
        let level' = match_of_surplus o c n j b whole in
        let up = above in
        let differ : b ≢ a = λ same. let l : ups o (a + 1) + ups c j ≡ ups c (a + 1) + ups o j = rw same at level' in
        omega (arith, l, level, up) in
        (b, whole, omega (arith, bounds.1, differ))

-- no position closes two
pub match_once : (o c : ℕ → Bool) (n i j a : ℕ) → Exclude o c → o i ≡ true → o j ≡ true → match_of o c n i ≡ Some a →
    match_of o c n j ≡ Some a → i ≡ j
match_once o c n i j a ex oi oj e e' =
    elim (cases_order i j) [
      | inl same ↦ same
      | inr apart ↦ elim apart [ inl lt ↦ absurd (go i j oi oj e e' lt) | inr gt ↦ absurd (go j i oj oi e' e gt) ]
    ]
  where
    go : (x y : ℕ) → o x ≡ true → o y ≡ true → match_of o c n x ≡ Some a → match_of o c n y ≡ Some a → x < y → ⊥
    go x y ox oy ex' ey lt =
        let b = match_of_bounds o c n y a ey in
        let inner = match_inner o c n x y a ex ox oy ex' lt b.0 in
        let same : a ≡ inner.0 = grind (arith, inner.1) in
        omega (arith, inner.2)
