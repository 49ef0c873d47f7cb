-- What the searches for a position return.
use Rattle.std.proofs.Common.{◌≡◌, ℕ, zero, suc, ◌+◌, ◌<◌, ◌≤◌, Bool, true, false, cond, [], ◌∷◌, ◌++◌, length, get_or, Option, Some, None, refl, ap, ◌∙◌, arith}
use Rattle.std.proofs.lemmas.Bool.{ltb-true, lt-ltb}
use Rattle.units.specs.Positions.{positions_from, first_from, last_below, is_before, same_position}

-- the first position, or the second if the first is none
abbrev pub or_else : Option ℕ → Option ℕ → Option ℕ
or_else None b = b
or_else (Some a) b = Some a

-- one place more
pub first_from_more : (test : ℕ → Bool) (start count : ℕ) →
    first_from test start (suc count) ≡
    or_else (first_from test start count) (cond (test (start + count)) (Some (start + count)) None)
first_from_more test start zero = let e : start + 0 ≡ start = omega arith in rw e refl
first_from_more test start (suc count) = grind (arith, first_from_more test (start + 1) count)

-- the position passes the test and is in the range, and no position before it in the range passes
pub record IsFirst (test : ℕ → Bool) (start : ℕ) (count : ℕ) (at : ℕ) : Type 0 where
  pub from : start ≤ at
  pub within : at < start + count
  pub passes : test at ≡ true
  pub fails_before : (q : ℕ) → start ≤ q → q < at → test q ≡ false

pub first_from_some : (test : ℕ → Bool) (start count at : ℕ) → first_from test start count ≡ Some at →
    IsFirst test start count at
first_from_some test start zero at e = absurd (cc)
first_from_some test start (suc count) at e = grind (arith, first_from_some test (start + 1) count at)

pub first_from_none : (test : ℕ → Bool) (start count : ℕ) → first_from test start count ≡ None → (q : ℕ) → start ≤ q →
    q < start + count → test q ≡ false
first_from_none test start zero e q a b = absurd (omega arith)
first_from_none test start (suc count) e q a b = grind (arith, first_from_none test (start + 1) count)

-- these facts determine the position
pub first_from_is : (test : ℕ → Bool) (start count at : ℕ) → start ≤ at → at < start + count → test at ≡ true →
    ((q : ℕ) → start ≤ q → q < at → test q ≡ false) → first_from test start count ≡ Some at
first_from_is test start zero at a b holds before = absurd (omega arith)
first_from_is test start (suc count) at a b holds before = grind (arith, first_from_is test (start + 1) count at)

pub first_from_nowhere : (test : ℕ → Bool) (start count : ℕ) → ((q : ℕ) → start ≤ q → q < start + count →
    test q ≡ false) → first_from test start count ≡ None
first_from_nowhere test start zero h = refl
first_from_nowhere test start (suc count) h = grind (arith, first_from_nowhere test (start + 1) count)

-- the greatest below an end
pub record IsLast (test : ℕ → Bool) (end : ℕ) (at : ℕ) : Type 0 where
  pub within : at < end
  pub passes : test at ≡ true
  pub fails_after : (q : ℕ) → at < q → q < end → test q ≡ false

pub last_below_some : (test : ℕ → Bool) (end at : ℕ) → last_below test end ≡ Some at → IsLast test end at
last_below_some test zero at e = absurd (cc)
last_below_some test (suc end) at e = grind (arith, last_below_some test end at)

pub last_below_none : (test : ℕ → Bool) (end : ℕ) → last_below test end ≡ None → (q : ℕ) → q < end → test q ≡ false
last_below_none test zero e q b = absurd (omega arith)
last_below_none test (suc end) e q b = grind (arith, last_below_none test end)

pub last_below_is : (test : ℕ → Bool) (end at : ℕ) → at < end → test at ≡ true →
    ((q : ℕ) → at < q → q < end → test q ≡ false) → last_below test end ≡ Some at
last_below_is test zero at b holds after = absurd (omega arith)
last_below_is test (suc end) at b holds after = grind (arith, last_below_is test end at)

pub last_below_nowhere : (test : ℕ → Bool) (end : ℕ) → ((q : ℕ) → q < end → test q ≡ false) → last_below test end ≡ None
last_below_nowhere test zero h = refl
last_below_nowhere test (suc end) h = grind (arith, last_below_nowhere test end)

pub same_position_true : (a b : Option ℕ) → same_position a b ≡ true → a ≡ b
same_position_true None None e = refl
same_position_true None (Some b) e = absurd (cc)
same_position_true (Some a) None e = absurd (cc)
same_position_true (Some a) (Some b) e = ap Some (grind arith)

pub same_position_refl : (a : Option ℕ) → same_position a a ≡ true
same_position_refl None = refl
same_position_refl (Some a) = grind arith

-- what comes before an end at a position came before it at the position before
pub is_before-earlier : (y : ℕ) (o : Option ℕ) → is_before (suc y) o ≡ true → is_before y o ≡ true
is_before-earlier y None h = refl
is_before-earlier y (Some j) h = lt-ltb y j (let k : suc y < j = ltb-true (suc y) j h in omega arith)

-- the list of positions, one longer
pub positions_from-next : (start count : ℕ) → positions_from start (suc count) ≡ positions_from start count ++
    (start + count) ∷ []
positions_from-next start zero = ap (λ k. k ∷ []) (omega arith)
positions_from-next start (suc count) =
    ap (λ r. start ∷ r) (positions_from-next (start + 1) count ∙
    ap (λ k. positions_from (start + 1) count ++ k ∷ []) (omega arith))

-- its length and its elements
pub length-positions_from : (start count : ℕ) → length (positions_from start count) ≡ count
length-positions_from start zero = refl
length-positions_from start (suc count) = ap suc (length-positions_from (start + 1) count)

pub get_or-positions_from : (start count k d : ℕ) → k < count → get_or (positions_from start count) k d ≡ start + k
get_or-positions_from start zero k d h = absurd (omega arith)
get_or-positions_from start (suc count) zero d h = omega arith
get_or-positions_from start (suc count) (suc k) d h = let ih =
    get_or-positions_from (start + 1) count k d (omega arith) in omega (arith, ih)
