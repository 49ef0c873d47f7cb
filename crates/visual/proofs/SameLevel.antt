-- Two positions of one level on a line, and the positions between them.
use Rattle.std.proofs.Common.{◌≡◌, ℕ, ◌<◌, ◌≤◌, ◌%◌, ◌≢◌, ◌⊎◌, Option, Some, None, List, zero, suc, sym, ap, ◌∙◌, inl, inr, arith}
use Rattle.std.specs.Prelude.{slice_index_or}
use Rattle.std.proofs.lemmas.Bool.{cases_lt}
use Rattle.units.specs.Reordering.{StandAs}
use Rattle.lines.specs.LinePositions.{HasLevel}
use Rattle.lines.proofs.Turns.{least}
use Rattle.lines.proofs.Least.{least-le, least-ge, least-attained, least-splits}
use Rattle.lines.proofs.LineOrder.{even_from_true, odd_from_false}

-- a is left of b, from the least level between them
pub record Left (levels : List (Option ℕ)) (a b : ℕ) : Type 0 where
  pub apart : a ≢ b
  pub rising : a < b → least levels a b % 2 ≡ 0
  pub falling : b < a → least levels b a % 2 ≡ 1

pub left_from_stand : (levels : List (Option ℕ)) (a b : ℕ) → StandAs levels a b → Left levels a b
left_from_stand levels a b t =
    record {
      apart = t.apart;
      rising = λ h. even_from_true levels a b (t.rising h);
      falling = λ h. odd_from_false levels b a (t.falling h);
    }

-- c is left of both or right of both
abbrev pub Outside : List (Option ℕ) → ℕ → ℕ → ℕ → Type 0
Outside levels x y c = (Left levels c x × Left levels c y) ⊎ (Left levels x c × Left levels y c)

pub level_same : (levels : List (Option ℕ)) (p q v w : ℕ) → p ≡ q → HasLevel levels p v → HasLevel levels q w → v ≡ w
level_same levels p q v w e h k =
    let t : Some v ≡ Some w = sym h ∙ ap (λ n. slice_index_or levels n None) e ∙ k in cc

-- then the least levels from c to the one and to the other differ in parity
outside_parity : (levels : List (Option ℕ)) (x y c : ℕ) → x < c → c < y → Outside levels x y c →
    least levels x c % 2 ≢ least levels c y % 2
outside_parity levels x y c a b o =
    elim o [
      | inl t ↦ let u : least levels x c % 2 ≡ 1 = t.0.falling a in let w : least levels c y % 2 ≡ 0 = t.1.rising b in
          omega arith
      | inr t ↦ let u : least levels x c % 2 ≡ 0 = t.0.rising a in let w : least levels c y % 2 ≡ 1 = t.1.falling b in
          omega arith
    ]

-- if each position of another level between two positions of one level is outside of both, no position between them is
pub none_outside : (levels : List (Option ℕ)) (x y c v w : ℕ) → HasLevel levels x v → HasLevel levels y v →
    HasLevel levels c w → x < c → c < y → Outside levels x y c → ((d u : ℕ) → x < d → d < y → HasLevel levels d u →
    u ≢ v → Outside levels x y d) → ⊥
none_outside levels x y c v w hx hy hc a b o others =
    let s = least-splits levels x c y v w (omega arith) (omega arith) hx hc in
    let n : least levels x c % 2 ≢ least levels c y % 2 = outside_parity levels x y c a b o in
    let lx : least levels x c ≤ v = least-le levels x c x v (omega arith) (omega arith) hx in
    let ly : least levels c y ≤ v = least-le levels c y y v (omega arith) (omega arith) hy in
    let ne : least levels x c ≢ least levels c y = λ e. n (ap (λ k. k % 2) e) in
    let below : least levels x y < v = omega (arith, s.left, s.right, lx, ly, ne) in
    let d = least-attained levels x y v (omega arith) hx in
    let dx : d.at ≢ x = λ e. let t : least levels x y ≡ v = level_same levels d.at x (least levels x y) v e d.is hx in
    omega arith in
    let dy : d.at ≢ y = λ e. let t : least levels x y ≡ v = level_same levels d.at y (least levels x y) v e d.is hy in
    omega arith in
    let xd : x < d.at = omega (arith, d.from, dx) in
    let dy2 : d.at < y = omega (arith, d.to, dy) in
    let t = least-splits levels x d.at y v (least levels x y) (omega arith) (omega arith) hx d.is in
    let p : least levels x d.at ≤ least levels x y =
    least-le levels x d.at d.at (least levels x y) (omega arith) (omega arith) d.is in
    let q : least levels d.at y ≤ least levels x y =
    least-le levels d.at y d.at (least levels x y) (omega arith) (omega arith) d.is in
    let e : least levels x d.at ≡ least levels d.at y = omega (arith, t.left, t.right, p, q) in
    (outside_parity levels x y d.at xd dy2 (others d.at (least levels x y) xd dy2 d.is (omega arith))
    (ap (λ k. k % 2) e))

-- if all remaining positions between two have their level, it is the least
pub least_of_one : (levels : List (Option ℕ)) (x y v : ℕ) → x < y → HasLevel levels x v →
    ((d u : ℕ) → x ≤ d → d ≤ y → HasLevel levels d u → u ≡ v) → least levels x y ≡ v
least_of_one levels x y v lt hx all =
    let a : least levels x y ≤ v = least-le levels x y x v (omega arith) (omega arith) hx in
    let b : v ≤ least levels x y = least-ge levels x y v v (omega arith) hx (λ c w l h k. let e : w ≡ v =
    all c w l h k in omega arith) in
    omega arith

-- no position remains between them
abbrev pub NoneBetween : List (Option ℕ) → ℕ → ℕ → Type 0
NoneBetween levels x y = (d u : ℕ) → x < d → d < y → HasLevel levels d u → ⊥

least_of_two : (levels : List (Option ℕ)) (x y v : ℕ) → x < y → HasLevel levels x v → HasLevel levels y v →
    NoneBetween levels x y → least levels x y ≡ v
least_of_two levels x y v lt hx hy none =
    least_of_one levels x y v lt hx (λ d u l h k. elim (cases_lt x d) [
      | inl xd ↦ elim (cases_lt d y) [
        | inl dy ↦ absurd (none d u xd dy k)
        | inr dy ↦ level_same levels d y u v (omega arith) k hy
      ]
      | inr xd ↦ level_same levels d x u v (omega arith) k hx
    ])

-- if no position remains between two positions of one level in the text, none is between them on the line; here the
-- earlier one is on the left
pub none_between_rising : (levels : List (Option ℕ)) (x y c v w : ℕ) → x < y → HasLevel levels x v →
    HasLevel levels y v → HasLevel levels c w → NoneBetween levels x y → Left levels x c → Left levels c y → ⊥
none_between_rising levels x y c v w lt hx hy hc none l r =
    let e : least levels x y ≡ v = least_of_two levels x y v lt hx hy none in
    elim (cases_lt c x) [
      | inl cx ↦
          let s = least-splits levels c x y w v (omega arith) (omega arith) hc hx in
          let m : least levels c x ≤ v = least-le levels c x x v (omega arith) (omega arith) hx in
          let q : least levels c y ≡ least levels c x = omega (arith, s.left, s.right, s.either, m, e) in
          let odd : least levels c x % 2 ≡ 1 = l.falling cx in
          let even : least levels c y % 2 ≡ 0 = r.rising (omega arith) in
          let z : zero ≡ suc zero = sym even ∙ ap (λ k. k % 2) q ∙ odd in omega arith
      | inr xc ↦ elim (cases_lt c y) [
        | inl cy ↦ none c w (omega (arith, l.apart)) cy hc
        | inr yc ↦
            let cy : y < c = omega (arith, r.apart) in
            let s = least-splits levels x y c v v (omega arith) (omega arith) hx hy in
            let m : least levels y c ≤ v = least-le levels y c y v (omega arith) (omega arith) hy in
            let q : least levels x c ≡ least levels y c = omega (arith, s.left, s.right, s.either, m, e) in
            let even : least levels x c % 2 ≡ 0 = l.rising (omega arith) in
            let odd : least levels y c % 2 ≡ 1 = r.falling cy in
            let z : zero ≡ suc zero = sym even ∙ ap (λ k. k % 2) q ∙ odd in omega arith
      ]
    ]

-- the same, with the later one on the left
pub none_between_falling : (levels : List (Option ℕ)) (x y c v w : ℕ) → y < x → HasLevel levels x v →
    HasLevel levels y v → HasLevel levels c w → NoneBetween levels y x → Left levels x c → Left levels c y → ⊥
none_between_falling levels x y c v w lt hx hy hc none l r =
    let e : least levels y x ≡ v = least_of_two levels y x v lt hy hx none in
    elim (cases_lt c y) [
      | inl cy ↦
          let s = least-splits levels c y x w v (omega arith) (omega arith) hc hy in
          let m : least levels c y ≤ v = least-le levels c y y v (omega arith) (omega arith) hy in
          let q : least levels c x ≡ least levels c y = omega (arith, s.left, s.right, s.either, m, e) in
          let odd : least levels c x % 2 ≡ 1 = l.falling (omega arith) in
          let even : least levels c y % 2 ≡ 0 = r.rising cy in
          let z : zero ≡ suc zero = sym even ∙ ap (λ k. k % 2) (sym q) ∙ odd in omega arith
      | inr yc ↦ elim (cases_lt c x) [
        | inl cx ↦ none c w (omega (arith, r.apart)) cx hc
        | inr xc ↦
            let cx : x < c = omega (arith, l.apart) in
            let s = least-splits levels y x c v v (omega arith) (omega arith) hy hx in
            let m : least levels x c ≤ v = least-le levels x c x v (omega arith) (omega arith) hx in
            let q : least levels y c ≡ least levels x c = omega (arith, s.left, s.right, s.either, m, e) in
            let even : least levels x c % 2 ≡ 0 = l.rising cx in
            let odd : least levels y c % 2 ≡ 1 = r.falling (omega arith) in
            let z : zero ≡ suc zero = sym even ∙ ap (λ k. k % 2) (sym q) ∙ odd in omega arith
      ]
    ]
