-- Whether a break is at a position, for rising breaks.
use Rattle.std.proofs.Common.{◌≡◌, ◌≢◌, ℕ, ◌+◌, ◌<◌, ◌≤◌, true, false, List, [], ◌∷◌, length, zero, suc, refl, ap, ◌∙◌, subst, arith, eq-eqb, ne_eqb}
use Rattle.std.specs.Prelude.{◌||◌, ◌==◌, slice_index}
use Rattle.std.proofs.lemmas.Bool.{or_right}
use Rattle.lines.specs.LineBreaks.{AreBreaks}
use Rattle.units.specs.Reordering.{is_break}

pub is_break_at : (at : List ℕ) (k p : ℕ) → k < length at → slice_index at k ≡ p → is_break at p ≡ true
is_break_at [] k p h e = absurd (omega arith)
is_break_at (b ∷ at) zero p h e = ap (λ t. t || is_break at p) (eq-eqb b p e)
is_break_at (b ∷ at) (suc k) p h e =
    or_right (b == p) (is_break at p) (is_break_at at k p (omega arith) e)

pub is_break_none : (at : List ℕ) (p : ℕ) → ((k : ℕ) → k < length at → slice_index at k ≢ p) → is_break at p ≡ false
is_break_none [] p none = refl
is_break_none (b ∷ at) p none =
    ap (λ t. t || is_break at p) (ne_eqb b p (none 0 (omega arith))) ∙
    is_break_none at p (λ k h. none (suc k) (omega arith))

pub rising_le : (at : List ℕ) (len j d : ℕ) → AreBreaks at len → j + d < length at →
    slice_index at j ≤ slice_index at (j + d)
rising_le at len j zero breaks h = let e : j ≡ j + 0 = omega arith in
    subst (λ n. slice_index at j ≤ slice_index at n) e (omega arith)
rising_le at len j (suc d) breaks h = grind (arith, rising_le at len j d breaks)
