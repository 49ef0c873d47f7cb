-- The end of the next line, from the end of its paragraph and the breaks that have been passed.
use Rattle.std.proofs.Common.{◌≡◌, ℕ, ◌+◌, ◌-◌, ◌<◌, ◌≤◌, Bool, true, false, cond, List, length, refl, sym, ap, ◌∙◌, subst, inl, inr, arith, ne_eqb}
use Rattle.std.specs.Prelude.{◌||◌, ◌==◌, slice_index}
use Rattle.std.proofs.lemmas.Bool.{cases_lt, eqb-true, eqb-false, or_from, or_left, or_right}
use Rattle.units.specs.declared.class.Class.{Class}
use Rattle.units.specs.Classes.{class_at, is_separator}
use Rattle.units.specs.Reordering.{begins_line, is_break}
use Rattle.lines.specs.LineBreaks.{AreBreaks}
use Rattle.lines.specs.LineEnds.{BreaksArePassed, EndsLineAt, IsParagraphAt}
use Rattle.lines.proofs.BreakAt.{is_break_at, is_break_none, rising_le}

-- at the start of the text no break has been passed
pub passed_none : (at : List ℕ) (len : ℕ) → AreBreaks at len → BreaksArePassed at 0 0
passed_none at len breaks = record {
  following = λ k h some. absurd (omega arith);
  ahead = λ h. let i =
      breaks.inside 0 h in i.after_start;
}

-- the limit is the next break, or the end of the text
pub record IsLimit (at : List ℕ) (passed len limit : ℕ) : Type 0 where
  pub coming : passed < length at → limit ≡ slice_index at passed
  pub last : length at ≤ passed → limit ≡ len

-- the limit is after the position
pub limit_above : (at : List ℕ) (passed len start limit : ℕ) → BreaksArePassed at passed start → start < len →
    IsLimit at passed len limit → start < limit
limit_above at passed len start limit q below l = grind arith

-- there is no break between the last one that has been passed and the next one
no_break : (at : List ℕ) (passed start len limit p : ℕ) → AreBreaks at len → BreaksArePassed at passed start →
    IsLimit at passed len limit → start < p → p < limit → is_break at p ≡ false
no_break at passed start len limit p breaks q l low high =
    is_break_none at p (λ k h e. elim (cases_lt k passed) [
      | inl below ↦ let b = q.following k below h in omega arith
      | inr above ↦
          let some : passed < length at = omega arith in
          let there : passed + (k - passed) ≡ k = omega arith in
          let le : slice_index at passed ≤ slice_index at k =
          subst (λ m. slice_index at passed ≤ slice_index at m) there (rising_le at len passed (k - passed) breaks
          (omega arith)) in
          let c = l.coming some in
          omega arith
    ])

pub begins_later : (own : List Class) (at : List ℕ) (p : ℕ) → 0 < p →
    begins_line own at p ≡ (is_separator (class_at own (p - 1)) || is_break at p)
begins_later own at p h = ap (λ t. t || is_separator (class_at own (p - 1)) || is_break at p) (ne_eqb p 0 (omega arith))

-- the line ends where the next one begins
pub ends_line : (own : List Class) (at : List ℕ) (passed first start limit stop end : ℕ) → AreBreaks at (length own) →
    BreaksArePassed at passed start → IsLimit at passed (length own) limit → IsParagraphAt own first stop →
    first ≤ start → start < end → end ≤ limit → end ≤ stop → (end < limit → end ≡ stop) →
    EndsLineAt (begins_line own at) start end (length own)
ends_line own at passed first start limit stop end breaks q l paragraph from above within inside short =
    record {
      above = above;
      within = omega (arith, paragraph.within);
      none = λ p low high.
          begins_later own at p (omega arith)
          ∙ or_from (is_separator (class_at own (p - 1))) (is_break at p)
          (paragraph.joined p (omega arith) (omega arith))
          (no_break at passed start (length own) limit p breaks q l low (omega arith));
      here = λ h.
          begins_later own at end (omega arith)
          ∙ elim (cases_lt end limit) [
            | inl below ↦
                let same : end ≡ stop = short below in
                or_left (is_separator (class_at own (end - 1))) (is_break at end)
                (ap (λ n. is_separator (class_at own (n - 1))) same ∙ paragraph.closed (omega arith))
            | inr past ↦
                let same : limit ≡ end = omega arith in
                elim (cases_lt passed (length at)) [
                  | inl some ↦ or_right (is_separator (class_at own (end - 1))) (is_break at end)
                      (is_break_at at passed end some (sym (l.coming some) ∙ same))
                  | inr none ↦ absurd (let c = l.last none in omega arith)
                ]
          ];
    }

passed_if : (at : List ℕ) (len passed start limit end : ℕ) (reached : Bool) → AreBreaks at len →
    BreaksArePassed at passed start → IsLimit at passed len limit → start < end → end ≤ limit →
    (end == limit) ≡ reached → BreaksArePassed at (passed + cond reached 1 0) end
passed_if at len passed start limit end true breaks q l above within is = grind (arith, eqb-true)
passed_if at len passed start limit end false breaks q l above within is = grind (arith, eqb-false)

-- the breaks that have been passed at the end of the line
pub passed_on : (at : List ℕ) (len passed passed2 start limit end : ℕ) → AreBreaks at len →
    BreaksArePassed at passed start → IsLimit at passed len limit → start < end → end ≤ limit →
    passed2 ≡ passed + cond (end == limit) 1 0 → BreaksArePassed at passed2 end
passed_on at len passed passed2 start limit end breaks q l above within count =
    subst (λ m. BreaksArePassed at m end) (sym count)
    (passed_if at len passed start limit end (end == limit) breaks q l above within refl)
