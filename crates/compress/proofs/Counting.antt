-- How many units remain before a position.
use Rattle.std.specs.Prelude.{ℕ, zero, suc, ◌+◌, ◌-◌, ◌<◌, ◌≤◌, ◌≡◌, true, false, not, cond, List, ◌∷◌, length, drop, slice_index_or}
use Rattle.std.proofs.Common.{arith, ap, sym, ◌∙◌, inl, inr}
use Rattle.std.proofs.lemmas.Bool.{cases_lt, cond-true, cond-false}
use Rattle.std.proofs.lemmas.List.{drop_more, drop_all}
use Rattle.std.proofs.lemmas.List.Filters.{length-filter_more}
use Rattle.units.specs.Classes.{is_removed}
use Rattle.units.specs.Layout.{no_unit}
use Rattle.units.specs.declared.bracket.Unit.{Unit as BidiUnit}
use Rattle.compress.specs.Laid.{remaining_before, IsNextAt}
use Rattle.compress.specs.Remaining.{stays, remaining_units}
use Rattle.compress.specs.Squeeze.{first_unit}

abbrev pub at : List BidiUnit → ℕ → BidiUnit
at us p = slice_index_or us p no_unit

pub remaining_chosen : (us : List BidiUnit) (p : ℕ) → p < length us → is_removed (at us p).class ≡ false →
    remaining_before us (p + 1) ≡ remaining_before us p + 1
remaining_chosen us p lt f =
    length-filter_more stays us p no_unit lt ∙ ap (λ b. remaining_before us p + cond (not b) 1 0) f

pub remaining_removed : (us : List BidiUnit) (p : ℕ) → p < length us → is_removed (at us p).class ≡ true →
    remaining_before us (p + 1) ≡ remaining_before us p
remaining_removed us p lt t =
    let z : remaining_before us p + 0 ≡ remaining_before us p = omega arith in
    length-filter_more stays us p no_unit lt ∙ ap (λ b. remaining_before us p + cond (not b) 1 0) t ∙ z

one_more : (us : List BidiUnit) (p : ℕ) → p < length us → remaining_before us p ≤ remaining_before us (p + 1)
one_more us p lt = let e = length-filter_more stays us p no_unit lt in omega arith

pub remaining_rises : (us : List BidiUnit) (s n : ℕ) → s + n ≤ length us → remaining_before us s ≤ remaining_before us (s + n)
remaining_rises us s zero le = let z : s + 0 ≡ s = omega arith in let e = ap (remaining_before us) z in omega arith
remaining_rises us s (suc n) le =
    let h = remaining_rises us s n (omega arith) in
    let g = one_more us (s + n) (omega arith) in
    let e : s + n + 1 ≡ s + suc n = omega arith in
    let f = ap (remaining_before us) e in
    omega arith

-- a position that is given instead of a number of positions
pub remaining_up_to : (us : List BidiUnit) (s e : ℕ) → s ≤ e → e ≤ length us → remaining_before us s ≤ remaining_before us e
remaining_up_to us s e le within =
    let n : s + (e - s) ≡ e = omega arith in
    let h = remaining_rises us s (e - s) (omega arith) in
    let f = ap (remaining_before us) n in
    omega arith

all_removed : (us : List BidiUnit) (s n : ℕ) → s + n ≤ length us → ((p : ℕ) → s ≤ p → p < s + n → is_removed (at us p).class ≡ true) →
    (remaining_before us (s + n) ≡ remaining_before us s) × (remaining_units (drop (s + n) us) ≡ remaining_units (drop s us))
all_removed us s zero le h = let z : s + 0 ≡ s = omega arith in (ap (remaining_before us) z, ap (λ p. remaining_units (drop p us)) z)
all_removed us s (suc n) le h =
    let before = all_removed us s n (omega arith) (λ p a b. h p a (omega arith)) in
    let inside : s + n < length us = omega arith in
    let e : s + suc n ≡ s + n + 1 = omega arith in
    let t : is_removed (at us (s + n)).class ≡ true = h (s + n) (omega arith) (omega arith) in
    let f : stays (at us (s + n)) ≡ false = ap not t in
    let tail : List BidiUnit = remaining_units (drop (s + n + 1) us) in (
      ap (remaining_before us) e ∙ remaining_removed us (s + n) inside t ∙ before.0,
      ap (λ p. remaining_units (drop p us)) e
          ∙ sym (ap remaining_units (drop_more us (s + n) no_unit inside) ∙ cond-false (stays (at us (s + n))) (at us (s + n) ∷ tail) tail f)
          ∙ before.1,
    )

pub removed_between : (us : List BidiUnit) (s e : ℕ) → s ≤ e → e ≤ length us → ((p : ℕ) → s ≤ p → p < e → is_removed (at us p).class ≡ true) →
    (remaining_before us e ≡ remaining_before us s) × (remaining_units (drop e us) ≡ remaining_units (drop s us))
removed_between us s e le within h =
    let n : s + (e - s) ≡ e = omega arith in
    let all = all_removed us s (e - s) (omega arith) (λ p a b. h p a (omega arith)) in
    (sym (ap (remaining_before us) n) ∙ all.0, sym (ap (λ p. remaining_units (drop p us)) n) ∙ all.1)

-- the units that remain from a position on that does
pub remaining_here : (us : List BidiUnit) (p : ℕ) → p < length us → is_removed (at us p).class ≡ false →
    remaining_units (drop p us) ≡ at us p ∷ remaining_units (drop (p + 1) us)
remaining_here us p lt f =
    let tail : List BidiUnit = remaining_units (drop (p + 1) us) in
    ap remaining_units (drop_more us p no_unit lt) ∙ cond-true (stays (at us p)) (at us p ∷ tail) tail (ap not f)

-- the first that remains, if it is at this position or there is none
pub first_remaining : (us : List BidiUnit) (p : ℕ) → p ≤ length us → (p < length us → is_removed (at us p).class ≡ false) →
    first_unit (remaining_units (drop p us)) ≡ first_unit (drop p us)
first_remaining us p le h =
    elim (cases_lt p (length us)) [
      | inl lt ↦ ap first_unit (remaining_here us p lt (h lt)) ∙ sym (ap first_unit (drop_more us p no_unit lt))
      | inr ge ↦ ap (λ ds. first_unit (remaining_units ds)) (drop_all p us ge) ∙ sym (ap first_unit (drop_all p us ge))
    ]

pub next_at : (us : List BidiUnit) (p end : ℕ) → p < length us → is_removed (at us p).class ≡ false → p + 1 ≤ end → end ≤ length us →
    ((q : ℕ) → p + 1 ≤ q → q < end → is_removed (at us q).class ≡ true) → IsNextAt us p end
next_at us p end lt f later within h = record {
  later = omega arith;
  within = within;
  only = (removed_between us (p + 1) end later within h).0 ∙ remaining_chosen us p lt f;
}
