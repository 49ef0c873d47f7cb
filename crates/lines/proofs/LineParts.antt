-- A line of one level, written part by part.
use Rattle.std.proofs.Common.{◌≡◌, ℕ, ◌+◌, ◌-◌, ◌<◌, ◌≤◌, ◌%◌, ◌⊎◌, ◌++◌, min, Bool, Option, List, [], ◌∷◌, zero, suc, inl, inr, refl, sym, ap, ◌∙◌, arith}
use Rattle.std.specs.Prelude.{filter, reverse}
use Rattle.std.proofs.lemmas.Bool.{cases_Bool, cases_lt}
use Rattle.std.proofs.lemmas.List.{reverse-append}
use Rattle.std.proofs.lemmas.List.Elements.{filter-append}
use Rattle.units.specs.Isolates.{level_of_para}
use Rattle.units.specs.Positions.{positions_from}
use Rattle.units.specs.Reordering.{line_order}
use Rattle.units.specs.declared.level.ParaLevel.{ParaLevel}
use Rattle.units.specs.declared.level.ParaLevel.TheVariants.{Zero, One}
use Rattle.lines.specs.LinePositions.{IsAtOneLevel, is_remaining, remaining}
use Rattle.lines.specs.StepBounds.{parts_of}
use Rattle.lines.proofs.Uniform.{uniform-falling, uniform-rising}

-- a part of the line has that level too
pub part_at : (levels : List (Option ℕ)) (start end from to level : ℕ) → start ≤ from → to ≤ end →
    IsAtOneLevel levels start end level → IsAtOneLevel levels from to level
part_at levels start end from to level low high at = record {
  same = λ p v above below is. at.same p v (omega arith) (omega arith) is;
}

positions_split : (start m n : ℕ) → positions_from start (m + n) ≡ positions_from start m ++ positions_from (start + m) n
positions_split start zero n =
    let e : start + 0 ≡ start = omega arith in
    let z : 0 + n ≡ n = omega arith in
    ap (positions_from start) z ∙ ap (λ k. positions_from k n) (sym e)
positions_split start (suc m) n =
    let e : start + 1 + m ≡ start + suc m = omega arith in
    let s : suc m + n ≡ suc (m + n) = omega arith in
    ap (positions_from start) s
    ∙ ap (λ r. start ∷ r) (positions_split (start + 1) m n ∙
    ap (λ k. positions_from (start + 1) m ++ positions_from k n) e)

-- the remaining positions of two parts that follow one another
pub remaining_split : (levels : List (Option ℕ)) (start middle end : ℕ) → start ≤ middle → middle ≤ end →
    remaining levels start end ≡ remaining levels start middle ++ remaining levels middle end
remaining_split levels start middle end low high =
    let count : end - start ≡ (middle - start) + (end - middle) = omega arith in
    let from : start + (middle - start) ≡ middle = omega arith in
    ap (λ n. filter (is_remaining levels) (positions_from start n)) count
    ∙ ap (filter (is_remaining levels)) (positions_split start (middle - start) (end - middle) ∙
    ap (λ k. positions_from start (middle - start) ++ positions_from k (end - middle)) from)
    ∙ filter-append (is_remaining levels) (positions_from start (middle - start)) (positions_from middle (end - middle))

-- rising, with the next part
pub rising_more : (levels : List (Option ℕ)) (start end position next : ℕ) (before after : List ℕ) →
    start ≤ position → position ≤ next → next ≤ end → IsAtOneLevel levels start end 0 →
    before ≡ remaining levels start position → after ≡ before ++ line_order levels position next →
    after ≡ remaining levels start next
rising_more levels start end position next before after low forward high at is more =
    more
    ∙ ap (λ xs. xs ++ line_order levels position next) is
    ∙ ap (λ xs. remaining levels start position ++ xs)
    (uniform-rising levels position next 0 forward refl (part_at levels start end position next 0 low high at))
    ∙ sym (remaining_split levels start position next low forward)

-- falling, with the part before
pub falling_more : (levels : List (Option ℕ)) (start end position next : ℕ) (before after : List ℕ) →
    start ≤ next → next ≤ position → position ≤ end → IsAtOneLevel levels start end 1 →
    before ≡ reverse (remaining levels position end) → after ≡ before ++ line_order levels next position →
    after ≡ reverse (remaining levels next end)
falling_more levels start end position next before after low forward high at is more =
    more
    ∙ ap (λ xs. xs ++ line_order levels next position) is
    ∙ ap (λ xs. reverse (remaining levels position end) ++ xs)
    (uniform-falling levels next position 1 forward refl (part_at levels start end next position 1 low high at))
    ∙ sym (reverse-append (remaining levels next position) (remaining levels position end))
    ∙ ap reverse (sym (remaining_split levels next position end forward high))

-- the positions that are done are all, or those of whole parts
abbrev pub AreParts : ℕ → ℕ → Type 0
AreParts done all = (done ≡ all) ⊎ (done % 128 ≡ 0)

-- with one more part
pub next_part : (done all size : ℕ) → done < all → size ≡ min 128 (all - done) → AreParts done all →
    AreParts (done + size) all × (parts_of (done + size) ≡ parts_of done + 1)
next_part done all size more is parts =
    let whole : done % 128 ≡ 0 = elim parts [ inl e ↦ absurd (omega (arith, e)) | inr h ↦ h ] in (
      elim (cases_lt (all - done) 128) [ inl last ↦ inl (omega arith) | inr full ↦ inr (omega arith) ],
      omega arith,
    )

-- one position is its own order, rising and falling
reversed_one : (test : ℕ → Bool) (position : ℕ) → reverse (filter test (position ∷ [])) ≡ filter test (position ∷ [])
reversed_one test position = elim (cases_Bool (test position)) [
  | inl stays ↦ rw stays refl
  | inr gone ↦ rw gone refl
]

pub order_of_one : (levels : List (Option ℕ)) (start end : ℕ) (level : ParaLevel) → start ≤ end → end - start ≡ 1 →
    IsAtOneLevel levels start end (level_of_para level) → remaining levels start end ≡ line_order levels start end
order_of_one levels start end Zero le one at = sym (uniform-rising levels start end 0 le refl at)
order_of_one levels start end One le one at =
    ap (λ n. filter (is_remaining levels) (positions_from start n)) one
    ∙ sym (reversed_one (is_remaining levels) start)
    ∙ ap (λ n. reverse (filter (is_remaining levels) (positions_from start n))) (sym one)
    ∙ sym (uniform-falling levels start end 1 le refl at)
