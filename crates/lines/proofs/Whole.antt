-- The order of a line of one level from which nothing was removed.
use Rattle.std.proofs.Common.{◌≡◌, ℕ, ◌+◌, ◌-◌, ◌<◌, ◌≤◌, ◌⊎◌, Bool, true, Option, None, List, length, zero, suc, refl, sym, ap, ◌∙◌, inl, inr, arith}
use Rattle.std.specs.Prelude.{filter, reverse, slice_index_or, slice_range}
use Rattle.std.specs.Option.{is_some}
use Rattle.std.proofs.lemmas.List.Edits.{get_or-between, length-between}
use Rattle.units.specs.Isolates.{level_of_para}
use Rattle.units.specs.Positions.{positions_from}
use Rattle.units.specs.Reordering.{line_order}
use Rattle.units.specs.declared.level.ParaLevel.{ParaLevel}
use Rattle.units.specs.declared.level.ParaLevel.TheVariants.{Zero, One}
use Rattle.lines.specs.AllRemaining.{AllRemain}
use Rattle.lines.specs.LinePositions.{IsAtOneLevel, is_remaining, remaining}
use Rattle.lines.proofs.Uniform.{uniform-falling, uniform-rising}

filter-all : (test : ℕ → Bool) (start count : ℕ) → ((p : ℕ) → start ≤ p → p < start + count → test p ≡ true) →
    filter test (positions_from start count) ≡ positions_from start count
filter-all test start zero all = refl
filter-all test start (suc count) all = grind (arith, filter-all test (start + 1) count)

pub all_in_line : (levels : List (Option ℕ)) (start end : ℕ) → end ≤ length levels →
    ((k : ℕ) → k < length (slice_range levels start end) →
    is_some (slice_index_or (slice_range levels start end) k None) ≡ true) → AllRemain levels start end
all_in_line levels start end within all =
    record {
      here = λ p low high.
          let e : start + (p - start) ≡ p = omega arith in
          let long = length-between levels start end within in
          ap (λ n. is_some (slice_index_or levels n None)) (sym e)
          ∙ ap is_some (sym (get_or-between levels start end (p - start) None (omega arith)))
          ∙ all (p - start) (omega (arith, long));
    }

pub remaining-all : (levels : List (Option ℕ)) (start end : ℕ) → start ≤ end → AllRemain levels start end →
    remaining levels start end ≡ positions_from start (end - start)
remaining-all levels start end le all =
    filter-all (is_remaining levels) start (end - start) (λ p low high. all.here p low (omega arith))

zero_or_one : (level : ParaLevel) → (level_of_para level ≡ 0) ⊎ (level_of_para level ≡ 1)
zero_or_one Zero = inl refl
zero_or_one One = inr refl

-- all positions, rising at level 0 and falling at level 1
pub whole-order : (levels : List (Option ℕ)) (start end : ℕ) (level : ParaLevel) (written : List ℕ) → start ≤ end →
    IsAtOneLevel levels start end (level_of_para level) → AllRemain levels start end →
    (level_of_para level ≡ 0 → written ≡ positions_from start (end - start)) →
    (level_of_para level ≡ 1 → written ≡ reverse (positions_from start (end - start))) →
    written ≡ line_order levels start end
whole-order levels start end level written le u all even odd =
    grind (arith, zero_or_one, remaining-all, uniform-rising, uniform-falling)
