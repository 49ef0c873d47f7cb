-- Levels that are written as bytes, a block of them at once.
use Rattle.std.proofs.Common.{arith, ap, sym, ◌∙◌, ◌≡◌, ◌+◌, ◌<◌, ◌≤◌, ◌++◌, ℕ, Option, None, List, [], ◌∷◌, drop, get_or, length, map, take}
use Rattle.std.specs.Prelude.{slice_set}
use Rattle.std.proofs.Math.Seq.{take-add}
use Rattle.std.proofs.lemmas.List.{drop-drop, drop_at, get_or-drop, length-take-le, map-append, take-append-le, take_all, take_more, take_more_set}
use Rattle.for_c.specs.LevelBytes.{level_byte}

-- one byte more of the block is that of its level
pub byte_more : (levels : List (Option ℕ)) (k j : ℕ) (bytes : List ℕ) (byte : ℕ) → j < length bytes →
    j < length (drop k levels) → take j bytes ≡ map level_byte (take j (drop k levels)) →
    byte ≡ level_byte (get_or levels (k + j) None) →
    take (j + 1) (slice_set bytes j byte) ≡ map level_byte (take (j + 1) (drop k levels))
byte_more levels k j bytes byte room inside before is =
    let level : Option ℕ = get_or (drop k levels) j None in
    let byte_is : byte ≡ level_byte level = is ∙ ap level_byte (sym (get_or-drop k levels j None)) in
    take_more_set bytes j byte room
    ∙ ap (λ (bs : List ℕ). bs ++ byte ∷ []) before
    ∙ ap (λ (b : ℕ). map level_byte (take j (drop k levels)) ++ b ∷ []) byte_is
    ∙ sym (map-append level_byte (take j (drop k levels)) (level ∷ []))
    ∙ ap (map level_byte) (sym (take_more (drop k levels) j None inside))

module _ (levels : List (Option ℕ)) (k n : ℕ) (out block rest : List ℕ) (fits : k ≤ length out)
    (size : length block ≡ n) where
  -- with the block, so many levels more are written
  pub block_written : take k out ≡ map level_byte (take k levels) →
      block ≡ map level_byte (take n (drop k levels)) →
      take (k + n) (take k out ++ (block ++ rest)) ≡ map level_byte (take (k + n) levels)
  block_written before is =
      let long : length (take k out) ≡ k = length-take-le k out fits in
      take-add k n (take k out ++ (block ++ rest))
      ∙ ap (λ (bs : List ℕ). bs ++ take n (drop k (take k out ++ (block ++ rest))))
      (take-append-le k (take k out) (block ++ rest) (omega (arith, long)) ∙ take_all k (take k out) (omega (arith, long)))
      ∙ ap (λ (bs : List ℕ). take k out ++ take n bs) (drop_at (take k out) (block ++ rest) k long)
      ∙ ap (λ (bs : List ℕ). take k out ++ bs)
      (take-append-le n block rest (omega (arith, size)) ∙ take_all n block (omega (arith, size)))
      ∙ ap (λ (bs : List ℕ). bs ++ block) before
      ∙ ap (λ (bs : List ℕ). map level_byte (take k levels) ++ bs) is
      ∙ sym (map-append level_byte (take k levels) (take n (drop k levels)))
      ∙ ap (map level_byte) (sym (take-add k n levels))

  -- what follows it is unchanged
  pub rest_unchanged : drop (k + n) (take k out ++ (block ++ rest)) ≡ rest
  rest_unchanged =
      sym (drop-drop n k (take k out ++ (block ++ rest)))
      ∙ ap (drop n) (drop_at (take k out) (block ++ rest) k (length-take-le k out fits))
      ∙ drop_at block rest n size

-- what follows the first k items is unchanged, so what follows n more is too
pub later_unchanged : (k n : ℕ) (old new : List ℕ) → drop k new ≡ drop k old → drop (k + n) new ≡ drop (k + n) old
later_unchanged k n old new same = sym (drop-drop n k new) ∙ ap (drop n) same ∙ drop-drop n k old
