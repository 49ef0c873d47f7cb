-- A value for each code point in two stages: the number of its block of 128 values, and the values of the blocks.
use Rattle.std.specs.Prelude.{◌≡◌, ◌<◌, ◌≤◌, ◌+◌, ◌*◌, ◌/◌, ◌%◌, ℕ, if◌then◌else◌, List, [], ◌∷◌, length, slice_index_or, All}
use Rattle.ucdfiles.specs.declared.span.Span.{Span}
use Rattle.ucdfiles.specs.Spans.{holds}

-- the value of a code point after a span is laid over it
abbrev pub value_over : {V : Type 0} → ℕ → Span V → V → V
value_over c span v = if holds c span then span.value else v

-- the same of several spans, one after the other
abbrev pub value_over_all : {V : Type 0} → ℕ → List (Span V) → V → V
value_over_all c [] v = v
value_over_all c (span ∷ spans) v = value_over_all c spans (value_over c span v)

-- the values from a code point on are the previous ones, each changed by this function
abbrev pub IsPainted : {V : Type 0} → ℕ → (ℕ → V → V) → List V → List V → Type 0
IsPainted {V} first change old new =
    (k : ℕ) (d : V) → k < length old → slice_index_or new k d ≡ change (first + k) (slice_index_or old k d)

-- the numbers of the blocks, and the values of the blocks one after the other
pub record Stages (V : Type 0) : Type 0 where
  pub numbers : List ℕ
  pub values : List V

-- the value of a code point
abbrev pub stage_at : {V : Type 0} → Stages V → ℕ → V → V
stage_at stages c none = slice_index_or stages.values (slice_index_or stages.numbers (c / 128) 0 * 128 + c % 128) none

-- the greatest number of blocks: as many as two bytes can number
abbrev pub most_blocks : ℕ
most_blocks = 65536

-- each block of code points has a number, and each number a block of values
pub record AreStages {V : Type 0} (stages : Stages V) : Type 0 where
  pub blocks : length stages.numbers ≡ 8704
  pub within : All (λ p. p * 128 + 128 ≤ length stages.values) stages.numbers

-- the block with a number has these values
abbrev pub HasBlock : {V : Type 0} → List V → ℕ → List V → Type 0
HasBlock {V} values number block = (k : ℕ) (d : V) → k < 128 →
    slice_index_or values (number * 128 + k) d ≡ slice_index_or block k d
