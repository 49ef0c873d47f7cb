-- The index of a position in a sequence.
use Rattle.std.specs.Prelude.{ℕ, ◌+◌, ◌==◌, if◌then◌else◌, List, [], ◌∷◌}

-- the index of a position among these, or their number if it is none of them
abbrev pub index_of : List ℕ → ℕ → ℕ
index_of [] p = 0
index_of (q ∷ ps) p = if q == p then 0 else index_of ps p + 1
