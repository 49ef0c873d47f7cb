-- Sources that fail after some bytes.
use Rattle.std.specs.Prelude.{ℕ, Bool, true, false, List}

-- the bytes that remain before the failure, and whether the source has failed
pub record CutSource : Type 0 where
  pub rest : List ℕ
  pub has_failed : Bool

-- how many failures there were
abbrev pub failures_when : Bool → ℕ
failures_when true = 1
failures_when false = 0
