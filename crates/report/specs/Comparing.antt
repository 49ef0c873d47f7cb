-- The rest of an expected order while it is compared.
use Rattle.std.specs.Prelude.{◌≡◌, ℕ, ◌+◌, List, ◌++◌, length, nat_eq}
use Rattle.bidtests.specs.Verdicts.{first_difference}
use Rattle.report.specs.declared.read_order.ReadOrder.{ReadOrder}
use Rattle.report.specs.ReadExpected.{order_read}

-- the positions that remain to be read
abbrev pub remaining_order : ReadOrder → List ℕ
remaining_order claimed = order_read claimed.compared claimed.levels.now claimed.order.now

-- the order of a line is the front of the rest: the search for the first difference goes on after both
pub record PassesLine (line before after : List ℕ) : Type 0 where
  pub fits : length before ≡ length line + length after
  pub search : (more : List ℕ) (at : ℕ)
      → first_difference nat_eq before (line ++ more) at ≡ first_difference nat_eq after more (at + length line)
