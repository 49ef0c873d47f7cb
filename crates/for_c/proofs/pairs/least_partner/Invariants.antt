use Rattle.std.proofs.Common.{◌≡◌, ◌<◌, ℕ, false}
use Rattle.std.specs.Char.{IsScalar}
use Rattle.ucdfiles.specs.Tables.{bracket_by}
use Rattle.for_c.specs.Pairs.{are_paired}
use Rattle.for_c.proofs.pairs.least_partner.Given as goal

-- the bracket pairs with none of the characters before this one
abbrev pub invariant-loop-code : goal.invariant-loop-code
invariant-loop-code l = (k : ℕ) → k < l.code → IsScalar k →
    are_paired l.bracket (bracket_by l.tables.brackets k) ≡ false
