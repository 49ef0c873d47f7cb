-- The properties of a paragraph after X1 to X9 that isolating run sequences need.
use Rattle.std.specs.Prelude.{ℕ, ◌<◌, ◌≤◌, ◌≡◌, length, Some, IfSome, IsTrue}
use Rattle.units.specs.Runs.{LeveledView, size_of, level_of, remains, matched_pdi}

-- X1 to X9 at every allowed depth: levels are up to 125, and a matching PDI comes after its initiator (BD9)
pub record IsLeveled (t : LeveledView) : Type 0 where
  pub classes_fit : length t.classes ≡ length t.levels
  pub partners_fit : length t.partners ≡ length t.levels
  pub base_within : t.base ≤ 1
  pub levels_within : (p : ℕ) → IfSome (level_of t p) (λ l. l ≤ 125)
  pub later : (p : ℕ) → IfSome (matched_pdi t p) (λ q. (p < q) × (q < size_of t))

-- isolates after X1 to X9: a matched initiator and its PDI are at one level, no other initiator has that PDI, and if
-- anything that remains between the two is at that level, then all of it is
pub record IsNested (t : LeveledView) : Type 0 where
  pub same_level : (i r : ℕ) → matched_pdi t i ≡ Some r → level_of t i ≡ level_of t r
  pub matched_once : (i j r : ℕ) → matched_pdi t i ≡ Some r → matched_pdi t j ≡ Some r → i ≡ j
  pub content : (i r p q : ℕ) → matched_pdi t i ≡ Some r → i < p → p < r → i < q → q < r →
      IsTrue (remains t p) → IsTrue (remains t q) → level_of t q ≡ level_of t i → level_of t p ≡ level_of t i
