-- Items that are written part by part, with a blank between each two.
use Rattle.std.specs.Prelude.{ℕ, Bool, true, false, List, [], ◌∷◌}
use Rattle.rows.specs.RowTexts.{after_blanks, between_blanks}

-- a part of the items: each after a blank if earlier items were written, or else with a blank between each two
abbrev pub after_or_between : {A : Type 0} → Bool → (A → List ℕ) → List A → List ℕ
after_or_between true text items = after_blanks text items
after_or_between false text items = between_blanks text items

-- there is an item
abbrev pub has_some : {A : Type 0} → List A → Bool
has_some [] = false
has_some (x ∷ xs) = true
