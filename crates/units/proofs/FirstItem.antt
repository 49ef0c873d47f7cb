-- The first item of a list.
use Rattle.std.proofs.Common.{◌≡◌, ℕ, ◌+◌, ◌-◌, ◌<◌, true, false, List, [], ◌∷◌, length, get_or, take, drop, filter, refl, sym, ap, ◌∙◌, arith, None, Some, cond, one-add}
use Rattle.std.specs.List.{prefix_len}
use Rattle.std.proofs.lemmas.List.{length-take, nil_from_length}
use Rattle.std.proofs.lemmas.Bool.{false≢true}
use Rattle.std.proofs.lemmas.List.Splits.{slice_split-cons_yes}
use Rattle.memchr.specs.Find.{IsFirstByte}
use Rattle.units.specs.Text.{is_blank, has_bytes, items_of, without_blanks_before}
use Rattle.units.proofs.Cuts.{pieces-none, pieces-some}

trimmed-yes : (x : ℕ) (xs : List ℕ) → is_blank x ≡ true → without_blanks_before (x ∷ xs) ≡ without_blanks_before xs
trimmed-yes x xs e = ap (λ b. drop (cond b (1 + prefix_len is_blank xs) 0) (x ∷ xs)) e ∙
    ap (λ n. drop n (x ∷ xs)) (one-add (prefix_len is_blank xs))

trimmed-no : (x : ℕ) (xs : List ℕ) → is_blank x ≡ false → without_blanks_before (x ∷ xs) ≡ x ∷ xs
trimmed-no x xs e = ap (λ b. drop (cond b (1 + prefix_len is_blank xs) 0) (x ∷ xs)) e

-- blanks before the items change nothing
pub items-trimmed : (xs : List ℕ) → items_of (without_blanks_before xs) ≡ items_of xs
items-trimmed [] = refl
items-trimmed (x ∷ xs) = grind (arith, trimmed-yes, slice_split-cons_yes, trimmed-no, items-trimmed xs)

-- what is trimmed begins with no blank
pub trimmed-begins : (xs : List ℕ) → 0 < length (without_blanks_before xs) →
    is_blank (get_or (without_blanks_before xs) 0 0) ≡ false
trimmed-begins [] some = absurd (omega arith)
trimmed-begins (x ∷ xs) some = grind (arith, trimmed-yes, trimmed-no, trimmed-begins xs)

-- what is not empty has bytes
pub some_bytes : (xs : List ℕ) → 0 < length xs → has_bytes xs ≡ true
some_bytes [] h = absurd (omega arith)
some_bytes (x ∷ xs) h = refl

-- an item is first if no blank is before it
pub items-one : (field xs : List ℕ) → xs ≡ without_blanks_before field → 0 < length xs → IsFirstByte is_blank xs None →
    items_of field ≡ xs ∷ []
items-one field xs is some none =
    sym (items-trimmed field) ∙ ap items_of (sym is) ∙ ap (filter has_bytes) (pieces-none is_blank xs none) ∙
    rw (some_bytes xs some) refl

begins-late : (xs : List ℕ) (k : ℕ) → is_blank (get_or xs 0 0) ≡ false → is_blank (get_or xs k 0) ≡ true → 0 < k
begins-late xs k other blank = grind (arith, false≢true)

pub items-first : (field xs : List ℕ) (k : ℕ) → xs ≡ without_blanks_before field → 0 < length xs →
    IsFirstByte is_blank xs (Some k)
    → items_of field ≡ take k xs ∷ items_of (take (length xs - (k + 1)) (drop (k + 1) xs))
items-first field xs k is some first =
    grind (arith, trimmed-begins, begins-late, some_bytes, length-take, items-trimmed, pieces-some)

pub items-none : (field xs : List ℕ) → xs ≡ without_blanks_before field → length xs ≡ 0 → items_of field ≡ []
items-none field xs is none = sym (items-trimmed field) ∙ ap items_of (sym is ∙ nil_from_length xs none)
