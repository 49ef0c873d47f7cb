-- Items with a blank between each two, read back.
use Rattle.std.proofs.Common.{◌≡◌, ℕ, ◌+◌, ◌*◌, ◌≤◌, List, [], ◌∷◌, ◌++◌, length, map, get_or, refl, arith}
use Rattle.std.specs.List.{All}
use Rattle.std.proofs.lemmas.List.{length-append}
use Rattle.std.proofs.lemmas.List.Elements.{All-nil, All-head, All-tail, All-append, All-weaker}
use Rattle.units.specs.Text.{items_of, trimmed}
use Rattle.rows.specs.RowTexts.{after_blanks, between_blanks}
use Rattle.rows.proofs.Contents.{trimmed-whole}
use Rattle.rows.proofs.Items.{IsItem, IsItemByte, items-first, no-blank}
use Rattle.rows.proofs.LineTexts.{EndsPlain, IsFieldByte, following-fields, ends-following, ends-item, field-item, length-following}

-- the first byte of bytes that begin with an item
pub first-byte : (w rest : List ℕ) → IsItem w → IsItemByte (get_or (w ++ rest) 0 0)
first-byte [] rest item = absurd (omega (arith, item.some))
first-byte (b ∷ w) rest item = item.bytes 0 0 (omega arith)

-- a field that is read completely
pub record IsField (bs : List ℕ) : Type 0 where
  pub bytes : All IsFieldByte bs
  pub trim : trimmed bs ≡ bs

pub item-field : (bs : List ℕ) → IsItem bs → IsField bs
item-field bs item =
    let ends = ends-item bs item in
    record {
      bytes = All-weaker IsItemByte IsFieldByte field-item bs item.bytes;
      trim = trimmed-whole bs (record {
        some = ends.some;
        first = no-blank (get_or bs 0 0) (item.bytes 0 0 ends.some);
        last = ends.last;
      });
    }

module _ {A : Type 0} (text : A → List ℕ) where
  abbrev AreItems : List A → Type 0
  AreItems xs = All (λ x. IsItem (text x)) xs

  pub between-ends : (x : A) (xs : List A) → AreItems (x ∷ xs) → EndsPlain (between_blanks text (x ∷ xs))
  between-ends x xs items =
      ends-following text (text x) xs (ends-item (text x) (All-head (λ y. IsItem (text y)) x xs items))
      (All-tail (λ y. IsItem (text y)) x xs items)

  pub between-first : (x : A) (xs : List A) → AreItems (x ∷ xs) → IsItemByte (get_or (between_blanks text (x ∷ xs)) 0 0)
  between-first x xs items = first-byte (text x) (after_blanks text xs) (All-head (λ y. IsItem (text y)) x xs items)

  pub between-bytes : (xs : List A) → AreItems xs → All IsFieldByte (between_blanks text xs)
  between-bytes [] items = All-nil IsFieldByte
  between-bytes (x ∷ xs) items =
      let here : IsItem (text x) = All-head (λ y. IsItem (text y)) x xs items in
      All-append IsFieldByte (text x) (after_blanks text xs) (All-weaker IsItemByte IsFieldByte field-item
      (text x) here.bytes)
      (following-fields text xs (All-tail (λ y. IsItem (text y)) x xs items))

  between-trimmed : (xs : List A) → AreItems xs → trimmed (between_blanks text xs) ≡ between_blanks text xs
  between-trimmed [] items = refl
  between-trimmed (x ∷ xs) items =
      let ends = between-ends x xs items in
      let first = no-blank (get_or (between_blanks text (x ∷ xs)) 0 0) (between-first x xs items) in
      trimmed-whole (between_blanks text (x ∷ xs)) (record { some = ends.some; first = first; last = ends.last })

  pub between-field : (xs : List A) → AreItems xs → IsField (between_blanks text xs)
  between-field xs items = record { bytes = between-bytes xs items; trim = between-trimmed xs items }

  pub between-items : (xs : List A) → AreItems xs → items_of (between_blanks text xs) ≡ map text xs
  between-items [] items = refl
  between-items (x ∷ xs) items =
      items-first text (text x) xs (All-head (λ y. IsItem (text y)) x xs items)
      (All-tail (λ y. IsItem (text y)) x xs items)

  pub length-between : (most : ℕ) (xs : List A) → All (λ x. length (text x) ≤ most) xs →
      length (between_blanks text xs) ≤ length xs * (most + 1)
  length-between most [] few = omega arith
  length-between most (x ∷ xs) few =
      let here : length (text x) ≤ most = All-head (λ y. length (text y) ≤ most) x xs few in
      let rest = length-following text most xs (All-tail (λ y. length (text y) ≤ most) x xs few) in
      omega (arith, length-append (text x) (after_blanks text xs))
