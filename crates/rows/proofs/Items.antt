-- Items after blanks, read back.
use Rattle.std.proofs.Common.{◌≡◌, ◌≢◌, ℕ, ◌<◌, ◌≤◌, Bool, true, false, List, [], ◌∷◌, ◌++◌, length, map, filter, Option, Some, refl, ap, ◌∙◌, arith, ne_eqb, append-nil, get_or}
use Rattle.std.specs.List.{All, list_all}
use Rattle.std.proofs.lemmas.Bool.{and_parts}
use Rattle.std.proofs.lemmas.List.Elements.{All-nil, All-cons, All-head, All-tail, All-weaker}
use Rattle.std.proofs.lemmas.List.Splits.{slice_split_at, slice_split_none}
use Rattle.units.specs.Text.{is_blank, has_bytes, items_of, each_read}
use Rattle.units.proofs.FirstItem.{some_bytes}
use Rattle.rows.specs.RowTexts.{after_blanks}

-- what is true of every value is true of all elements of a list
pub all-of-every : {A : Type 0} (P : A → Type 0) → ((x : A) → P x) → (xs : List A) → All P xs
all-of-every P each xs = λ k d lt. each (get_or xs k d)

-- what a test proves of each value is true of all elements that pass it
pub all-tested : {A : Type 0} (P : A → Type 0) (test : A → Bool) → ((x : A) → test x ≡ true → P x) → (xs : List A) →
    list_all test xs ≡ true → All P xs
all-tested P test says [] tests = All-nil P
all-tested P test says (x ∷ xs) tests =
    let both = and_parts (test x) (list_all test xs) tests in
    All-cons P x xs (says x both.0) (all-tested P test says xs both.1)

-- a byte of an item: it is above all blanks and `#`, and neither `;` nor `@`
pub record IsItemByte (b : ℕ) : Type 0 where
  pub above : 48 ≤ b
  pub within : b ≢ 59
  pub plain : b ≢ 64

-- an item: it has bytes, and only bytes of items
pub record IsItem (bs : List ℕ) : Type 0 where
  pub some : 0 < length bs
  pub bytes : All IsItemByte bs

pub no-blank : (b : ℕ) → IsItemByte b → is_blank b ≡ false
no-blank b item =
    rw (
      ne_eqb b 32 (λ e. omega (arith, item.above, e)),
      ne_eqb b 9 (λ e. omega (arith, item.above, e)),
      ne_eqb b 13 (λ e. omega (arith, item.above, e)),
    ) refl

no-blanks : (bs : List ℕ) → IsItem bs → All (λ b. is_blank b ≡ false) bs
no-blanks bs item = All-weaker IsItemByte (λ b. is_blank b ≡ false) no-blank bs item.bytes

module _ {A : Type 0} (text : A → List ℕ) where
  pub items-first : (w : List ℕ) (xs : List A) → IsItem w → All (λ x. IsItem (text x)) xs →
      items_of (w ++ after_blanks text xs) ≡ w ∷ map text xs
  items-first w [] item items =
      let bytes : has_bytes w ≡ true = some_bytes w item.some in
      ap items_of (append-nil w) ∙ ap (filter has_bytes) (slice_split_none is_blank w (no-blanks w item)) ∙
      rw bytes refl
  items-first w (x ∷ xs) item items =
      let bytes : has_bytes w ≡ true = some_bytes w item.some in
      let rest = items-first (text x) xs (All-head (λ y. IsItem (text y)) x xs items)
      (All-tail (λ y. IsItem (text y)) x xs items) in
      ap (filter has_bytes) (slice_split_at is_blank w 32 (text x ++ after_blanks text xs) (no-blanks w item) refl) ∙
      rw bytes (ap (λ ws. w ∷ ws) rest)

  pub items-following : (xs : List A) → All (λ x. IsItem (text x)) xs → items_of (after_blanks text xs) ≡ map text xs
  items-following [] items = refl
  items-following (x ∷ xs) items =
      items-first (text x) xs (All-head (λ y. IsItem (text y)) x xs items) (All-tail (λ y. IsItem (text y)) x xs items)

  -- the texts of values are read as these values
  pub each-read : (read : List ℕ → Option A) (xs : List A) → All (λ x. read (text x) ≡ Some x) xs →
      each_read read (map text xs) ≡ Some xs
  each-read read [] reads = refl
  each-read read (x ∷ xs) reads =
      let first : read (text x) ≡ Some x = All-head (λ y. read (text y) ≡ Some y) x xs reads in
      let rest : each_read read (map text xs) ≡ Some xs =
      each-read read xs (All-tail (λ y. read (text y) ≡ Some y) x xs reads) in
      rw (first, rest) refl

  -- the texts of values are read as a function of these values
  pub each-read-as : {B : Type 0} (read : List ℕ → Option B) (value : A → B) (xs : List A) →
      All (λ x. read (text x) ≡ Some (value x)) xs
      → each_read read (map text xs) ≡ Some (map value xs)
  each-read-as read value [] reads = refl
  each-read-as read value (x ∷ xs) reads =
      let first : read (text x) ≡ Some (value x) = All-head (λ y. read (text y) ≡ Some (value y)) x xs reads in
      let rest : each_read read (map text xs) ≡ Some (map value xs) =
      each-read-as read value xs (All-tail (λ y. read (text y) ≡ Some (value y)) x xs reads) in
      rw (first, rest) refl
