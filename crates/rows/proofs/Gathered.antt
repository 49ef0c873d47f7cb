-- Items that are gathered before they are written.
use Rattle.std.proofs.Common.{◌≡◌, ℕ, zero, suc, ◌-◌, ◌<◌, Option, List, [], ◌∷◌, ◌++◌, length, take, drop, refl, sym, ap, ◌∙◌, append_assoc, arith, take-append-drop}
use Rattle.std.specs.Prelude.{codes}
use Rattle.std.specs.List.{flat_map}
use Rattle.std.specs.Io.KnownBytes.{Appends}
use Rattle.std.proofs.lemmas.Grind.{flat_map-append}
use Rattle.std.proofs.lemmas.List.{take_all}
use Rattle.printing.proofs.Appending.{Appends-joined, Appends-to}
use Rattle.printing.proofs.Passing.{HasPrintedUpTo}
use Rattle.rows.specs.RowTexts.{after_blanks, between_blanks}

-- bytes were added after the ones that were added before
pub then-added : (old mid new xs ys : List ℕ) → mid ≡ old ++ xs → new ≡ mid ++ ys → new ≡ old ++ (xs ++ ys)
then-added old mid new xs ys first next = next ∙ ap (λ bs. bs ++ ys) first ∙ append_assoc old xs ys

module _ {A : Type 0} (text : A → List ℕ) where
  -- several further items were printed
  pub more_passed : (a b c : Option (List ℕ)) (whole rest xs others : List A) → rest ≡ xs ++ others
      → HasPrintedUpTo a b text whole rest → Appends b c (flat_map text xs) → HasPrintedUpTo a c text whole others
  more_passed a b c whole rest xs others is h grown = record {
    passed = h.passed ++ xs;
    joined = append_assoc h.passed xs others ∙ ap (λ v. h.passed ++ v) (sym is) ∙ h.joined;
    grown = Appends-to a c _ _ (sym (flat_map-append text h.passed xs)) (Appends-joined a b c _ _ h.grown grown);
  }

  -- the first items after blanks are a blank and then the items with blanks between them
  pub following-first : (items : List A) (n : ℕ) → 0 < n → 0 < length items →
      after_blanks text (take n items) ≡ 32 ∷ between_blanks text (take n items)
  following-first items zero some there = absurd (omega arith)
  following-first [] (suc n) some there = absurd (omega arith)
  following-first (x ∷ items) (suc n) some there = refl

  -- the first n items, and those after them
  pub between-parts : (items : List A) (n : ℕ) → 0 < n → 0 < length items
      → between_blanks text (take n items) ++ after_blanks text (drop n items) ≡ between_blanks text items
  between-parts items zero some there = absurd (omega arith)
  between-parts [] (suc n) some there = absurd (omega arith)
  between-parts (x ∷ items) (suc n) some there =
      append_assoc (text x) (after_blanks text (take n items)) (after_blanks text (drop n items))
      ∙ ap (λ bs. text x ++ bs) (sym (flat_map-append (λ y. codes " " ++ text y) (take n items) (drop n items))
      ∙ ap (λ xs. after_blanks text xs) (take-append-drop n items))

-- the slice after the first byte
pub sliced-following : (b : ℕ) (xs ys : List ℕ) → xs ≡ b ∷ ys → take (length xs - 1) (drop 1 xs) ≡ ys
sliced-following b xs ys is = rw is (take_all (length (b ∷ ys) - 1) ys (omega arith))
