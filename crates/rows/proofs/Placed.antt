-- Positions that are written line by line, with a blank between each two.
use Rattle.std.proofs.Common.{◌≡◌, ℕ, Bool, true, false, Option, List, [], ◌∷◌, ◌++◌, refl, sym, ap, ◌∙◌, append-nil, append_assoc}
use Rattle.std.specs.Prelude.{◌||◌, codes}
use Rattle.std.specs.Io.KnownBytes.{Appends}
use Rattle.std.proofs.lemmas.Grind.{flat_map-append}
use Rattle.printing.proofs.Appending.{Appends-joined, Appends-nothing, Appends-to}
use Rattle.rows.specs.Placing.{after_or_between, has_some}
use Rattle.rows.specs.RowTexts.{after_blanks, between_blanks}

module _ {A : Type 0} (text : A → List ℕ) where
  following-joined : (xs ys : List A) → after_blanks text (xs ++ ys) ≡ after_blanks text xs ++ after_blanks text ys
  following-joined xs ys = flat_map-append (λ x. codes " " ++ text x) xs ys

  pub parts-joined : (begun : Bool) (xs ys : List A)
      → after_or_between begun text (xs ++ ys) ≡ after_or_between begun text xs ++
      after_or_between (begun || has_some xs) text ys
  parts-joined true xs ys = following-joined xs ys
  parts-joined false [] ys = refl
  parts-joined false (x ∷ xs) ys =
      ap (λ (bs : List ℕ). text x ++ bs) (following-joined xs ys) ∙
      sym (append_assoc (text x) (after_blanks text xs) (after_blanks text ys))

  none-remaining : (begun : Bool) → after_or_between begun text [] ≡ []
  none-remaining true = refl
  none-remaining false = refl

  -- known bytes grew by some of the items, and the others remain
  pub record HasBegun (old new : Option (List ℕ)) (begun : Bool) (whole rest : List A) : Type 0 where
    pub bytes : List ℕ
    pub grown : Appends old new bytes
    pub remaining : bytes ++ after_or_between begun text rest ≡ between_blanks text whole

  pub none-begun : (a : Option (List ℕ)) (whole : List A) → HasBegun a a false whole whole
  none-begun a whole = record { bytes = []; grown = Appends-nothing a; remaining = refl }

  pub part-begun : (a b c : Option (List ℕ)) (begun more : Bool) (whole rest xs ys : List A) → rest ≡ xs ++ ys →
      more ≡ (begun || has_some xs)
      → HasBegun a b begun whole rest → Appends b c (after_or_between begun text xs) → HasBegun a c more whole ys
  part-begun a b c begun more whole rest xs ys is so h grown =
      let bytes : List ℕ = h.bytes in
      let part : List ℕ = after_or_between begun text xs in
      record {
        bytes = bytes ++ part;
        grown = Appends-joined a b c bytes part h.grown grown;
        remaining = append_assoc bytes part (after_or_between more text ys)
            ∙ ap (λ (m : Bool). bytes ++ (part ++ after_or_between m text ys)) so
            ∙ ap (λ (bs : List ℕ). bytes ++ bs) (sym (parts-joined begun xs ys))
            ∙ ap (λ (zs : List A). bytes ++ after_or_between begun text zs) (sym is)
            ∙ h.remaining;
      }

  pub all-begun : (a b : Option (List ℕ)) (begun : Bool) (whole rest : List A) → rest ≡ [] →
      HasBegun a b begun whole rest → Appends a b (between_blanks text whole)
  all-begun a b begun whole rest none h =
      let bytes : List ℕ = h.bytes in
      Appends-to a b bytes (between_blanks text whole)
      (sym (append-nil bytes) ∙ ap (λ (bs : List ℕ). bytes ++ bs) (sym (none-remaining begun)) ∙
      ap (λ (zs : List A). bytes ++ after_or_between begun text zs) (sym none) ∙ h.remaining)
      h.grown
