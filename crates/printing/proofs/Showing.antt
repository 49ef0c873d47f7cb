-- A loop over the positions of a line and the characters that are shown for them, side by side.
use Rattle.std.proofs.Common.{arith, ◌≡◌, ◌<◌, ℕ, List, [], ◌∷◌, Option, length, map, refl, sym, ap, ◌∙◌, ◌⊎◌, inl, inr}
use Rattle.std.specs.Prelude.{slice_index_or}
use Rattle.std.specs.List.{All, flat_map}
use Rattle.std.specs.Io.KnownBytes.{Appends}
use Rattle.std.proofs.lemmas.List.Elements.{All-rest}
use Rattle.units.specs.Classes.{is_separator}
use Rattle.units.specs.Layout.{no_unit}
use Rattle.units.specs.Reordering.{shown_at, shown_of}
use Rattle.units.specs.declared.bracket.Unit.{Unit as BidiUnit}
use Rattle.printing.specs.ReorderText.{shown_text, text_unless}
use Rattle.printing.proofs.Passing.{HasPrintedUpTo, nothing_passed, one_more_passed, all_passed}

-- the text of the positions before the rest was written; the rest are positions of the text, and `shown` are the
-- characters that are shown for them
pub record HasShown (images : ℕ → Option ℕ) (levels : List (Option ℕ)) (chars : List ℕ) (text : List BidiUnit)
    (old new : Option (List ℕ)) (order rest shown : List ℕ) : Type 0 where
  pub written : HasPrintedUpTo old new (shown_text images chars text levels) order rest
  pub beside : shown ≡ shown_of images levels chars rest
  pub places : All (λ p. p < length levels) rest

nil_from_map : {A B : Type 0} (f : A → B) (xs : List A) → map f xs ≡ [] → xs ≡ []
nil_from_map f [] e = refl
nil_from_map f (x ∷ xs) e = cc

module _ (images : ℕ → Option ℕ) (levels : List (Option ℕ)) (chars : List ℕ) (text : List BidiUnit) where
  pub nothing_shown : (a : Option (List ℕ)) (order rest shown : List ℕ) → order ≡ rest →
      shown ≡ shown_of images levels chars order
      → All (λ p. p < length levels) rest → HasShown images levels chars text a a order rest shown
  nothing_shown a order rest shown e beside places = grind (arith, nothing_passed)

  pub one_more_shown : (a b c : Option (List ℕ)) (order rest others shown remaining : List ℕ) (p character : ℕ) →
      rest ≡ p ∷ others → shown ≡ character ∷ remaining
      → HasShown images levels chars text a b order rest shown →
      Appends b c (text_unless (is_separator (slice_index_or text p no_unit).class) character)
      → HasShown images levels chars text a c order others remaining
  one_more_shown a b c order rest others shown remaining p character e f h g =
      let both : character ∷ remaining ≡ shown_at images levels chars p ∷ shown_of images levels chars others =
      sym f ∙ h.beside ∙ ap (shown_of images levels chars) e in
      let here : character ≡ shown_at images levels chars p = cc both in
      record {
        written = one_more_passed _ a b c order rest others p e h.written (rw here at g);
        beside = cc both;
        places = All-rest (λ q. q < length levels) p others rest e h.places;
      }

  none_remaining : (a b : Option (List ℕ)) (order rest shown : List ℕ) →
      HasShown images levels chars text a b order rest shown
      → (rest ≡ []) ⊎ (shown ≡ []) → rest ≡ []
  none_remaining a b order rest shown h (inl e) = e
  none_remaining a b order rest shown h (inr e) = nil_from_map _ rest (sym h.beside ∙ e)

  pub all_shown : (a b : Option (List ℕ)) (order rest shown : List ℕ) → (rest ≡ []) ⊎ (shown ≡ []) →
      HasShown images levels chars text a b order rest shown
      → Appends a b (flat_map (shown_text images chars text levels) order)
  all_shown a b order rest shown e h = all_passed _ a b order rest (none_remaining a b order rest shown h e) h.written
