-- What a loop over a list has printed, and the rest.
use Rattle.std.proofs.Common.{arith, ◌≡◌, ℕ, List, [], ◌∷◌, ◌++◌, Option, refl, sym, ap, ◌∙◌, append_assoc}
use Rattle.std.specs.List.{flat_map}
use Rattle.std.specs.Io.KnownBytes.{Appends}
use Rattle.std.proofs.lemmas.List.{append-nil, flat_map_more}
use Rattle.printing.proofs.Appending.{Appends-to, Appends-joined, Appends-nothing}

-- known bytes grew by what is printed of the elements of a list before the rest
pub record HasPrintedUpTo {A : Type 0} (old new : Option (List ℕ)) (text : A →
    List ℕ) (whole rest : List A) : Type 0 where
  pub passed : List A
  pub joined : passed ++ rest ≡ whole
  pub grown : Appends old new (flat_map text passed)

module _ {A : Type 0} (text : A → List ℕ) where
  pub nothing_passed : (a : Option (List ℕ)) (whole : List A) → HasPrintedUpTo a a text whole whole
  nothing_passed a whole = record { passed = []; joined = refl; grown = Appends-nothing a }

  pub one_more_passed : (a b c : Option (List ℕ)) (whole rest others : List A) (x : A) → rest ≡ x ∷ others
      → HasPrintedUpTo a b text whole rest → Appends b c (text x) → HasPrintedUpTo a c text whole others
  one_more_passed a b c whole rest others x e h g = record {
    passed = h.passed ++ (x ∷ []);
    joined = append_assoc h.passed (x ∷ []) others ∙ ap (λ v. h.passed ++ v) (sym e) ∙ h.joined;
    grown = Appends-to a c _ _ (flat_map_more text [] h.passed x) (Appends-joined a b c _ _ h.grown g);
  }

  pub all_passed : (a b : Option (List ℕ)) (whole rest : List A) → rest ≡ [] → HasPrintedUpTo a b text whole rest →
      Appends a b (flat_map text whole)
  all_passed a b whole rest e h = grind (arith, append-nil)
