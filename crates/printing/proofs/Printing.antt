-- What a loop over positions has printed.
use Rattle.std.proofs.Common.{append-nil, ◌≡◌, ℕ, suc, ◌+◌, ◌-◌, ◌≤◌, List, [], ◌∷◌, ◌++◌, Option, sym, ap, ◌∙◌, arith}
use Rattle.std.specs.List.{flat_map}
use Rattle.std.specs.Io.KnownBytes.{Appends}
use Rattle.std.proofs.lemmas.Grind.{flat_map-append}
use Rattle.units.specs.Positions.{positions_from}
use Rattle.printing.specs.LevelsText.{printed}
use Rattle.printing.proofs.Appending.{Appends-to, Appends-joined, Appends-nothing}
use Rattle.printing.proofs.Breaks.{one_more_position}

printed_none : (text : ℕ → List ℕ) (s : ℕ) → [] ≡ printed text s s
printed_none text s = let e : 0 ≡ s - s = omega arith in ap (λ n. flat_map text (positions_from s n)) e

pub printed_more : (text : ℕ → List ℕ) (s p : ℕ) → s ≤ p → printed text s p ++ text p ≡ printed text s (p + 1)
printed_more text s p h =
    let step : suc (p - s) ≡ p + 1 - s = omega arith in
    let here : s + (p - s) ≡ p = omega arith in
    let last : printed text s p ++ text p ≡ flat_map text (positions_from s (p - s) ++ ((s + (p - s)) ∷ [])) =
    sym (flat_map-append text (positions_from s (p - s)) ((s + (p - s)) ∷ []) ∙
    (rw here (ap (λ v. printed text s p ++ v) (append-nil (text p))))) in
    last ∙ ap (λ ps. flat_map text ps) (sym (one_more_position s (p - s))) ∙
    ap (λ n. flat_map text (positions_from s n)) step

-- known bytes grew by what is printed of the positions from start up to end
pub record HasPrinted (old new : Option (List ℕ)) (text : ℕ → List ℕ) (start end : ℕ) : Type 0 where
  pub grown : Appends old new (printed text start end)

pub nothing_printed : (a : Option (List ℕ)) (text : ℕ → List ℕ) (s : ℕ) → HasPrinted a a text s s
nothing_printed a text s = record { grown = Appends-to a a [] _ (printed_none text s) (Appends-nothing a) }

pub one_more_printed : (a b c : Option (List ℕ)) (text : ℕ → List ℕ) (s p : ℕ) → s ≤ p
    → HasPrinted a b text s p → Appends b c (text p) → HasPrinted a c text s (p + 1)
one_more_printed a b c text s p h f g =
    record { grown = Appends-to a c _ _ (printed_more text s p h) (Appends-joined a b c _ _ f.grown g) }
