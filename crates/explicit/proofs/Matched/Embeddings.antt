-- Embeddings of one isolate are matched by counting too.
use Rattle.std.proofs.Common.{◌≡◌, ℕ, ◌+◌, ◌-◌, ◌&&◌, ◌==◌, Bool, true, List, length, Option, Some, None, refl}
use Rattle.std.specs.Prelude.{count_by}
use Rattle.std.proofs.lemmas.Bool.{and_parts, and_from, and_left, and_right}
use Rattle.units.specs.Positions.{as_many, positions_from, first_from, same_position}
use Rattle.units.specs.Classes.{class_at, is_embedding_initiator, is_pdf}
use Rattle.units.specs.Isolates.{isolate_around}
use Rattle.units.specs.Explicit.{beside, matching_pdf}
use Rattle.units.specs.declared.class.Class.{Class}
use Rattle.units.proofs.Positions.{first_from_some, first_from_none, first_from_is, first_from_nowhere, same_position_refl}
use Rattle.explicit.proofs.Holders.Roles.{embedding_is_no_pdf}
use Rattle.explicit.proofs.Matched.Balance.{Exclude, match_of, match_closes}

-- the embedding initiators and the PDFs directly in the isolate of e
abbrev pub opens_beside : List Class → ℕ → ℕ → Bool
opens_beside cs e = beside cs is_embedding_initiator e

abbrev pub closes_beside : List Class → ℕ → ℕ → Bool
closes_beside cs e = beside cs is_pdf e

pub beside_exclude : (cs : List Class) (e : ℕ) → Exclude (opens_beside cs e) (closes_beside cs e)
beside_exclude cs e = record { apart = λ p h. and_left _ _ (embedding_is_no_pdf (class_at cs p) (and_parts _ _ h).0) }

-- an embedding initiator lies beside itself
pub opens_beside_itself : (cs : List Class) (e : ℕ) → is_embedding_initiator (class_at cs e) ≡ true →
    opens_beside cs e e ≡ true
opens_beside_itself cs e h = and_from _ _ h (same_position_refl (isolate_around cs e))

-- the matching PDF is the first position at which the counts agree
pub matching_pdf_is : (cs : List Class) (e : ℕ) → is_embedding_initiator (class_at cs e) ≡ true →
    matching_pdf cs e ≡ match_of (opens_beside cs e) (closes_beside cs e) (length cs) e
unfolding matching_pdf match_of
matching_pdf_is cs e h =
    go (first_from (as_many (opens_beside cs e) (closes_beside cs e) e) (e + 1) (length cs - (e + 1))) refl
  where
    closer : (f : ℕ) → match_of (opens_beside cs e) (closes_beside cs e) (length cs) e ≡ Some f →
        closes_beside cs e f ≡ true
    closer f m = match_closes (opens_beside cs e) (closes_beside cs e) (length cs) e f (beside_exclude cs e)
        (opens_beside_itself cs e h) m

    go : (m : Option ℕ) →
        first_from (as_many (opens_beside cs e) (closes_beside cs e) e) (e + 1) (length cs - (e + 1)) ≡ m →
        first_from (λ f. same_position (isolate_around cs f) (isolate_around cs e) &&
        (count_by (opens_beside cs e) (positions_from e (f + 1 - e)) == count_by (closes_beside cs e)
        (positions_from e (f + 1 - e)))) (e + 1) (length cs - (e + 1)) ≡ m
    go None m = first_from_nowhere _ (e + 1) (length cs - (e + 1)) (λ q a b.
        and_right _ _ (first_from_none (as_many (opens_beside cs e) (closes_beside cs e) e) (e + 1)
        (length cs - (e + 1)) m q a b))
    go (Some f) m =
        let found = first_from_some (as_many (opens_beside cs e) (closes_beside cs e) e) (e + 1)
        (length cs - (e + 1)) f m in
        first_from_is _ (e + 1) (length cs - (e + 1)) f found.from found.within
        (and_from _ _ (and_parts _ _ (closer f m)).1 found.passes)
        (λ q a b. and_right _ _ (found.fails_before q a b))
