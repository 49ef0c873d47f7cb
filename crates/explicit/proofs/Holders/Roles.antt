-- What a class does to the open initiators.
use Rattle.std.proofs.Common.{arith, ◌≡◌, ℕ, ◌<◌, Bool, true, false, List, length, get_or, refl}
use Rattle.std.proofs.lemmas.Bool.{false≢true}
use Rattle.std.proofs.lemmas.List.{get_or-map}
use Rattle.units.specs.Classes.{class_at, classes_of, is_isolate_initiator, is_embedding_initiator, is_pdi, is_pdf}
use Rattle.units.specs.declared.bracket.Unit.{Unit as BidiUnit}
use Rattle.units.specs.declared.class.Class.{Class}
use Rattle.units.specs.declared.class.Class.TheVariants.{L, LRE, LRO, RLE, RLO, PDF, LRI, RLI, FSI, PDI}

pub record IsOfKinds (c : Class) (isolate embedding pdi pdf : Bool) : Type 0 where
  pub isolate_is : is_isolate_initiator c ≡ isolate
  pub embedding_is : is_embedding_initiator c ≡ embedding
  pub pdi_is : is_pdi c ≡ pdi
  pub pdf_is : is_pdf c ≡ pdf

pub data Role (c : Class) : Type 0 where
  opens_isolate : IsOfKinds c true false false false → Role c
  opens_embedding : IsOfKinds c false true false false → Role c
  closes_isolate : IsOfKinds c false false true false → Role c
  closes_embedding : IsOfKinds c false false false true → Role c
  plain : IsOfKinds c false false false false → Role c

abbrev of_kinds : (c : Class) → IsOfKinds c (is_isolate_initiator c) (is_embedding_initiator c) (is_pdi c) (is_pdf c)
of_kinds c = record { isolate_is = refl; embedding_is = refl; pdi_is = refl; pdf_is = refl }

pub role : (c : Class) → Role c
role LRI = opens_isolate (of_kinds LRI)
role RLI = opens_isolate (of_kinds RLI)
role FSI = opens_isolate (of_kinds FSI)
role LRE = opens_embedding (of_kinds LRE)
role RLE = opens_embedding (of_kinds RLE)
role LRO = opens_embedding (of_kinds LRO)
role RLO = opens_embedding (of_kinds RLO)
role PDI = closes_isolate (of_kinds PDI)
role PDF = closes_embedding (of_kinds PDF)
role c = plain (record { isolate_is = refl; embedding_is = refl; pdi_is = refl; pdf_is = refl })

-- no class initiates both
pub isolate_not_embedding : (c : Class) → is_isolate_initiator c ≡ true → is_embedding_initiator c ≡ false
isolate_not_embedding LRI h = refl
isolate_not_embedding RLI h = refl
isolate_not_embedding FSI h = refl
isolate_not_embedding LRE h = absurd (cc)
isolate_not_embedding RLE h = absurd (cc)
isolate_not_embedding LRO h = absurd (cc)
isolate_not_embedding RLO h = absurd (cc)
isolate_not_embedding c h = refl

-- what a class is to isolates alone
pub data Kind (c : Class) : Type 0 where
  opening : is_isolate_initiator c ≡ true → is_pdi c ≡ false → Kind c
  closing : is_isolate_initiator c ≡ false → is_pdi c ≡ true → Kind c
  other : is_isolate_initiator c ≡ false → is_pdi c ≡ false → Kind c

pub kind_of : (c : Class) → Kind c
kind_of c = grind (arith, role)

-- an embedding initiator is no PDF
pub embedding_is_no_pdf : (c : Class) → is_embedding_initiator c ≡ true → is_pdf c ≡ false
embedding_is_no_pdf c h = grind (arith, role, false≢true)

-- the class of the unit at a position
pub class_read : (units : List BidiUnit) (p : ℕ) (d : BidiUnit) → p < length units →
    class_at (classes_of units) p ≡ (get_or units p d).class
class_read units p d h = get_or-map (λ unit. unit.class) units p d L h
