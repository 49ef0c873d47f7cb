-- What the flat classes are not.
use Rattle.std.proofs.Common.{arith, ◌≡◌, ℕ, true, false, List}
use Rattle.std.proofs.lemmas.Bool.{not-true, or_parts}
use Rattle.std.proofs.lemmas.List.{get_or_past}
use Rattle.units.specs.Classes.{class_at, is_isolate_initiator, is_embedding_initiator}
use Rattle.units.specs.declared.class.Class.{Class}
use Rattle.explicit.specs.Flat.{is_flat, IsFlat}

pub record IsNoInitiator (c : Class) : Type 0 where
  pub no_isolate_initiator : is_isolate_initiator c ≡ false
  pub no_embedding_initiator : is_embedding_initiator c ≡ false

pub flat_class : (c : Class) → is_flat c ≡ true → IsNoInitiator c
flat_class c h = grind (arith, or_parts, not-true)

-- past the end the class is L, which is flat too
pub class_at-flat : (cs : List Class) → IsFlat cs → (p : ℕ) → IsNoInitiator (class_at cs p)
class_at-flat cs flat p = grind (arith, flat_class, get_or_past)
