-- Flat paragraphs: X1 to X9, P2 and P3.
use Rattle.std.proofs.Common.{◌≡◌, ℕ, ◌+◌, false, cond, Some, None, List, [], length, map, refl, ap, ◌∙◌, arith}
use Rattle.std.specs.Prelude.{Option, ◌||◌, is_none, find}
use Rattle.std.specs.Option.{option_map}
use Rattle.std.proofs.lemmas.Bool.{and_left, or_from}
use Rattle.std.proofs.lemmas.Iterator.Adapters.{option_map_id}
use Rattle.units.specs.Classes.{class_at, is_removed, is_strong}
use Rattle.units.specs.Positions.{first_from}
use Rattle.units.specs.Isolates.{isolate_holds, isolate_around, first_strong, begins_right_to_left, para_level_of}
use Rattle.units.specs.Explicit.{embedding_holds, chain, explicit_at, explicit_of}
use Rattle.units.specs.declared.class.Class.{Class}
use Rattle.units.specs.declared.class.Class.TheVariants.{L}
use Rattle.units.specs.declared.level.Direction.{Direction}
use Rattle.units.specs.declared.level.Direction.TheVariants.{Auto, Ltr, Rtl, AutoRtl}
use Rattle.explicit.specs.Flat.{IsFlat, flat_para_level, level_by_strong}
use Rattle.explicit.proofs.Listed.{map-positions_of, filter_none}
use Rattle.units.proofs.Positions.{last_below_nowhere}
use Rattle.explicit.proofs.Searches.{first_from_alike, find-first_from}
use Rattle.explicit.proofs.FlatClasses.{class_at-flat}

-- nothing is inside an isolate or an embedding
pub isolate_holds-flat : (cs : List Class) → IsFlat cs → (i p : ℕ) → isolate_holds cs i p ≡ false
unfolding isolate_holds
isolate_holds-flat cs flat i p = let c = class_at-flat cs flat i in and_left _ _ c.no_isolate_initiator

pub embedding_holds-flat : (cs : List Class) → IsFlat cs → (e p : ℕ) → embedding_holds cs e p ≡ false
unfolding embedding_holds
embedding_holds-flat cs flat e p = let c = class_at-flat cs flat e in and_left _ _ c.no_embedding_initiator

pub isolate_around-flat : (cs : List Class) → IsFlat cs → (p : ℕ) → isolate_around cs p ≡ None
unfolding isolate_around
isolate_around-flat cs flat p =
    last_below_nowhere (λ i. isolate_holds cs i p) p (λ i lt. isolate_holds-flat cs flat i p)

pub chain-flat : (cs : List Class) → IsFlat cs → (p : ℕ) → chain cs p ≡ []
unfolding chain
chain-flat cs flat p = grind (arith, filter_none, or_from, isolate_holds-flat, embedding_holds-flat)

-- X1 to X9: the paragraph's level and the own class, if it is not removed
abbrev pub leveled_class : ℕ → Class → Option (ℕ × Class)
leveled_class para c = cond (is_removed c) None (Some (para, c))

pub explicit_at-flat : (depth : ℕ) (cs : List Class) (para : ℕ) → IsFlat cs → (p : ℕ) →
    explicit_at depth cs para p ≡ leveled_class para (class_at cs p)
unfolding explicit_at
explicit_at-flat depth cs para flat p = grind (arith, chain-flat)

pub explicit_of-flat : (depth : ℕ) (cs : List Class) (para : ℕ) → IsFlat cs →
    explicit_of depth cs para ≡ map (leveled_class para) cs
explicit_of-flat depth cs para flat =
    map-positions_of (explicit_at depth cs para) (leveled_class para) L cs (λ k lt.
    explicit_at-flat depth cs para flat k)

-- P2: the first strong position of all
pub first_strong-flat : (cs : List Class) → IsFlat cs →
    first_strong cs None ≡ first_from (λ p. is_strong (class_at cs p)) 0 (length cs)
unfolding first_strong
first_strong-flat cs flat = grind (arith, first_from_alike, isolate_around-flat)

-- P3: the level by the class at this position, if there is one
level_by_class : (cs : List Class) (o : Option ℕ) →
    cond (begins_right_to_left cs o) 1 0 ≡ level_by_strong 0 (option_map (λ p. class_at cs p) o)
level_by_class cs None = refl
level_by_class cs (Some p) = refl

level_by_class_or_one : (cs : List Class) (o : Option ℕ) →
    cond (is_none o || begins_right_to_left cs o) 1 0 ≡ level_by_strong 1 (option_map (λ p. class_at cs p) o)
level_by_class_or_one cs None = refl
level_by_class_or_one cs (Some p) = refl

-- P2: the class of the first strong position outside of all isolates is the first strong class of all
first_class-flat : (cs : List Class) → IsFlat cs →
    option_map (λ p. class_at cs p) (first_strong cs None) ≡ find is_strong cs
first_class-flat cs flat =
    let found = find-first_from is_strong (λ c. c) L cs 0 (class_at cs) (λ k lt. let e : 0 + k ≡ k = omega arith in
    ap (class_at cs) e) in
    ap (option_map (λ p. class_at cs p)) (first_strong-flat cs flat) ∙ found ∙ option_map_id _

pub para_level_of-flat : (cs : List Class) (direction : Direction) → IsFlat cs →
    para_level_of cs direction ≡ flat_para_level cs direction
unfolding para_level_of
para_level_of-flat cs Ltr flat = refl
para_level_of-flat cs Rtl flat = refl
para_level_of-flat cs Auto flat = level_by_class cs (first_strong cs None) ∙
    ap (level_by_strong 0) (first_class-flat cs flat)
para_level_of-flat cs AutoRtl flat = level_by_class_or_one cs (first_strong cs None) ∙
    ap (level_by_strong 1) (first_class-flat cs flat)
