-- The initiators around a position, the innermost first, and those that are open before the next position.
use Rattle.std.proofs.Common.{◌≡◌, ℕ, zero, suc, ◌<◌, Bool, true, ◌&&◌, ◌||◌, List, [], ◌∷◌, arith, refl, sym, ◌∙◌, inl, inr}
use Rattle.std.specs.Prelude.{Option, Some, None, filter, find, nat_lt}
use Rattle.std.proofs.lemmas.Bool.{cases_Bool, lt-ltb, and_parts, false≢true}
use Rattle.units.specs.Positions.{is_before, last_below}
use Rattle.units.specs.Classes.{class_at, is_initiator, is_isolate_initiator, is_embedding_initiator}
use Rattle.units.specs.Isolates.{matching_pdi, isolate_holds, isolate_around}
use Rattle.units.specs.Explicit.{matching_pdf, lies_in, embedding_holds}
use Rattle.units.specs.declared.class.Class.{Class}
use Rattle.explicit.specs.OpenInitiators.{is_isolate, opened}
use Rattle.units.proofs.Positions.{is_before-earlier, last_below_some}

-- the positions below p, in falling order
abbrev pub below : ℕ → List ℕ
below zero = []
below (suc p) = p ∷ below p

-- the initiator at q is around p
abbrev pub holds : List Class → ℕ → ℕ → Bool
holds cs p q = isolate_holds cs q p || embedding_holds cs q p

-- the initiators around p, the innermost first
abbrev pub holders : List Class → ℕ → List ℕ
holders cs p = filter (holds cs p) (below p)

-- the innermost open isolate
abbrev pub innermost : List Class → List ℕ → Option ℕ
innermost cs qs = find (is_isolate cs) qs

isolate_holds-earlier : (cs : List Class) (q y : ℕ) → q < y → isolate_holds cs q (suc y) ≡ true →
    isolate_holds cs q y ≡ true
unfolding isolate_holds
isolate_holds-earlier cs q y l h = grind (arith, and_parts, lt-ltb, is_before-earlier)

pub isolate_around-below : (cs : List Class) (q i : ℕ) → isolate_around cs q ≡ Some i → i < q
unfolding isolate_around
isolate_around-below cs q i h = (last_below_some (λ k. isolate_holds cs k q) q i h).within

lies_in-earlier : (cs : List Class) (o : Option ℕ) (y : ℕ) → ((i : ℕ) → o ≡ Some i → i < y) →
    lies_in cs o (suc y) ≡ true → lies_in cs o y ≡ true
lies_in-earlier cs None y a h = refl
lies_in-earlier cs (Some i) y a h = isolate_holds-earlier cs i y (a i refl) h

embedding_holds-earlier : (cs : List Class) (q y : ℕ) → q < y → embedding_holds cs q (suc y) ≡ true →
    embedding_holds cs q y ≡ true
unfolding embedding_holds
embedding_holds-earlier cs q y l h =
    grind (arith, and_parts, lt-ltb, is_before-earlier, lies_in-earlier, isolate_around-below)

holds-earlier : (cs : List Class) (q y : ℕ) → q < y → holds cs (suc y) q ≡ true → holds cs y q ≡ true
holds-earlier cs q y l h = grind (arith, isolate_holds-earlier, embedding_holds-earlier)

-- if a test implies another one below y, it filters the same from the filtered positions
filter-below : (p h : ℕ → Bool) (y : ℕ) → ((q : ℕ) → q < y → p q ≡ true → h q ≡ true) →
    filter p (below y) ≡ filter p (filter h (below y))
filter-below p h zero sub = refl
filter-below p h (suc y) sub = grind (arith, false≢true, filter-below p h y)

-- and finds the same first
find-below : (p h : ℕ → Bool) (y : ℕ) → ((q : ℕ) → q < y → p q ≡ true → h q ≡ true) →
    find p (below y) ≡ find p (filter h (below y))
find-below p h zero sub = refl
find-below p h (suc y) sub = grind (arith, false≢true, find-below p h y)

last_below-find : (t : ℕ → Bool) (n : ℕ) → last_below t n ≡ find t (below n)
last_below-find t zero = refl
last_below-find t (suc n) = rw (last_below-find t n) refl

isolate_holds-class : (cs : List Class) (q p : ℕ) → isolate_holds cs q p ≡ true →
    is_isolate_initiator (class_at cs q) ≡ true
unfolding isolate_holds
isolate_holds-class cs q p h =
    (and_parts (is_isolate_initiator (class_at cs q)) (nat_lt q p && is_before p (matching_pdi cs q)) h).0

embedding_holds-class : (cs : List Class) (q p : ℕ) → embedding_holds cs q p ≡ true →
    is_embedding_initiator (class_at cs q) ≡ true
unfolding embedding_holds
embedding_holds-class cs q p h =
    (and_parts (is_embedding_initiator (class_at cs q)) (nat_lt q p &&
    (is_before p (matching_pdf cs q) && lies_in cs (isolate_around cs q) p)) h).0

holds-class : (cs : List Class) (q p : ℕ) → holds cs p q ≡ true → is_initiator (class_at cs q) ≡ true
holds-class cs q p h = grind (arith, isolate_holds-class, embedding_holds-class)

-- the initiators around the next position are among those that are open after this one
pub holders-next : (cs : List Class) (y : ℕ) →
    holders cs (suc y) ≡ filter (holds cs (suc y)) (opened cs y (holders cs y))
holders-next cs y = grind (arith, filter-below, holds-earlier, false≢true, holds-class)

holds-from_isolate : (cs : List Class) (q p : ℕ) → isolate_holds cs q p ≡ true → holds cs p q ≡ true
holds-from_isolate cs q p h = rw h refl

around-found : (cs : List Class) (p : ℕ) → isolate_around cs p ≡ find (λ q. isolate_holds cs q p) (below p)
unfolding isolate_around
around-found cs p = last_below-find (λ q. isolate_holds cs q p) p

-- the innermost isolate around the next position is one of them
pub isolate_around-next : (cs : List Class) (y : ℕ) →
    isolate_around cs (suc y) ≡ find (λ q. isolate_holds cs q (suc y)) (opened cs y (holders cs y))
isolate_around-next cs y =
    let t = λ (q : ℕ). isolate_holds cs q (suc y) in
    let e : find t (below y) ≡ find t (holders cs y) =
    find-below t (holds cs y) y (λ q l h. holds-from_isolate cs q y (isolate_holds-earlier cs q y l h)) in
    around-found cs (suc y)
    ∙ elim (cases_Bool (is_initiator (class_at cs y))) [
      | inl a ↦ rw (a, e) refl
      | inr a ↦ elim (cases_Bool (isolate_holds cs y (suc y))) [
        | inl b ↦ absurd (false≢true (sym a ∙ holds-class cs y (suc y) (holds-from_isolate cs y (suc y) b)))
        | inr b ↦ rw (a, b, e) refl
      ]
    ]
