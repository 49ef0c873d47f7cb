-- BD14 to BD16 where something that is no bracket occurs after the item at k: the pairs are those without it, by their new
-- indices.
use Rattle.std.specs.Prelude.{Option, Some, None, ℕ, zero, suc, ◌+◌, ◌<◌, Bool, true, false, ◌&&◌, not, ◌==◌, nat_lt, nat_le, ◌≡◌, List, [], ◌∷◌, ◌++◌, length, map, filter, find, if◌then◌else◌, refl}
use Rattle.std.specs.Option.{option_map}
use Rattle.std.proofs.Common.{arith, ap, sym, ◌∙◌, inl, inr}
use Rattle.units.specs.Positions.{positions_from, last_below, is_before}
use Rattle.units.specs.Brackets.{is_open, closes, bracket_at, is_uncovered, is_open_at, ended_with, pairs_before, open_before, has_no_room, stop_of, bracket_pairs_of, closer_of}
use Rattle.units.specs.declared.bracket.Bracket.{Bracket}
use Rattle.units.specs.declared.bracket.Bracket.TheVariants.{No, Open, Close}
use Rattle.units.proofs.Positions.{last_below_nowhere}
use Rattle.compress.specs.Spread.{put}
use Rattle.compress.proofs.Skip.{skip, skip_next, skip-lt, skip-le, skip-eq, skip-never, at-skip, length-put, last_below-skip, first_from-skip, count-skip, is_before-skip}

-- both of a pair by their new indices
abbrev pub moved : ℕ → (ℕ × ℕ) → (ℕ × ℕ)
moved k pair = (skip k pair.0, skip k pair.1)

closes_no : (b : Bracket) → closes b No ≡ false
closes_no (Open a) = refl
closes_no (Close a) = refl
closes_no No = refl

map-join : {A B : Type 0} (f : A → B) (xs ys : List A) → map f (xs ++ ys) ≡ map f xs ++ map f ys
map-join f [] ys = refl
map-join f (x ∷ xs) ys = ap (λ zs. f x ∷ zs) (map-join f xs ys)

uncovered-moved : (k : ℕ) (pairs : List (ℕ × ℕ)) (o : ℕ) → is_uncovered (map (moved k) pairs) (skip k o) ≡ is_uncovered pairs o
uncovered-moved k [] o = refl
uncovered-moved k (pair ∷ pairs) o =
    ap (λ (b : Bool). not (b && nat_lt (skip k o) (skip k pair.1)) && is_uncovered (map (moved k) pairs) (skip k o)) (skip-le k pair.0 o)
    ∙ ap (λ (b : Bool). not (nat_le pair.0 o && b) && is_uncovered (map (moved k) pairs) (skip k o)) (skip-lt k o pair.1)
    ∙ ap (λ (b : Bool). not (nat_le pair.0 o && nat_lt o pair.1) && b) (uncovered-moved k pairs o)

ended-moved : (k n : ℕ) (o : Option ℕ) → ended_with (skip k n) (option_map (skip k) o) ≡ map (moved k) (ended_with n o)
ended-moved k n None = refl
ended-moved k n (Some o) = refl

nothing_ended : (earlier : List (ℕ × ℕ)) (p : ℕ) (o : Option ℕ) → o ≡ None → earlier ++ ended_with p o ≡ earlier
nothing_ended earlier p None e = nil earlier where
  nil : (xs : List (ℕ × ℕ)) → xs ++ [] ≡ xs
  nil [] = refl
  nil (x ∷ xs) = ap (λ ys. x ∷ ys) (nil xs)
nothing_ended earlier p (Some o) e = cc

-- the brackets, with one that is none
module _ (k : ℕ) (bs : List Bracket) where
  abbrev new : List Bracket
  new = put k No bs

  new_at : (i : ℕ) → bracket_at new (skip k i) ≡ bracket_at bs i
  new_at i = at-skip k No bs i No

  no_new : bracket_at new (suc k) ≡ No
  no_new = none k bs where
    none : (k : ℕ) (bs : List Bracket) → bracket_at (put k No bs) (suc k) ≡ No
    none k [] = refl
    none zero (b ∷ bs) = refl
    none (suc k) (b ∷ bs) = none k bs

  open-moved : (pairs : List (ℕ × ℕ)) (o : ℕ) → is_open_at new (map (moved k) pairs) (skip k o) ≡ is_open_at bs pairs o
  open-moved pairs o =
      ap (λ (b : Bracket). is_open b && is_uncovered (map (moved k) pairs) (skip k o)) (new_at o)
      ∙ ap (λ (b : Bool). is_open (bracket_at bs o) && b) (uncovered-moved k pairs o)

  never_open : (pairs : List (ℕ × ℕ)) → is_open_at new pairs (suc k) ≡ false
  never_open pairs = ap (λ (b : Bracket). is_open b && is_uncovered pairs (suc k)) no_new

  -- what a position closes
  closes_at : List Bracket → List (ℕ × ℕ) → ℕ → ℕ → Bool
  closes_at cs pairs p o = is_open_at cs pairs o && closes (bracket_at cs o) (bracket_at cs p)

  pub pairs_before-moved : (n : ℕ) → pairs_before new (skip k n) ≡ map (moved k) (pairs_before bs n)
  pairs_before-moved zero = refl
  pairs_before-moved (suc n) =
      let earlier : List (ℕ × ℕ) = pairs_before bs n in
      let later : List (ℕ × ℕ) = map (moved k) earlier in
      let f : ℕ → Bool = λ o. is_open_at bs earlier o && closes (bracket_at bs o) (bracket_at bs n) in
      let g : ℕ → Bool = λ o. is_open_at new later o && closes (bracket_at new o) (bracket_at new (skip k n)) in
      let same : (i : ℕ) → g (skip k i) ≡ f i = λ i.
      ap (λ (b : Bool). b && closes (bracket_at new (skip k i)) (bracket_at new (skip k n))) (open-moved earlier i)
      ∙ ap (λ (b : Bracket). is_open_at bs earlier i && closes b (bracket_at new (skip k n))) (new_at i)
      ∙ ap (λ (b : Bracket). is_open_at bs earlier i && closes (bracket_at bs i) b) (new_at n) in
      let never : g (suc k) ≡ false = ap (λ (b : Bool). b && closes (bracket_at new (suc k)) (bracket_at new (skip k n))) (never_open later) in
      let step : pairs_before new (suc (skip k n)) ≡ map (moved k) (pairs_before bs (suc n)) =
      ap (λ (ps : List (ℕ × ℕ)). ps ++ ended_with (skip k n) (last_below (λ o. is_open_at new ps o && closes (bracket_at new o) (bracket_at new (skip k n))) (skip k n))) (pairs_before-moved n)
      ∙ ap (λ (r : Option ℕ). later ++ ended_with (skip k n) r) (last_below-skip k f g same never n)
      ∙ ap (λ (ps : List (ℕ × ℕ)). later ++ ps) (ended-moved k n (last_below f n))
      ∙ sym (map-join (moved k) earlier (ended_with n (last_below f n))) in
      elim (skip_next k n) [
        | inl e ↦ ap (pairs_before new) e ∙ step
        | inr (e, (h, i)) ↦
            (let now : List (ℕ × ℕ) = pairs_before new (suc k) in
            let t : ℕ → Bool = λ o. is_open_at new now o && closes (bracket_at new o) (bracket_at new (suc k)) in
            let none : (o : ℕ) → o < suc k → t o ≡ false = λ o lt.
            ap (λ (b : Bracket). is_open_at new now o && closes (bracket_at new o) b) no_new
            ∙ ap (λ (b : Bool). is_open_at new now o && b) (closes_no (bracket_at new o)) ∙ never_both (is_open_at new now o) in
            ap (pairs_before new) e ∙ nothing_ended now (suc k) (last_below t (suc k)) (last_below_nowhere t (suc k) none)
            ∙ ap (λ m. pairs_before new (suc m)) (sym h) ∙ step)
      ] where
        never_both : (b : Bool) → (b && false) ≡ false
        never_both true = refl
        never_both false = refl

  open_before-moved : (n : ℕ) → length (open_before new (skip k n)) ≡ length (open_before bs n)
  open_before-moved n =
      let f : ℕ → Bool = is_open_at bs (pairs_before bs n) in
      let g : ℕ → Bool = is_open_at new (map (moved k) (pairs_before bs n)) in
      ap (λ (ps : List (ℕ × ℕ)). length (filter (is_open_at new ps) (positions_from 0 (skip k n)))) (pairs_before-moved n)
      ∙ count-skip k f g (open-moved (pairs_before bs n)) (never_open (map (moved k) (pairs_before bs n))) n

  no_room-moved : (most n : ℕ) → has_no_room most new (skip k n) ≡ has_no_room most bs n
  no_room-moved most n =
      ap (λ (b : Bracket). is_open b && (length (open_before new (skip k n)) == most)) (new_at n)
      ∙ ap (λ (m : ℕ). is_open (bracket_at bs n) && (m == most)) (open_before-moved n)

  stop-moved : (most : ℕ) → stop_of most new ≡ option_map (skip k) (stop_of most bs)
  unfolding stop_of
  stop-moved most =
      let never : has_no_room most new (suc k) ≡ false = ap (λ (b : Bracket). is_open b && (length (open_before new (suc k)) == most)) no_new in
      let n : length new ≡ skip k (length bs) = length-put k No bs in
      let z : 0 + length bs ≡ length bs = omega arith in
      first_from-skip k (has_no_room most bs) (has_no_room most new) (no_room-moved most) never (length bs) 0 (length new) (omega (arith, n, ap (skip k) z))

  filter-moved : (end : Option ℕ) (pairs : List (ℕ × ℕ)) →
      filter (λ (pair : ℕ × ℕ). is_before pair.1 (option_map (skip k) end)) (map (moved k) pairs) ≡ map (moved k) (filter (λ (pair : ℕ × ℕ). is_before pair.1 end) pairs)
  filter-moved end [] = refl
  filter-moved end (pair ∷ pairs) =
      let test : ℕ × ℕ → Bool = λ pair. is_before pair.1 end in
      let rest : List (ℕ × ℕ) = filter (λ (p : ℕ × ℕ). is_before p.1 end) pairs in
      ap (λ (b : Bool). if b then (moved k pair ∷ filter (λ (p : ℕ × ℕ). is_before p.1 (option_map (skip k) end)) (map (moved k) pairs)) else filter (λ (p : ℕ × ℕ). is_before p.1 (option_map (skip k) end)) (map (moved k) pairs)) (is_before-skip k pair.1 end)
      ∙ ap (λ (ps : List (ℕ × ℕ)). if is_before pair.1 end then (moved k pair ∷ ps) else ps) (filter-moved end pairs)
      ∙ map_if (is_before pair.1 end) rest where
        map_if : (b : Bool) (ps : List (ℕ × ℕ)) → (if b then (moved k pair ∷ map (moved k) ps) else map (moved k) ps) ≡ map (moved k) (if b then (pair ∷ ps) else ps)
        map_if true ps = refl
        map_if false ps = refl

  pub bracket_pairs-moved : (most : ℕ) → bracket_pairs_of most new ≡ map (moved k) (bracket_pairs_of most bs)
  unfolding bracket_pairs_of
  bracket_pairs-moved most =
      ap (λ (n : ℕ). filter (λ (pair : ℕ × ℕ). is_before pair.1 (stop_of most new)) (pairs_before new n)) (length-put k No bs)
      ∙ ap (filter (λ (pair : ℕ × ℕ). is_before pair.1 (stop_of most new))) (pairs_before-moved (length bs))
      ∙ ap (λ (end : Option ℕ). filter (λ (pair : ℕ × ℕ). is_before pair.1 end) (map (moved k) (pairs_before bs (length bs)))) (stop-moved most)
      ∙ filter-moved (stop_of most bs) (pairs_before bs (length bs))

-- the closers
pub closer-moved : (k : ℕ) (pairs : List (ℕ × ℕ)) (o : ℕ) → closer_of (map (moved k) pairs) (skip k o) ≡ option_map (skip k) (closer_of pairs o)
unfolding closer_of
closer-moved k [] o = refl
closer-moved k (pair ∷ pairs) o =
    let found : Option (ℕ × ℕ) = find (λ (p : ℕ × ℕ). p.0 == o) pairs in
    let other : Option (ℕ × ℕ) = find (λ (p : ℕ × ℕ). p.0 == skip k o) (map (moved k) pairs) in
    ap (λ (b : Bool). option_map (λ (p : ℕ × ℕ). p.1) (if b then Some (moved k pair) else other)) (skip-eq k pair.0 o)
    ∙ here (pair.0 == o) other found (closer-moved k pairs o) where
      here : (b : Bool) (other found : Option (ℕ × ℕ)) → option_map (λ (p : ℕ × ℕ). p.1) other ≡ option_map (skip k) (option_map (λ (p : ℕ × ℕ). p.1) found) →
          option_map (λ (p : ℕ × ℕ). p.1) (if b then Some (moved k pair) else other) ≡ option_map (skip k) (option_map (λ (p : ℕ × ℕ). p.1) (if b then Some pair else found))
      here true other found e = refl
      here false other found e = e

pub closer-never : (k : ℕ) (pairs : List (ℕ × ℕ)) → closer_of (map (moved k) pairs) (suc k) ≡ None
unfolding closer_of
closer-never k [] = refl
closer-never k (pair ∷ pairs) =
    let other : Option (ℕ × ℕ) = find (λ (p : ℕ × ℕ). p.0 == suc k) (map (moved k) pairs) in
    ap (λ (b : Bool). option_map (λ (p : ℕ × ℕ). p.1) (if b then Some (moved k pair) else other)) (skip-never k pair.0) ∙ closer-never k pairs
