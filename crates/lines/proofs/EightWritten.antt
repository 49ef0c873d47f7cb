-- The remaining positions of a line, written eight at a time.
use Rattle.std.proofs.Common.{◌≡◌, ℕ, ◌+◌, ◌<◌, ◌≤◌, Bool, true, false, cond, Option, List, [], ◌∷◌, ◌++◌, length, set, take, append_assoc, refl, sym, ap, ◌∙◌, arith}
use Rattle.std.specs.Prelude.{reverse}
use Rattle.std.proofs.Math.Seq.{take-append-add}
use Rattle.std.proofs.lemmas.List.{length-set, length-take, reverse-append, take-append-le, take_more_set}
use borrow.Rule.Slice.PartMut.{post_of, put_mid}
use Rattle.units.specs.Positions.{positions_from}
use Rattle.lines.specs.LinePositions.{is_remaining, remaining}
use Rattle.lines.proofs.LineParts.{remaining_split}
use Rattle.lines.proofs.Remaining.{remaining-next, remaining-none}

-- items that are written after the first ones
pub written_after : (order part : List ℕ) (count more k : ℕ) → count ≤ length order → more ≤ length part →
    take (count + more) (put_mid count k order part) ≡ take count order ++ take more part
written_after order part count more k within few =
    let front : length (take count order) ≡ count = omega (arith, length-take count order, within) in
    ap (λ n. take n (put_mid count k order part))
    (let e : count + more ≡ length (take count order) + more = omega (arith, front) in e)
    ∙ take-append-add (take count order) (part ++ post_of count k order) more
    ∙ ap (λ xs. take count order ++ xs) (take-append-le more part (post_of count k order) few)

-- rising, with the next positions, after the front
pub rising_on : (levels : List (Option ℕ)) (start middle end : ℕ) (front before after : List ℕ) → start ≤ middle →
    middle ≤ end → before ≡ front ++ remaining levels start middle → after ≡ before ++ remaining levels middle end →
    after ≡ front ++ remaining levels start end
rising_on levels start middle end front before after low high is more =
    more
    ∙ ap (λ xs. xs ++ remaining levels middle end) is
    ∙ append_assoc front (remaining levels start middle) (remaining levels middle end)
    ∙ ap (λ xs. front ++ xs) (sym (remaining_split levels start middle end low high))

pub rising_with : (levels : List (Option ℕ)) (start middle end : ℕ) (before after : List ℕ) → start ≤ middle →
    middle ≤ end → before ≡ remaining levels start middle → after ≡ before ++ remaining levels middle end →
    after ≡ remaining levels start end
rising_with levels start middle end before after = rising_on levels start middle end [] before after

-- falling, with the positions before, after the front
pub falling_on : (levels : List (Option ℕ)) (start middle end : ℕ) (front before after : List ℕ) → start ≤ middle →
    middle ≤ end → before ≡ front ++ reverse (remaining levels middle end) →
    after ≡ before ++ reverse (remaining levels start middle) → after ≡ front ++ reverse (remaining levels start end)
falling_on levels start middle end front before after low high is more =
    more
    ∙ ap (λ xs. xs ++ reverse (remaining levels start middle)) is
    ∙ append_assoc front (reverse (remaining levels middle end)) (reverse (remaining levels start middle))
    ∙ ap (λ xs. front ++ xs) (sym (reverse-append (remaining levels start middle) (remaining levels middle end)))
    ∙ ap (λ xs. front ++ reverse xs) (sym (remaining_split levels start middle end low high))

pub falling_with : (levels : List (Option ℕ)) (start middle end : ℕ) (before after : List ℕ) → start ≤ middle →
    middle ≤ end → before ≡ reverse (remaining levels middle end) →
    after ≡ before ++ reverse (remaining levels start middle) → after ≡ reverse (remaining levels start end)
falling_with levels start middle end before after = falling_on levels start middle end [] before after

-- one position, which is written or was removed
pub remaining_at : (levels : List (Option ℕ)) (position : ℕ) → remaining levels position (position + 1) ≡
    cond (is_remaining levels position) (position ∷ []) []
remaining_at levels position =
    remaining-next levels position position (omega arith)
    ∙ ap (λ xs. xs ++ cond (is_remaining levels position) (position ∷ []) []) (remaining-none levels position)

reversed_cond : (b : Bool) (position : ℕ) → reverse (cond b (position ∷ []) []) ≡ cond b (position ∷ []) []
reversed_cond true position = refl
reversed_cond false position = refl

reversed_at : (levels : List (Option ℕ)) (position next : ℕ) → next ≡ position + 1 →
    remaining levels position (position + 1) ≡ reverse (remaining levels position next)
reversed_at levels position next e =
    remaining_at levels position
    ∙ sym (reversed_cond (is_remaining levels position) position)
    ∙ ap reverse (sym (remaining_at levels position))
    ∙ ap (λ n. reverse (remaining levels position n)) (sym e)

-- four positions that are written one by one, rising
pub four_rising : (levels : List (Option ℕ)) (start : ℕ) (front one two three four : List ℕ) →
    one ≡ front ++ remaining levels start (start + 1) → two ≡ one ++ remaining levels (start + 1) (start + 1 + 1) →
    three ≡ two ++ remaining levels (start + 2) (start + 2 + 1) →
    four ≡ three ++ remaining levels (start + 3) (start + 3 + 1) → four ≡ front ++ remaining levels start (start + 4)
four_rising levels start front one two three four at0 at1 at2 at3 =
    let e2 : start + 1 + 1 ≡ start + 2 = omega arith in
    let e3 : start + 2 + 1 ≡ start + 3 = omega arith in
    let e4 : start + 3 + 1 ≡ start + 4 = omega arith in
    let is2 : two ≡ front ++ remaining levels start (start + 2) =
    rising_on levels start (start + 1) (start + 2) front one two (omega arith) (omega arith) at0
    (at1 ∙ ap (λ n. one ++ remaining levels (start + 1) n) e2) in
    let is3 : three ≡ front ++ remaining levels start (start + 3) =
    rising_on levels start (start + 2) (start + 3) front two three (omega arith) (omega arith) is2
    (at2 ∙ ap (λ n. two ++ remaining levels (start + 2) n) e3) in
    rising_on levels start (start + 3) (start + 4) front three four (omega arith) (omega arith) is3
    (at3 ∙ ap (λ n. three ++ remaining levels (start + 3) n) e4)

-- and falling
pub four_falling : (levels : List (Option ℕ)) (start : ℕ) (front one two three four : List ℕ) →
    one ≡ front ++ remaining levels (start + 3) (start + 3 + 1) →
    two ≡ one ++ remaining levels (start + 2) (start + 2 + 1) →
    three ≡ two ++ remaining levels (start + 1) (start + 1 + 1) →
    four ≡ three ++ remaining levels start (start + 1) → four ≡ front ++ reverse (remaining levels start (start + 4))
four_falling levels start front one two three four at3 at2 at1 at0 =
    let is3 : one ≡ front ++ reverse (remaining levels (start + 3) (start + 4)) =
    at3 ∙ ap (λ xs. front ++ xs) (reversed_at levels (start + 3) (start + 4) (omega arith)) in
    let is2 : two ≡ front ++ reverse (remaining levels (start + 2) (start + 4)) =
    falling_on levels (start + 2) (start + 3) (start + 4) front one two (omega arith) (omega arith) is3
    (at2 ∙ ap (λ xs. one ++ xs) (reversed_at levels (start + 2) (start + 3) (omega arith))) in
    let is1 : three ≡ front ++ reverse (remaining levels (start + 1) (start + 4)) =
    falling_on levels (start + 1) (start + 2) (start + 4) front two three (omega arith) (omega arith) is2
    (at1 ∙ ap (λ xs. two ++ xs) (reversed_at levels (start + 1) (start + 2) (omega arith))) in
    falling_on levels start (start + 1) (start + 4) front three four (omega arith) (omega arith) is1
    (at0 ∙ ap (λ xs. three ++ xs) (reversed_at levels start (start + 1) refl))

-- the first `count` of at least `room` items
record Begins (order : List ℕ) (count room : ℕ) (first : List ℕ) : Type 0 where
  pub long : room ≤ length order
  pub is : take count order ≡ first

put : (order : List ℕ) (count room position : ℕ) (first : List ℕ) → count < room → Begins order count room first →
    Begins (set order count position) (count + 1) room (first ++ position ∷ [])
put order count room position first more h =
    record {
      long = omega (arith, h.long, length-set order count position);
      is = take_more_set order count position (omega (arith, h.long)) ∙ ap (λ xs. xs ++ position ∷ []) h.is;
    }

-- eight items that are written one after another
pub eight_put : (order : List ℕ) (a b c d e f g h : ℕ) → 8 ≤ length order →
    take 8 (set (set (set (set (set (set (set (set order 0 a) 1 b) 2 c) 3 d) 4 e) 5 f) 6 g) 7 h) ≡
    a ∷ b ∷ c ∷ d ∷ e ∷ f ∷ g ∷ h ∷ []
eight_put order a b c d e f g h long =
    let s0 : Begins order 0 8 [] = record { long = long; is = refl } in
    let o1 = set order 0 a in
    let s1 : Begins o1 1 8 (a ∷ []) = put order 0 8 a [] (omega arith) s0 in
    let o2 = set o1 1 b in
    let s2 : Begins o2 2 8 (a ∷ b ∷ []) = put o1 1 8 b (a ∷ []) (omega arith) s1 in
    let o3 = set o2 2 c in
    let s3 : Begins o3 3 8 (a ∷ b ∷ c ∷ []) = put o2 2 8 c (a ∷ b ∷ []) (omega arith) s2 in
    let o4 = set o3 3 d in
    let s4 : Begins o4 4 8 (a ∷ b ∷ c ∷ d ∷ []) = put o3 3 8 d (a ∷ b ∷ c ∷ []) (omega arith) s3 in
    let o5 = set o4 4 e in
    let s5 : Begins o5 5 8 (a ∷ b ∷ c ∷ d ∷ e ∷ []) = put o4 4 8 e (a ∷ b ∷ c ∷ d ∷ []) (omega arith) s4 in
    let o6 = set o5 5 f in
    let s6 : Begins o6 6 8 (a ∷ b ∷ c ∷ d ∷ e ∷ f ∷ []) =
    put o5 5 8 f (a ∷ b ∷ c ∷ d ∷ e ∷ []) (omega arith) s5 in
    let o7 = set o6 6 g in
    let s7 : Begins o7 7 8 (a ∷ b ∷ c ∷ d ∷ e ∷ f ∷ g ∷ []) =
    put o6 6 8 g (a ∷ b ∷ c ∷ d ∷ e ∷ f ∷ []) (omega arith) s6 in
    let s8 = put o7 7 8 h (a ∷ b ∷ c ∷ d ∷ e ∷ f ∷ g ∷ []) (omega arith) s7 in
    s8.is

-- eight positions, rising
pub eight_from : (start : ℕ) →
    start ∷ (start + 1) ∷ (start + 2) ∷ (start + 3) ∷ (start + 4) ∷ (start + 5) ∷ (start + 6) ∷ (start + 7) ∷ [] ≡
    positions_from start 8
eight_from start =
    let e2 : start + 1 + 1 ≡ start + 2 = omega arith in
    let e3 : start + 2 + 1 ≡ start + 3 = omega arith in
    let e4 : start + 3 + 1 ≡ start + 4 = omega arith in
    let e5 : start + 4 + 1 ≡ start + 5 = omega arith in
    let e6 : start + 5 + 1 ≡ start + 6 = omega arith in
    let e7 : start + 6 + 1 ≡ start + 7 = omega arith in
    rw (e2, e3, e4, e5, e6, e7) refl
