-- Positions that have been dropped one after the other, from left to right.
use Rattle.std.specs.Prelude.{ℕ, zero, suc, ◌+◌, ◌≡◌, List, [], ◌∷◌, ◌++◌, length, map, refl}
use Rattle.std.proofs.Common.{arith, ap, sym, ◌∙◌, append_assoc}
use Rattle.compress.specs.Spread.{put, twice, copies, spread, merged, ones}

copies-more : {A : Type 0} (v w : ℕ) (x : A) (ys : List A) → copies v x ++ (copies w x ++ ys) ≡ copies (v + w) x ++ ys
copies-more zero w x ys = let e : w ≡ 0 + w = omega arith in ap (λ (n : ℕ). copies n x ++ ys) e
copies-more (suc v) w x ys =
    let e : suc (v + w) ≡ suc v + w = omega arith in
    ap (λ zs. x ∷ zs) (copies-more v w x ys) ∙ ap (λ (n : ℕ). copies n x ++ ys) e

pub spread-twice : {A : Type 0} (ws : List ℕ) (k : ℕ) (xs : List A) → spread ws (twice k xs) ≡ spread (merged k ws) xs
spread-twice [] k xs = refl
spread-twice (v ∷ []) zero [] = refl
spread-twice (v ∷ w ∷ ws) zero [] = refl
spread-twice (v ∷ ws) (suc k) [] = refl
spread-twice (v ∷ []) zero (x ∷ xs) = refl
spread-twice (v ∷ w ∷ ws) zero (x ∷ xs) = copies-more v w x (spread ws xs)
spread-twice (v ∷ ws) (suc k) (x ∷ xs) = ap (λ ys. copies v x ++ ys) (spread-twice ws k xs)

pub map-twice : {A B : Type 0} (f : A → B) (k : ℕ) (xs : List A) → map f (twice k xs) ≡ twice k (map f xs)
map-twice f k [] = refl
map-twice f zero (x ∷ xs) = refl
map-twice f (suc k) (x ∷ xs) = ap (λ ys. f x ∷ ys) (map-twice f k xs)

pub map-put : {A B : Type 0} (f : A → B) (k : ℕ) (d : A) (xs : List A) → map f (put k d xs) ≡ put k (f d) (map f xs)
map-put f k d [] = refl
map-put f zero d (x ∷ xs) = refl
map-put f (suc k) d (x ∷ xs) = ap (λ ys. f x ∷ ys) (map-put f k d xs)

-- F makes of `all` what it makes of `now`, each as often as it counts
abbrev pub Spreads : {A B : Type 0} → (List A → List B) → List A → List A → List ℕ → Type 0
Spreads F all now ws = F all ≡ spread ws (F now)

-- d may be dropped after the item at k: all others keep what F makes of them, and d has what that item has
abbrev pub Drops : {A B : Type 0} → (List A → List B) → ℕ → A → List A → Type 0
Drops F k d now = F (put k d now) ≡ twice k (F now)

-- the same of any items
pub spread_less : {A B : Type 0} (F : List A → List B) (ys : List B) (now : List A) (ws : List ℕ) (k : ℕ) (d : A) → ys ≡ spread ws (F (put k d now)) → Drops F k d now →
    ys ≡ spread (merged k ws) (F now)
spread_less F ys now ws k d s e = s ∙ ap (spread ws) e ∙ spread-twice ws k (F now)

-- one more is dropped
pub spreads_less : {A B : Type 0} (F : List A → List B) (all now : List A) (ws : List ℕ) (k : ℕ) (d : A) → Spreads F all (put k d now) ws → Drops F k d now →
    Spreads F all now (merged k ws)
spreads_less F all now ws k d s e = spread_less F (F all) now ws k d s e

pub spread-ones : {B : Type 0} (ys : List B) → spread (ones ys) ys ≡ ys
spread-ones [] = refl
spread-ones (y ∷ ys) = ap (λ zs. y ∷ zs) (spread-ones ys)

pub ones-length : {A B : Type 0} (xs : List A) (ys : List B) → length xs ≡ length ys → ones xs ≡ ones ys
ones-length [] [] e = refl
ones-length [] (y ∷ ys) e = absurd (omega arith)
ones-length (x ∷ xs) [] e = absurd (omega arith)
ones-length (x ∷ xs) (y ∷ ys) e = let n : length xs ≡ length ys = omega arith in ap (λ (ws : List ℕ). 1 ∷ ws) (ones-length xs ys n)

-- before the first
pub spreads_start : {A B : Type 0} (F : List A → List B) (all : List A) → length (F all) ≡ length all → Spreads F all all (ones all)
spreads_start F all n = sym (ap (λ ws. spread ws (F all)) (ones-length all (F all) (sym n)) ∙ spread-ones (F all))

-- a pass from left to right, which has chosen these, and these are tail; each of those chosen counts for so many
pub record Compressed {A B : Type 0} (F : List A → List B) (all chosen tail : List A) (ws : List ℕ) : Type 0 where
  pub spreads : Spreads F all (chosen ++ tail) (ws ++ ones tail)
  pub long : length ws ≡ length chosen

append-next : {A : Type 0} (xs : List A) (y : A) (ys : List A) → (xs ++ (y ∷ [])) ++ ys ≡ xs ++ (y ∷ ys)
append-next xs y ys = append_assoc xs (y ∷ []) ys

length-next : {A : Type 0} (xs : List A) (y : A) → length (xs ++ (y ∷ [])) ≡ suc (length xs)
length-next [] y = refl
length-next (x ∷ xs) y = ap (λ n. suc n) (length-next xs y)

pub compressed_start : {A B : Type 0} (F : List A → List B) (all : List A) → length (F all) ≡ length all → Compressed F all [] all []
compressed_start F all n = record { spreads = spreads_start F all n; long = refl }

-- the next one is chosen
pub compressed_keeps : {A B : Type 0} (F : List A → List B) (all chosen : List A) (u : A) (tail : List A) (ws : List ℕ) →
    Compressed F all chosen (u ∷ tail) ws → Compressed F all (chosen ++ (u ∷ [])) tail (ws ++ (1 ∷ []))
compressed_keeps F all chosen u tail ws c = record {
  spreads = c.spreads ∙ ap (λ (vs : List ℕ). spread vs (F (chosen ++ (u ∷ tail)))) (sym (append-next ws 1 (ones tail))) ∙ ap (λ xs. spread ((ws ++ (1 ∷ [])) ++ ones tail) (F xs)) (sym (append-next chosen u tail));
  long = length-next ws 1 ∙ ap (λ n. suc n) c.long ∙ sym (length-next chosen u);
}

put-after : {A : Type 0} (front : List A) (c d : A) (tail : List A) → put (length front) d ((front ++ (c ∷ [])) ++ tail) ≡ (front ++ (c ∷ [])) ++ (d ∷ tail)
put-after [] c d tail = refl
put-after (f ∷ front) c d tail = ap (λ xs. f ∷ xs) (put-after front c d tail)

merged-after : (vs : List ℕ) (v : ℕ) (more : List ℕ) → merged (length vs) ((vs ++ (v ∷ [])) ++ (1 ∷ more)) ≡ (vs ++ ((v + 1) ∷ [])) ++ more
merged-after [] v more = refl
merged-after (w ∷ vs) v more = ap (λ xs. w ∷ xs) (merged-after vs v more)

-- the next one is dropped after the last that was chosen
pub compressed_drops : {A B : Type 0} (F : List A → List B) (all front : List A) (c d : A) (tail : List A) (vs : List ℕ) (v : ℕ) → length vs ≡ length front →
    Compressed F all (front ++ (c ∷ [])) (d ∷ tail) (vs ++ (v ∷ [])) → Drops F (length front) d ((front ++ (c ∷ [])) ++ tail) →
    Compressed F all (front ++ (c ∷ [])) tail (vs ++ ((v + 1) ∷ []))
compressed_drops F all front c d tail vs v n s drops = record {
  spreads = spreads_less F all ((front ++ (c ∷ [])) ++ tail) ((vs ++ (v ∷ [])) ++ (1 ∷ ones tail)) (length front) d
      (s.spreads ∙ ap (λ xs. spread ((vs ++ (v ∷ [])) ++ (1 ∷ ones tail)) (F xs)) (sym (put-after front c d tail))) drops
      ∙ ap (λ (k : ℕ). spread (merged k ((vs ++ (v ∷ [])) ++ (1 ∷ ones tail))) (F ((front ++ (c ∷ [])) ++ tail))) (sym n)
      ∙ ap (λ (ws : List ℕ). spread ws (F ((front ++ (c ∷ [])) ++ tail))) (merged-after vs v (ones tail));
  long = length-next vs (v + 1) ∙ ap (λ n. suc n) n ∙ sym (length-next front c);
}

merged-last : (vs : List ℕ) (v w : ℕ) (more : List ℕ) → merged (length vs) ((vs ++ (v ∷ w ∷ [])) ++ more) ≡ (vs ++ ((v + w) ∷ [])) ++ more
merged-last [] v w more = refl
merged-last (u ∷ vs) v w more = ap (λ xs. u ∷ xs) (merged-last vs v w more)

put-last : {A : Type 0} (front : List A) (c d : A) (tail : List A) → put (length front) d ((front ++ (c ∷ [])) ++ tail) ≡ (front ++ (c ∷ d ∷ [])) ++ tail
put-last [] c d tail = refl
put-last (f ∷ front) c d tail = ap (λ xs. f ∷ xs) (put-last front c d tail)

-- the last that was chosen is dropped after all, once the next one is known
pub compressed_pops : {A B : Type 0} (F : List A → List B) (all front : List A) (c d : A) (tail : List A) (vs : List ℕ) (v w : ℕ) → length vs ≡ length front →
    Compressed F all (front ++ (c ∷ d ∷ [])) tail (vs ++ (v ∷ w ∷ [])) → Drops F (length front) d ((front ++ (c ∷ [])) ++ tail) →
    Compressed F all (front ++ (c ∷ [])) tail (vs ++ ((v + w) ∷ []))
compressed_pops F all front c d tail vs v w n s drops = record {
  spreads = spreads_less F all ((front ++ (c ∷ [])) ++ tail) ((vs ++ (v ∷ w ∷ [])) ++ ones tail) (length front) d
      (s.spreads ∙ ap (λ xs. spread ((vs ++ (v ∷ w ∷ [])) ++ ones tail) (F xs)) (sym (put-last front c d tail))) drops
      ∙ ap (λ (k : ℕ). spread (merged k ((vs ++ (v ∷ w ∷ [])) ++ ones tail)) (F ((front ++ (c ∷ [])) ++ tail))) (sym n)
      ∙ ap (λ (ws : List ℕ). spread ws (F ((front ++ (c ∷ [])) ++ tail))) (merged-last vs v w (ones tail));
  long = length-next vs (v + w) ∙ ap (λ n. suc n) n ∙ sym (length-next front c);
}

append-none : {A : Type 0} (xs : List A) → xs ++ [] ≡ xs
append-none [] = refl
append-none (x ∷ xs) = ap (λ ys. x ∷ ys) (append-none xs)

-- in the end
pub compressed_end : {A B : Type 0} (F : List A → List B) (all chosen : List A) (ws : List ℕ) → Compressed F all chosen [] ws → F all ≡ spread ws (F chosen)
compressed_end F all chosen ws c = c.spreads ∙ ap (λ vs. spread vs (F (chosen ++ []))) (append-none ws) ∙ ap (λ xs. spread ws (F xs)) (append-none chosen)
