-- The lines of a byte list that goes on.
use Rattle.std.proofs.Common.{◌≡◌, ℕ, ◌==◌, List, [], ◌∷◌, ◌++◌, take, refl, sym, ap, ◌∙◌, arith, if◌then◌else◌, true, false}
use Rattle.std.proofs.lemmas.List.{take_more}
use Rattle.units.specs.Lines.{HasNoFeed, EndsAtFeed, CutsInto, cut_lines, but_last, but_last_from, ended_lines}
use Rattle.std.specs.List.{onto_first}
use Rattle.units.proofs.LineReading.{cut_lines-line, cut_lines-rest, cut_lines-CutsInto, cut_lines-long}

-- the last line of the first goes on with the first line of the second
abbrev join_from : List ℕ → List (List ℕ) → List (List ℕ) → List (List ℕ)
join_from line [] [] = line ∷ []
join_from line [] (next ∷ others) = (line ++ next) ∷ others
join_from line (next ∷ lines) others = line ∷ join_from next lines others

abbrev join : List (List ℕ) → List (List ℕ) → List (List ℕ)
join [] others = others
join (line ∷ lines) others = join_from line lines others

cut_lines-some : (bytes : List ℕ) → (line : List ℕ) × (rest : List (List ℕ)) × (cut_lines bytes ≡ line ∷ rest)
cut_lines-some bytes = let s = cut_lines-long [] bytes (λ k d lt. absurd (omega arith)) in (s.0, s.1, s.2)

onto-join : (x : ℕ) (line : List ℕ) (lines : List (List ℕ)) (next : List ℕ) (others : List (List ℕ))
    → onto_first x (join_from line lines (next ∷ others)) ≡ join_from (x ∷ line) lines (next ∷ others)
onto-join x line [] next others = refl
onto-join x line (l ∷ lines) next others = refl

cut_lines-append : (b xs : List ℕ) → cut_lines (b ++ xs) ≡ join (cut_lines b) (cut_lines xs)
cut_lines-append [] xs = let s = cut_lines-some xs in rw s.2 refl
cut_lines-append (x ∷ b) xs =
    let s = cut_lines-some b in
    let u = cut_lines-some xs in
    let again : cut_lines (b ++ xs) ≡ join_from s.0 s.1 (u.0 ∷ u.1) = cut_lines-append b xs ∙ (rw (s.2, u.2) refl) in
    rw (again, s.2, u.2) (
    elim (x == 10) as (λ t.
    (if t then [] ∷ join_from s.0 s.1 (u.0 ∷ u.1) else onto_first x (join_from s.0 s.1 (u.0 ∷ u.1)))
    ≡ join (if t then [] ∷ s.0 ∷ s.1 else onto_first x (s.0 ∷ s.1)) (u.0 ∷ u.1)) [
      | true ↦ refl
      | false ↦ onto-join x s.0 s.1 u.0 u.1
    ])

but_last-push : (lines : List (List ℕ)) (line : List ℕ) → but_last (lines ++ line ∷ []) ≡ lines
but_last-push [] line = refl
but_last-push (l ∷ []) line = refl
but_last-push (l ∷ k ∷ lines) line = ap (λ ls. l ∷ ls) (but_last-push (k ∷ lines) line)

-- what goes on and ends, and what goes on
join-feed : (line : List ℕ) (lines : List (List ℕ)) (t : List ℕ)
    → (z : List ℕ) × (join_from line lines (t ∷ [] ∷ []) ≡ (but_last_from line lines ++ z ∷ []) ++ [] ∷ [])
join-feed line [] t = (line ++ t, refl)
join-feed line (l ∷ lines) t = let again = join-feed l lines t in (again.0, ap (λ ls. line ∷ ls) again.1)

join-free : (line : List ℕ) (lines : List (List ℕ)) (t : List ℕ)
    → (z : List ℕ) × (join_from line lines (t ∷ []) ≡ but_last_from line lines ++ z ∷ [])
join-free line [] t = (line ++ t, refl)
join-free line (l ∷ lines) t = let again = join-free l lines t in (again.0, ap (λ ls. line ∷ ls) again.1)

pub ended_lines-CutsInto : (bytes : List ℕ) (lines : List (List ℕ)) (rest : List ℕ) → CutsInto bytes lines rest →
    ended_lines bytes ≡ lines
ended_lines-CutsInto bytes lines rest cut = ap but_last (cut_lines-CutsInto bytes lines rest cut) ∙
    but_last-push lines rest

-- a piece with no line feed ends no line
pub ended_lines-free : (b t : List ℕ) → HasNoFeed t → ended_lines (b ++ t) ≡ ended_lines b
ended_lines-free b t free =
    let s = cut_lines-some b in
    let j = join-free s.0 s.1 t in
    let whole : cut_lines (b ++ t) ≡ but_last_from s.0 s.1 ++ j.0 ∷ [] = cut_lines-append b t ∙
    (rw (s.2, cut_lines-rest t free) j.1) in
    ap but_last whole ∙ but_last-push (but_last_from s.0 s.1) j.0 ∙ sym (ap but_last s.2)

-- a line feed ends one line
pub ended_lines-feed : (b t : List ℕ) → HasNoFeed t →
    (z : List ℕ) × (ended_lines (b ++ (t ++ 10 ∷ [])) ≡ ended_lines b ++ z ∷ [])
ended_lines-feed b t free =
    let s = cut_lines-some b in
    let j = join-feed s.0 s.1 t in
    let whole : cut_lines (b ++ (t ++ 10 ∷ [])) ≡ (but_last_from s.0 s.1 ++ j.0 ∷ []) ++ [] ∷ [] =
    cut_lines-append b (t ++ 10 ∷ []) ∙ (rw (s.2, cut_lines-line t [] free) j.1) in (
      j.0,
      ap but_last whole ∙ but_last-push (but_last_from s.0 s.1 ++ j.0 ∷ []) [] ∙
          ap (λ ls. ls ++ j.0 ∷ []) (sym (ap but_last s.2)),
    )

pub take_feed : (used : ℕ) (piece : List ℕ) (e : EndsAtFeed used piece) → take used piece ≡ take e.at piece ++ 10 ∷ []
take_feed used piece e = ap (λ n. take n piece) e.is ∙ take_more piece e.at 0 e.inside ∙
    ap (λ x. take e.at piece ++ x ∷ []) e.feed

-- the line that a piece ends comes after the lines that had ended
pub ended_lines-line : (b piece : List ℕ) (used : ℕ) (lines : List (List ℕ)) (text : List ℕ) → EndsAtFeed used piece
    → CutsInto (b ++ take used piece) (lines ++ text ∷ []) [] → ended_lines (b ++ take used piece) ≡ ended_lines b ++
    text ∷ []
ended_lines-line b piece used lines text e cut =
    let f = ended_lines-feed b (take e.at piece) e.before in
    let one : ended_lines (b ++ take used piece) ≡ ended_lines b ++ f.0 ∷ [] =
    ap (λ t. ended_lines (b ++ t)) (take_feed used piece e) ∙ f.1 in
    let other : ended_lines (b ++ take used piece) ≡ lines ++ text ∷ [] =
    ended_lines-CutsInto _ (lines ++ text ∷ []) [] cut in
    let same : ended_lines b ≡ lines = sym (but_last-push (ended_lines b) f.0) ∙ ap but_last (sym one ∙ other) ∙
    but_last-push lines text in
    other ∙ ap (λ ls. ls ++ text ∷ []) (sym same)
