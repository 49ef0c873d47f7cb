-- The column of the positions of all sequences, and the heads, which say where each one begins and ends in it.
use Rattle.std.specs.Prelude.{Option, Some, None, ℕ, zero, suc, true, false, ◌+◌, ◌-◌, ◌<◌, ◌≤◌, ◌≡◌, List, [], ◌∷◌, ◌++◌, length, map, filter, IfSome, All, unwrap_or, slice_range, sum_by, refl}
use Rattle.std.specs.List.{flat_map}
use Rattle.std.proofs.Common.{arith, ap, sym, ◌∙◌, subst, inl, inr, take, drop, append_assoc}
use Rattle.std.proofs.Math.Seq.{drop-append_seam}
use Rattle.std.proofs.lemmas.Bool.{cases_Bool, cond-true, cond-false}
use Rattle.std.proofs.lemmas.List.{append-nil, length-append, take_at, take-append-drop}
use Rattle.std.proofs.lemmas.List.Elements.{filter-append, All-nil, All-cons}
use Rattle.std.proofs.lemmas.List.Concat.{flat_map-append}
use Rattle.units.specs.Positions.{positions_from}
use Rattle.units.specs.Runs.{SequenceView, LeveledView, size_of, successor, begins_sequence, sequence_from, sequence_at, sequences_of}
use Rattle.explicit.specs.Leveled.{IsLeveled}
use Rattle.sequences.specs.declared.heads.Head.{Head}
use Rattle.sequences.specs.Links.{link_at}
use Rattle.sequences.specs.Heads.{head_at, heads_from, heads_of, firsts_before, column_before, column_of, sequence_of_head, IsHead}
use Rattle.explicit.specs.Leveled.{IsNested}
use Rattle.sequences.proofs.Forward.{successor_later}
use Rattle.sequences.proofs.Links.{followed_rises, followed_chain, rising_positions}
use Rattle.sequences.proofs.Marks.{positions_more}
use Rattle.sequences.proofs.Once.{flat_views}
use Rattle.sequences.proofs.Fits.{length-flat, sequences_fit}

firsts_more : (t : LeveledView) (k : ℕ) → firsts_before t (k + 1) ≡ firsts_before t k ++
    filter (begins_sequence t) (k ∷ [])
firsts_more t k =
    ap (filter (begins_sequence t)) (positions_more k) ∙ filter-append (begins_sequence t) (positions_from 0 k) (k ∷ [])

pub firsts_push : (t : LeveledView) (k : ℕ) → begins_sequence t k ≡ true →
    firsts_before t (k + 1) ≡ firsts_before t k ++ k ∷ []
firsts_push t k b =
    firsts_more t k ∙ ap (λ (ps : List ℕ). firsts_before t k ++ ps) (cond-true (begins_sequence t k) (k ∷ []) [] b)

pub firsts_same : (t : LeveledView) (k : ℕ) → begins_sequence t k ≡ false → firsts_before t (k + 1) ≡ firsts_before t k
firsts_same t k b = grind (arith, firsts_more, cond-false, append-nil)

pub column_push : (t : LeveledView) (k : ℕ) → begins_sequence t k ≡ true →
    column_before t (k + 1) ≡ column_before t k ++ sequence_from t k
column_push t k b = grind (arith, firsts_push, flat_map-append, append-nil)

pub column_same : (t : LeveledView) (k : ℕ) → begins_sequence t k ≡ false → column_before t (k + 1) ≡ column_before t k
column_same t k b = ap (flat_map (sequence_from t)) (firsts_same t k b)

heads_from-push : (t : LeveledView) (start : ℕ) (ps : List ℕ) (p : ℕ) →
    heads_from t start (ps ++ p ∷ []) ≡ heads_from t start ps ++
    head_at t p (start + length (flat_map (sequence_from t) ps)) ∷ []
heads_from-push t start [] p = let e : start ≡ start + 0 = omega arith in ap (λ s. head_at t p s ∷ []) e
heads_from-push t start (q ∷ ps) p =
    let n : ℕ = length (sequence_from t q) in
    let e : start + n + length (flat_map (sequence_from t) ps) ≡ start + length (sequence_from t q ++
    flat_map (sequence_from t) ps) =
    omega (arith, length-append (sequence_from t q) (flat_map (sequence_from t) ps)) in
    ap (λ (hs : List Head). head_at t q start ∷ hs) (heads_from-push t (start + n) ps p ∙
    ap (λ s. heads_from t (start + n) ps ++ head_at t p s ∷ []) e)

pub heads_push : (t : LeveledView) (k : ℕ) → begins_sequence t k ≡ true →
    heads_from t 0 (firsts_before t (k + 1)) ≡ heads_from t 0 (firsts_before t k) ++
    head_at t k (length (column_before t k)) ∷ []
heads_push t k b = grind (arith, firsts_push, heads_from-push)

pub heads_same : (t : LeveledView) (k : ℕ) → begins_sequence t k ≡ false →
    heads_from t 0 (firsts_before t (k + 1)) ≡ heads_from t 0 (firsts_before t k)
heads_same t k b = ap (heads_from t 0) (firsts_same t k b)

-- the column has as many positions as the sequences together
pub length-column : (t : LeveledView) →
    length (column_of t) ≡ sum_by (λ (s : SequenceView). length s.positions) (sequences_of t)
length-column t = sym (ap length (flat_views t (firsts_before t (size_of t)))) ∙ length-flat (sequences_of t)

-- the column has room for all positions
pub column_fits : (t : LeveledView) → IsLeveled t → IsNested t → length (column_of t) ≤ size_of t
column_fits t h n =
    omega (arith, sequences_fit t h n, length-column t)

column_grows : (t : LeveledView) (k n : ℕ) → length (column_before t k) ≤ length (column_before t (k + n))
column_grows t k zero = let e : k ≡ k + 0 = omega arith in omega (arith, ap (λ j. length (column_before t j)) e)
column_grows t k (suc n) =
    let e : k + suc n ≡ (k + n) + 1 = omega arith in
    elim (cases_Bool (begins_sequence t (k + n))) [
      | inl b ↦ omega (
        arith,
        column_grows t k n,
        ap (λ j. length (column_before t j)) e,
        ap length (column_push t (k + n) b),
        length-append (column_before t (k + n)) (sequence_from t (k + n)),
      )
      | inr b ↦ omega (
        arith,
        column_grows t k n,
        ap (λ j. length (column_before t j)) e,
        ap length (column_same t (k + n) b),
      )
    ]

-- at each step there is space for one more sequence
pub column_room : (t : LeveledView) → IsLeveled t → IsNested t → (k : ℕ) → k < size_of t → begins_sequence t k ≡ true →
    length (column_before t k) + length (sequence_from t k) ≤ size_of t
column_room t h n k l b =
    let e : k + 1 + (size_of t - (k + 1)) ≡ size_of t = omega arith in
    omega (
      arith,
      column_fits t h n,
      column_grows t (k + 1) (size_of t - (k + 1)),
      ap (λ j. length (column_before t j)) e,
      ap length (column_push t k b),
      length-append (column_before t k) (sequence_from t k),
    )

slice_here : (before here after : List ℕ) →
    slice_range (before ++ (here ++ after)) (length before) (length before + length here) ≡ here
slice_here before here after = grind (arith, drop-append_seam, take_at)

-- the column from here on, with the unused rest
abbrev rest_of : LeveledView → List ℕ → List ℕ → List ℕ
rest_of t spare [] = spare
rest_of t spare (p ∷ ps) = sequence_from t p ++ rest_of t spare ps

rest_is : (t : LeveledView) (spare ps : List ℕ) → rest_of t spare ps ≡ flat_map (sequence_from t) ps ++ spare
rest_is t spare [] = refl
rest_is t spare (p ∷ ps) = grind (arith, append_assoc, rest_is t spare ps)

views_are : (t : LeveledView) (spare before : List ℕ) (start : ℕ) → start ≡ length before → (ps : List ℕ) →
    map (sequence_of_head (before ++ rest_of t spare ps) (size_of t)) (heads_from t start ps) ≡ map (sequence_at t) ps
views_are t spare before start s [] = refl
views_are t spare before start s (p ∷ ps) =
    let column : List ℕ = before ++ rest_of t spare (p ∷ ps) in
    let n : ℕ = length (sequence_from t p) in
    let positions : slice_range column start (start + n) ≡ sequence_from t p =
    ap (λ k. slice_range column k (k + n)) s ∙ slice_here before (sequence_from t p) (rest_of t spare ps) in
    let first : sequence_of_head column (size_of t) (head_at t p start) ≡ sequence_at t p =
    ap (λ (qs : List ℕ). let v : SequenceView = record {
      positions = qs;
      level = (sequence_at t p).level;
      sos =
          (sequence_at t p).sos;
      eos = (sequence_at t p).eos;
      extent = size_of t;
    } in v) positions in
    let moved : (before ++ sequence_from t p) ++ rest_of t spare ps ≡ column =
    append_assoc before (sequence_from t p) (rest_of t spare ps) in
    let rest : map (sequence_of_head column (size_of t)) (heads_from t (start + n) ps) ≡ map (sequence_at t) ps =
    ap (λ (qs : List ℕ). map (sequence_of_head qs (size_of t)) (heads_from t (start + n) ps)) (sym moved)
    ∙ views_are t spare (before ++ sequence_from t p) (start + n) (omega (
      arith,
      s,
      length-append before (sequence_from t p),
    )) ps in
    cc

-- the positions of all sequences are at the front of the column
abbrev pub IsInFront : LeveledView → List ℕ → Type 0
IsInFront t column = take (length (column_of t)) column ≡ column_of t

column_is : (t : LeveledView) (column : List ℕ) → IsInFront t column →
    rest_of t (drop (length (column_of t)) column) (firsts_before t (size_of t)) ≡ column
column_is t column front = grind (arith, rest_is, take-append-drop)

-- the heads over the column are the sequences
pub views_of_heads : (t : LeveledView) (column : List ℕ) → IsInFront t column →
    map (sequence_of_head column (size_of t)) (heads_of t) ≡ sequences_of t
views_of_heads t column front =
    let spare : List ℕ = drop (length (column_of t)) column in
    ap (λ (ps : List ℕ). map (sequence_of_head ps (size_of t)) (heads_of t)) (sym (column_is t column front))
    ∙ views_are t spare [] 0 refl (firsts_before t (size_of t))

level_within : (o : Option ℕ) (base : ℕ) → IfSome o (λ l. l ≤ 125) → base ≤ 1 → unwrap_or o base ≤ 125
level_within None base h b = omega (arith, b)
level_within (Some l) base h b = h

module _ (t : LeveledView) (h : IsLeveled t) (links : List (Option ℕ)) (fit : length links ≡ size_of t) (are : (p : ℕ) →
    link_at links p ≡ successor t p) where
  represents : (column : List ℕ) (p start : ℕ) → p < size_of t → start + length (sequence_from t p) ≤ length column →
      slice_range column start (start + length (sequence_from t p)) ≡ sequence_from t p →
      IsHead column links (head_at t p start)
  represents column p start l room e =
      grind (arith, rising_positions, followed_rises, successor_later, followed_chain, level_within)

  headed : (spare : List ℕ) (a n : ℕ) → a + n ≤ size_of t → (before : List ℕ) (start : ℕ) → start ≡ length before →
      All (IsHead (before ++ rest_of t spare (filter (begins_sequence t) (positions_from a n))) links)
      (heads_from t start (filter (begins_sequence t) (positions_from a n)))
  headed spare a zero l before start s = All-nil (IsHead (before ++ spare) links)
  headed spare a (suc n) l before start s =
      let later : List ℕ = filter (begins_sequence t) (positions_from (a + 1) n) in
      let P : List ℕ → Type 0 = λ ps. All (IsHead (before ++ rest_of t spare ps) links) (heads_from t start ps) in
      elim (cases_Bool (begins_sequence t a)) [
        | inl b ↦
            let column : List ℕ = before ++ rest_of t spare (a ∷ later) in
            let m : ℕ = length (sequence_from t a) in
            let moved : (before ++ sequence_from t a) ++ rest_of t spare later ≡ column =
            append_assoc before (sequence_from t a) (rest_of t spare later) in
            let Q : List ℕ → Type 0 = λ qs. All (IsHead qs links) (heads_from t (start + m) later) in
            let rest : Q column =
            subst Q moved (headed spare (a + 1) n (omega arith) (before ++ sequence_from t a) (start + m)
            (omega (arith, s, length-append before (sequence_from t a)))) in
            let positions : slice_range column start (start + m) ≡ sequence_from t a =
            ap (λ k. slice_range column k (k + m)) s ∙ slice_here before (sequence_from t a) (rest_of t spare later) in
            let room : start + m ≤ length column =
            omega (
              arith,
              s,
              length-append before (rest_of t spare (a ∷ later)),
              length-append (sequence_from t a) (rest_of t spare later),
            ) in
            subst P (sym (cond-true (begins_sequence t a) (a ∷ later) later b))
            (All-cons (IsHead column links) (head_at t a start) (heads_from t (start + m) later)
            (represents column a start (omega arith) room positions) rest)
        | inr f ↦ subst P (sym (cond-false (begins_sequence t a) (a ∷ later) later f))
            (headed spare (a + 1) n (omega arith) before start s)
      ]

  -- each head describes a part of the column and its links
  pub heads_stand : (column : List ℕ) → IsInFront t column → All (IsHead column links) (heads_of t)
  heads_stand column front =
      let spare : List ℕ = drop (length (column_of t)) column in
      let P : List ℕ → Type 0 = λ ps. All (IsHead ps links) (heads_of t) in
      subst P (column_is t column front) (headed spare 0 (size_of t) (omega arith) [] 0 refl)
