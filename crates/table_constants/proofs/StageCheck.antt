-- A test that two stages give the values of some steps. If one step covers a block, one comparison tests the block.
use Rattle.std.proofs.Common.{arith, ◌≡◌, ℕ, zero, suc, ◌+◌, ◌*◌, ◌/◌, ◌%◌, ◌<◌, ◌≤◌, Bool, true, false, cond, if◌then◌else◌, ◌&&◌, ◌==◌, nat_le, Option, None, Some, List, [], ◌∷◌, map, length, get_or, drop, slice_index_or, refl, sym, ap, subst, ◌∙◌, leb-true, eqb-true, suc-mul, zero-mul, div-add-mod', drop-drop, get_or-drop, length-drop, le_of_suc-le-suc, not-suc-le-zero}
use Rattle.std.proofs.lemmas.Bool.{cond_both, and_parts}
use Rattle.std.proofs.lemmas.List.{get_or_default}
use Rattle.std.proofs.lemmas.Nat.{mod_below}
use Rattle.ucd_table.specs.Steps.{Step, step_value}
use Rattle.ucd_table.proofs.StepsLemmas.{step_value-nil, step_value-here, skip, step_value-skip}
use Rattle.ucdfiles.specs.Stages.{Stages, AreStages, stage_at}

-- the values from each block on
unfoldable pub block_starts : ℕ → {V : Type 0} → List V → List (List V)
block_starts zero vs = []
block_starts (suc n) vs = vs ∷ block_starts n (drop 128 vs)

get_or-block_starts : {V : Type 0} (n : ℕ) (vs : List V) (k : ℕ) → 0 < length (get_or (block_starts n vs) k []) →
    get_or (block_starts n vs) k [] ≡ drop (k * 128) vs
unfolding block_starts
get_or-block_starts zero vs k h = absurd (not-suc-le-zero h)
get_or-block_starts (suc n) vs zero h = refl
get_or-block_starts (suc n) vs (suc k) h =
    let sum : 128 + k * 128 ≡ suc k * 128 = omega (arith, suc-mul k 128) in
    get_or-block_starts n (drop 128 vs) k h ∙ drop-drop (k * 128) 128 vs ∙ ap (λ m. drop m vs) sum

module _ {V : Type 0} (eq : V → V → Bool) (exact : (x y : V) → eq x y ≡ true → x ≡ y) (d : V) where
  -- the first n values are v
  unfoldable pub all_same : ℕ → V → List V → Bool
  all_same zero v vs = true
  all_same (suc n) v [] = false
  all_same (suc n) v (w ∷ vs) = eq w v && all_same n v vs

  -- the first n values are those of the steps from c on
  unfoldable pub each_ok : ℕ → List V → ℕ → List (Step V) → Bool
  each_ok zero vs c ss = true
  each_ok (suc n) [] c ss = false
  each_ok (suc n) (w ∷ vs) c ss = let here = skip ss c in eq w (step_value d here c) && each_ok n vs (c + 1) here

  -- the value of a block, if all its values are equal
  unfoldable pub only_value : List V → Option V
  only_value [] = None
  only_value (v ∷ vs) = if all_same 128 v (v ∷ vs) then Some v else None

  -- the block has one value: that of the first step, which covers it, or the default after the last step
  unfoldable pub covered : Option V → ℕ → List (Step V) → Bool
  covered None c ss = false
  covered (Some v) c [] = eq v d
  covered (Some v) c (s ∷ ss) = nat_le (c + 128) s.0 && eq v s.1

  unfoldable pub numbers_ok : List (Option V) → List (List V) → List ℕ → ℕ → List (Step V) → Bool
  numbers_ok onlys blocks [] c ss = true
  numbers_ok onlys blocks (k ∷ ks) c ss =
      let here = skip ss c in
      let each = each_ok 128 (get_or blocks k []) c here in
      cond (covered (get_or onlys k None) c here) true each && numbers_ok onlys blocks ks (c + 128) here

  only-at : (blocks : List (List V)) (k : ℕ) → get_or (map only_value blocks) k None ≡ only_value (get_or blocks k [])
  unfolding only_value
  only-at [] k = refl
  only-at (b ∷ blocks) zero = refl
  only-at (b ∷ blocks) (suc k) = only-at blocks k

  -- the first n values are those from c on
  record Holds (n : ℕ) (vs : List V) (c : ℕ) (ss : List (Step V)) : Type 0 where
    room : n ≤ length vs
    values : (i : ℕ) (none : V) → i < n → slice_index_or vs i none ≡ step_value d ss (c + i)

  Holds-skip : (n : ℕ) (vs : List V) (c : ℕ) (ss : List (Step V)) → Holds n vs c (skip ss c) → Holds n vs c ss
  Holds-skip n vs c ss h =
      record { room = h.room; values = λ i none lt. h.values i none lt ∙ step_value-skip d ss c (c + i) (omega arith) }

  record Same (n : ℕ) (v : V) (vs : List V) : Type 0 where
    room : n ≤ length vs
    values : (i : ℕ) (none : V) → i < n → slice_index_or vs i none ≡ v

  same-cons : (n : ℕ) (v w : V) (vs : List V) → w ≡ v → Same n v vs → (i : ℕ) (none : V) → i < suc n →
      slice_index_or (w ∷ vs) i none ≡ v
  same-cons n v w vs e rest zero none lt = e
  same-cons n v w vs e rest (suc i) none lt = rest.values i none (le_of_suc-le-suc lt)

  all_same-true : (n : ℕ) (v : V) (vs : List V) → all_same n v vs ≡ true → Same n v vs
  unfolding all_same
  all_same-true zero v vs h = record { room = omega arith; values = λ i none lt. absurd (not-suc-le-zero lt) }
  all_same-true (suc n) v [] h = cc
  all_same-true (suc n) v (w ∷ vs) h =
      let parts = and_parts (eq w v) (all_same n v vs) h in
      let rest = all_same-true n v vs parts.1 in
      let room = rest.room in
      record { room = omega arith; values = same-cons n v w vs (exact w v parts.0) rest }

  holds-cons : (n c : ℕ) (w : V) (vs : List V) (ss : List (Step V)) → w ≡ step_value d ss c → Holds n vs (c + 1) ss →
      (i : ℕ) (none : V) → i < suc n → slice_index_or (w ∷ vs) i none ≡ step_value d ss (c + i)
  holds-cons n c w vs ss e rest zero none lt = let at : c ≡ c + zero = omega arith in e ∙ ap (step_value d ss) at
  holds-cons n c w vs ss e rest (suc i) none lt =
      let at : c + 1 + i ≡ c + suc i = omega arith in
      rest.values i none (le_of_suc-le-suc lt) ∙ ap (step_value d ss) at

  each_ok-true : (n : ℕ) (vs : List V) (c : ℕ) (ss : List (Step V)) → each_ok n vs c ss ≡ true → Holds n vs c ss
  unfolding each_ok
  each_ok-true zero vs c ss h = record { room = omega arith; values = λ i none lt. absurd (not-suc-le-zero lt) }
  each_ok-true (suc n) [] c ss h = cc
  each_ok-true (suc n) (w ∷ vs) c ss h =
      let parts = and_parts (eq w (step_value d (skip ss c) c)) (each_ok n vs (c + 1) (skip ss c)) h in
      let rest = each_ok-true n vs (c + 1) (skip ss c) parts.1 in
      let room = rest.room in
      Holds-skip (suc n) (w ∷ vs) c ss (record {
        room = omega arith;
        values =
            holds-cons n c w vs (skip ss c) (exact w _ parts.0) rest;
      })

  covered-true : (vs : List V) (c : ℕ) (ss : List (Step V)) → covered (only_value vs) c ss ≡ true → Holds 128 vs c ss
  unfolding only_value covered
  covered-true [] c ss h = absurd (let bad : ⊥ = cc in bad)
  covered-true (v ∷ vs) c [] h =
      cond_both (all_same 128 v (v ∷ vs)) (Some v) None (λ o. covered o c [] ≡ true → Holds 128 (v ∷ vs) c [])
      (λ same is.
      let all = all_same-true 128 v (v ∷ vs) same in
      record {
        room = all.room;
        values = λ i none lt. all.values i none lt ∙ exact v d is ∙
            sym (step_value-nil d (c + i));
      })
      (λ other bad. cc) h
  covered-true (v ∷ vs) c (s ∷ ss) h =
      cond_both (all_same 128 v (v ∷ vs)) (Some v) None (λ o. covered o c (s ∷ ss) ≡ true →
      Holds 128 (v ∷ vs) c (s ∷ ss))
      (λ same is.
      let parts = and_parts (nat_le (c + 128) s.0) (eq v s.1) is in
      let le = leb-true (c + 128) s.0 parts.0 in
      let all = all_same-true 128 v (v ∷ vs) same in
      record {
        room = all.room;
        values = λ i none lt. all.values i none lt ∙ exact v s.1 parts.1 ∙
            sym (step_value-here d s ss (c + i) (omega arith));
      })
      (λ other bad. cc) h

  numbers_ok-true : (blocks : List (List V)) (ks : List ℕ) (c : ℕ) (ss : List (Step V)) →
      numbers_ok (map only_value blocks) blocks ks c ss ≡ true → (b : ℕ) → b < length ks
      → Holds 128 (get_or blocks (slice_index_or ks b 0) []) (c + b * 128) ss
  unfolding numbers_ok
  numbers_ok-true blocks [] c ss h b lt = absurd (not-suc-le-zero lt)
  numbers_ok-true blocks (k ∷ ks) c ss h zero lt =
      let onlys = map only_value blocks in
      let parts = and_parts (cond (covered (get_or onlys k None) c (skip ss c)) true
      (each_ok 128 (get_or blocks k []) c (skip ss c))) (numbers_ok onlys blocks ks (c + 128) (skip ss c)) h in
      let at : c ≡ c + zero * 128 = omega (arith, zero-mul 128) in
      subst (λ x. Holds 128 (get_or blocks k []) x ss) at
      (Holds-skip 128 (get_or blocks k []) c ss
      (cond_both (covered (get_or onlys k None) c (skip ss c)) true (each_ok 128 (get_or blocks k []) c (skip ss c))
      (λ b. b ≡ true → Holds 128 (get_or blocks k []) c (skip ss c))
      (λ is _. covered-true (get_or blocks k []) c (skip ss c)
      (ap (λ o. covered o c (skip ss c)) (sym (only-at blocks k)) ∙ is))
      (λ _ each. each_ok-true 128 (get_or blocks k []) c (skip ss c) each)
      parts.0))
  numbers_ok-true blocks (k ∷ ks) c ss h (suc b) lt =
      let onlys = map only_value blocks in
      let parts = and_parts (cond (covered (get_or onlys k None) c (skip ss c)) true
      (each_ok 128 (get_or blocks k []) c (skip ss c))) (numbers_ok onlys blocks ks (c + 128) (skip ss c)) h in
      let at : c + 128 + b * 128 ≡ c + suc b * 128 = omega (arith, suc-mul b 128) in
      let rest = numbers_ok-true blocks ks (c + 128) (skip ss c) parts.1 b (le_of_suc-le-suc lt) in
      subst (λ x. Holds 128 (get_or blocks (slice_index_or ks b 0) []) x ss) at
      (record {
        room = rest.room;
        values = λ i none lt. rest.values i none lt ∙
            step_value-skip d ss c (c + 128 + b * 128 + i) (omega arith);
      })

  -- the whole test
  unfoldable pub stages_ok : List ℕ → List V → List (Step V) → Bool
  stages_ok numbers values ss =
      let blocks = block_starts (length values / 128) values in
      (length numbers == 8704) && numbers_ok (map only_value blocks) blocks numbers 0 ss

  module _ (numbers : List ℕ) (values : List V) (ss : List (Step V)) (ok : stages_ok numbers values ss ≡ true) where
    blocks : List (List V)
    blocks = block_starts (length values / 128) values

    count : length numbers ≡ 8704
    unfolding stages_ok
    count = eqb-true _ _ (and_parts (length numbers == 8704) _ ok).0

    block_at : (b : ℕ) → b < length numbers →
        Holds 128 (drop (slice_index_or numbers b 0 * 128) values) (0 + b * 128) ss
    unfolding stages_ok blocks
    block_at b lt =
        let stored = numbers_ok-true blocks numbers 0 ss (and_parts (length numbers == 8704) _ ok).1 b lt in
        let room = stored.room in
        subst (λ vs. Holds 128 vs (0 + b * 128) ss) (get_or-block_starts (length values / 128) values
        (slice_index_or numbers b 0) (omega arith)) stored

    stages : Stages V
    stages = record { numbers = numbers; values = values }

    pub stages_ok-AreStages : AreStages (record { numbers = numbers; values = values })
    stages_ok-AreStages = record {
      blocks = count;
      within = λ k e lt. omega (
        arith,
        (block_at k lt).room,
        length-drop (slice_index_or numbers k 0 * 128) values,
        get_or_default numbers k 0 e lt,
      );
    }

    pub stages_ok-stage_at : (c : ℕ) (none : V) → c ≤ 0x10FFFF →
        stage_at (record { numbers = numbers; values = values }) c none ≡ step_value d ss c
    stages_ok-stage_at c none le =
        let b = c / 128 in
        let whole = div-add-mod' c 128 in
        let within : b < length numbers = omega (arith, count, whole, le) in
        let low : c % 128 < 128 = mod_below c 128 (omega arith) in
        let at : 0 + b * 128 + c % 128 ≡ c = omega arith in
        sym (get_or-drop (slice_index_or numbers b 0 * 128) values (c % 128) none)
        ∙ (block_at b within).values (c % 128) none low ∙ ap (step_value d ss) at
