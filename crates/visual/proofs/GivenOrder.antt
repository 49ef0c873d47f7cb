-- The order of positions from given levels, written stretch by stretch.
use Rattle.std.proofs.Common.{◌≡◌, ℕ, ◌+◌, ◌-◌, ◌<◌, ◌≤◌, ◌%◌, ◌⊎◌, Bool, true, false, cond, zero, suc, Some, None, List, [], ◌∷◌, ◌++◌, length, take, drop, set, refl, sym, ap, ap₂, ◌∙◌, subst, inl, inr, arith, ne_eqb, append_assoc}
use Rattle.std.specs.Prelude.{◌==◌, reverse, slice_index, slice_range}
use Rattle.std.proofs.lemmas.Bool.{cases_eq, cases_lt, eq-eqb}
use Rattle.std.proofs.lemmas.List.{append-nil, drop-take, get_or-map, length-take-le, reverse-append, reverse-reverse, take-take, take_all, take_more_set}
use Rattle.std.proofs.Math.Seq.{drop-append_seam, take-append_seam}
use Rattle.units.specs.Reordering.{line_order, order_from, placed_if}
use Rattle.lines.specs.LinePositions.{HasLevel}
use Rattle.lines.proofs.Joining.{AllAcross, Divides, all_across, line_order-even, line_order-odd}
use Rattle.visual.specs.GivenLevels.{all_present, read_at}

read_at-even : (level : ℕ) (order : List ℕ) → level % 2 ≡ 0 → read_at level order ≡ order
read_at-even level order even = ap (λ b. cond b order (reverse order)) (eq-eqb (level % 2) 0 even)

read_at-odd : (level : ℕ) (order : List ℕ) → level % 2 ≡ 1 → read_at level order ≡ reverse order
read_at-odd level order odd = ap (λ b. cond b order (reverse order)) (ne_eqb (level % 2) 0 (omega arith))

-- the reading at one level is the reverse of that at the next level
read_next : (level : ℕ) (order : List ℕ) → reverse (read_at (level + 1) order) ≡ read_at level order
read_next level order =
    elim (cases_eq (level % 2) 0) [
      | inl even ↦
          ap reverse (read_at-odd (level + 1) order (omega arith)) ∙ reverse-reverse order ∙
          sym (read_at-even level order even)
      | inr odd ↦
          ap reverse (read_at-even (level + 1) order (omega arith)) ∙ sym (read_at-odd level order (omega arith))
    ]

-- each position of the stretch has at least the level
pub record IsAbove (levels : List ℕ) (start end least : ℕ) : Type 0 where
  pub above : (p : ℕ) → start ≤ p → p < end → least ≤ slice_index levels p

-- the last position of the stretch has the level, or the position after the stretch has at most this level
pub record IsClosed (levels : List ℕ) (start end least : ℕ) : Type 0 where
  pub closed : start < end → (slice_index levels (end - 1) ≡ least) ⊎ (end < length levels →
      slice_index levels end ≤ least)

none_read : (b : Bool) → (none : List ℕ) → none ≡ [] → cond b none (reverse none) ≡ none
none_read true none e = refl
none_read false none e = ap reverse e ∙ sym e

one_read : (p : ℕ) (b : Bool) → cond b (p ∷ []) (reverse (p ∷ [])) ≡ p ∷ []
one_read p true = refl
one_read p false = refl

module _ (levels : List ℕ) where
  has_level : (p : ℕ) → p < length levels → HasLevel (all_present levels) p (slice_index levels p)
  has_level p low = get_or-map (λ level. Some level) levels p 0 None low

  level_is : (p v : ℕ) → p < length levels → HasLevel (all_present levels) p v → v ≡ slice_index levels p
  level_is p v low h = let e : Some v ≡ Some (slice_index levels p) = sym h ∙ has_level p low in cc

  no_lower : (start end least : ℕ) → end ≤ length levels → IsAbove levels start end least → (p v : ℕ) → start ≤ p →
      p < end → HasLevel (all_present levels) p v → least ≤ v
  no_lower start end least within a p v from to h = let e = level_is p v (omega arith) h in
      omega (arith, a.above p from to)

  -- a position of the level divides the stretch before it from it
  divides_one : (start end least : ℕ) → end < length levels → slice_index levels end ≡ least →
      IsAbove levels start (end + 1) least → Divides (all_present levels) start end (end + 1) least
  divides_one start end least within is a =
      record {
        between = λ i j v w from before low high hi hj. (
          end,
          omega arith,
          low,
          has_level end within ∙
              ap (λ n. Some n) is,
        );
        least = no_lower start (end + 1) least (omega arith) a;
      }

  -- a closed stretch is divided from a higher one after it
  divides_higher : (start end to least : ℕ) → to ≤ length levels → end < length levels →
      least < slice_index levels end → IsClosed levels start end least → IsAbove levels start to least →
      Divides (all_present levels) start end to least
  divides_higher start end to least within some higher c a =
      record {
        between = λ i j v w from before low high hi hj.
            elim (c.closed (omega arith)) [
              | inl is ↦ (end - 1, omega arith, omega arith, has_level (end - 1) (omega arith) ∙ ap (λ n. Some n) is)
              | inr low ↦ absurd (let le = low some in omega arith)
            ];
        least = no_lower start to least within a;
      }

  -- the order of two stretches that are divided, from their own orders
  order_joined : (start end to least : ℕ) → start ≤ end → end ≤ to → Divides (all_present levels) start end to least →
      read_at least (line_order (all_present levels) start to) ≡
      read_at least (line_order (all_present levels) start end) ++
      read_at least (line_order (all_present levels) end to)
  order_joined start end to least low high d =
      let all = all_present levels in
      let across : AllAcross all start end to (least % 2) = all_across all start end to least d in
      let first = line_order all start end in
      let second = line_order all end to in
      elim (cases_eq (least % 2) 0) [
        | inl even ↦
            read_at-even least (line_order all start to) even
            ∙ line_order-even all start end to low high (subst (AllAcross all start end to) even across)
            ∙ sym (ap₂ (λ xs ys. xs ++ ys) (read_at-even least first even) (read_at-even least second even))
        | inr other ↦
            let odd : least % 2 ≡ 1 = omega arith in
            read_at-odd least (line_order all start to) odd
            ∙ ap reverse (line_order-odd all start end to low high (subst (AllAcross all start end to) odd across))
            ∙ reverse-append second first
            ∙ sym (ap₂ (λ xs ys. xs ++ ys) (read_at-odd least first odd) (read_at-odd least second odd))
      ]

  order_none : (start least : ℕ) → read_at least (line_order (all_present levels) start start) ≡ []
  unfolding line_order
  order_none start least =
      let e : start - start ≡ 0 = omega arith in
      ap (λ n. read_at least (order_from (all_present levels) start n)) e ∙ none_read (least % 2 == 0) [] refl

  order_one : (p least : ℕ) → p < length levels → read_at least (line_order (all_present levels) p (p + 1)) ≡ p ∷ []
  unfolding line_order
  order_one p least low =
      let e : p + 1 - p ≡ suc zero = omega arith in
      ap (λ n. read_at least (order_from (all_present levels) p n)) e
      ∙ ap (λ o. read_at least (placed_if (all_present levels) p o [])) (has_level p low)
      ∙ one_read p (least % 2 == 0)

  -- the stretch from start on is written up to an end
  pub record IsWritten (start least end : ℕ) (before order : List ℕ) : Type 0 where
    pub forward : start ≤ end
    pub within : end ≤ length levels
    pub above : IsAbove levels start end least
    pub closed : IsClosed levels start end least
    pub written : take end order ≡ take start before ++ read_at least (line_order (all_present levels) start end)

  pub written_none : (start least : ℕ) (before : List ℕ) → start ≤ length levels →
      IsWritten start least start before before
  written_none start least before within =
      record {
        forward = omega arith;
        within = within;
        above = record { above = λ p from to. omega arith };
        closed = record { closed = λ some. absurd (omega arith) };
        written = sym (append-nil (take start before)) ∙
            ap (λ xs. take start before ++ xs) (sym (order_none start least));
      }

  module _ {start least end : ℕ} {before order : List ℕ} (so_far : IsWritten start least end before order)
      (len : length order ≡ length levels) (some : end < length levels) where
    joins : (to : ℕ) (later : List ℕ) → end ≤ to → Divides (all_present levels) start end to least →
        later ≡ read_at least (line_order (all_present levels) end to) → take end order ++ later ≡ take start before ++
        read_at least (line_order (all_present levels) start to)
    joins to later high d is =
        ap₂ (λ xs ys. xs ++ ys) so_far.written is
        ∙ append_assoc (take start before) (read_at least (line_order (all_present levels) start end))
        (read_at least (line_order (all_present levels) end to))
        ∙ ap (λ xs. take start before ++ xs) (sym (order_joined start end to least so_far.forward high d))

    -- with one more position of the level
    pub written_one : slice_index levels end ≡ least → IsWritten start least (end + 1) before (set order end end)
    written_one is =
        let above : IsAbove levels start (end + 1) least = record {
          above = λ p from to. elim (cases_eq p end) [
            | inl same ↦ let e : slice_index levels p ≡ least = ap (slice_index levels) same ∙ is in omega arith
            | inr other ↦ so_far.above.above p from (omega arith)
          ];
        } in
        let back : end + 1 - 1 ≡ end = omega arith in
        record {
          forward = omega (arith, so_far.forward);
          within = omega arith;
          above = above;
          closed = record { closed = λ more. inl (ap (slice_index levels) back ∙ is) };
          written = take_more_set order end end (omega (arith, len))
              ∙ joins (end + 1) (end ∷ []) (omega arith) (divides_one start end least some is above)
              (sym (order_one end least some));
        }

    -- with one more stretch of higher levels, which is written and then reversed
    pub written_higher : (to : ℕ) (higher turned : List ℕ) → least < slice_index levels end → end ≤ to →
        to ≤ length levels
        → IsAbove levels end to (least + 1) → (to < length levels → slice_index levels to < least + 1)
        → take to higher ≡ take end order ++ read_at (least + 1) (line_order (all_present levels) end to)
        → take to turned ≡ take end higher ++ reverse (slice_range higher end to)
        → IsWritten start least to before turned
    written_higher to higher turned above high within higher_above stops is reversed =
        let first : List ℕ = take end order in
        let later : List ℕ = read_at (least + 1) (line_order (all_present levels) end to) in
        let long : length first ≡ end = length-take-le end order (omega (arith, len)) in
        let front : take end higher ≡ first =
        sym (take-take end to higher high) ∙ ap (take end) is ∙ ap (λ n. take n (first ++ later)) (sym long) ∙
        take-append_seam first later in
        let there : end + (to - end) ≡ to = omega arith in
        let range : slice_range higher end to ≡ later =
        sym (drop-take end (to - end) higher) ∙ ap (λ n. drop end (take n higher)) there ∙ ap (drop end) is ∙
        ap (λ n. drop n (first ++ later)) (sym long) ∙ drop-append_seam first later in
        let all_above : IsAbove levels start to least = record {
          above = λ p from low. elim (cases_lt p end) [
            | inl before ↦ so_far.above.above p from before
            | inr after ↦ let h = higher_above.above p after low in omega arith
          ];
        } in
        record {
          forward = omega (arith, so_far.forward);
          within = within;
          above = all_above;
          closed = record { closed = λ more. inr (λ low. let s = stops low in omega arith) };
          written = reversed
              ∙ ap₂ (λ xs ys. xs ++ reverse ys) front range
              ∙ joins to (reverse later) high
              (divides_higher start end to least within some above so_far.closed all_above)
              (read_next least (line_order (all_present levels) end to));
        }

  -- a stretch of level at least 0 is the whole line
  pub written_all : (end : ℕ) (before order : List ℕ) → length order ≡ length levels → end ≤ length levels →
      (end < length levels → slice_index levels end < 0) →
      take end order ≡ take 0 before ++ read_at 0 (line_order (all_present levels) 0 end) →
      order ≡ line_order (all_present levels) 0 (length levels)
  written_all end before order len within stops is =
      let whole : end ≡ length levels = elim (cases_lt end (length levels)) [
        | inl less ↦
            absurd (let below = stops less in omega arith)
        | inr more ↦ omega arith
      ] in
      sym (take_all end order (omega arith)) ∙ is ∙ ap (λ n. line_order (all_present levels) 0 n) whole
