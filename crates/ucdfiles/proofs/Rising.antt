-- Spans in order: the position of the span that contains a code point, and one more span among them.
use Rattle.std.proofs.Common.{◌≡◌, ℕ, suc, ◌+◌, ◌-◌, ◌<◌, ◌≤◌, Bool, true, false, ltb, leb, ◌||◌, None, List, [], ◌∷◌, ◌++◌, length, map, get_or, take, drop, insert, refl, sym, ap, ◌∙◌, arith, inl, inr}
use Rattle.std.specs.List.{find, list_any, AllWithin}
use Rattle.std.specs.List.Sorted.{IsPartitionedBy}
use Rattle.std.specs.Option.{option_map}
use Rattle.std.proofs.lemmas.Bool.{ltb-true, lt-ltb, leb-true, le-leb, lt-leb, false_from_ne_true, cases_lt, false≢true, and_parts, and_right, or_parts}
use Rattle.std.proofs.Math.Nat.{eq-or-lt_of_le}
use Rattle.std.proofs.lemmas.List.{take-append-drop, get_or_default, get_or-take, get_or-drop, get_or-map, length-take, length-drop, length-map}
use Rattle.std.proofs.lemmas.List.Edits.{length-insert, get_or-insert_at, get_or-insert_below, get_or-insert_above}
use Rattle.std.proofs.lemmas.List.Folds.{find-append, list_any-append}
use Rattle.units.proofs.Options.{option_or-none}
use Rattle.ucdfiles.specs.declared.fault.Fault.{Fault}
use Rattle.ucdfiles.specs.declared.span.Span.{Span}
use Rattle.ucdfiles.specs.Spans.{most_data, holds, overlaps, IsRising, Adds, data_fault, revalued}

or_moves : (a b c : Bool) → (a || (b || c)) ≡ ((a || c) || (b || false))
or_moves true b c = refl
or_moves false true true = refl
or_moves false true false = refl
or_moves false false true = refl
or_moves false false false = refl

module _ {V : Type 0} where
  pub parted : (rs : List (Span V)) (code : ℕ) → IsRising rs → IsPartitionedBy (λ (r : Span V). ltb r.last code) rs
  parted rs code rising i j d le lt low = grind (arith, ltb-true, eq-or-lt_of_le, lt-ltb)

  pub parted_first : (rs : List (Span V)) (code : ℕ) → IsRising rs →
      IsPartitionedBy (λ (r : Span V). leb r.first code) rs
  parted_first rs code rising i j d le lt low = grind (arith, leb-true, eq-or-lt_of_le, le-leb)

  -- a list none of whose elements pass
  pub find-none : (p : Span V → Bool) (rs : List (Span V)) →
      ((k : ℕ) (d : Span V) → k < length rs → p (get_or rs k d) ≡ false) → find p rs ≡ None
  find-none p [] none = refl
  find-none p (r ∷ rs) none =
      let e : p r ≡ false = none 0 r (omega arith) in
      rw e (find-none p rs (λ k d lt. none (suc k) d (omega arith)))

  list_any-none : (p : Span V → Bool) (rs : List (Span V)) →
      ((k : ℕ) (d : Span V) → k < length rs → p (get_or rs k d) ≡ false) → list_any p rs ≡ false
  list_any-none p [] none = refl
  list_any-none p (r ∷ rs) none =
      let e : p r ≡ false = none 0 r (omega arith) in
      rw e (list_any-none p rs (λ k d lt. none (suc k) d (omega arith)))

  outside_after : (code : ℕ) (r : Span V) → r.last < code → holds code r ≡ false
  outside_after code r lt = let e : leb code r.last ≡ false = lt-leb _ _ lt in
      rw e (and_right (leb r.first code) false refl)

  pub outside_before : (code : ℕ) (r : Span V) → code < r.first → holds code r ≡ false
  outside_before code r lt = let e : leb r.first code ≡ false = lt-leb _ _ lt in rw e refl

  -- the spans from an index on begin above a code point that is below the first of them
  all_above : (rs : List (Span V)) (n code : ℕ) → IsRising rs →
      (n < length rs → (d : Span V) → code < (get_or rs n d).first) → (k : ℕ) (d : Span V) → n ≤ k → k < length rs →
      code < (get_or rs k d).first
  all_above rs n code rising above k d le lt = grind (arith, eq-or-lt_of_le)

  overlaps-holds : (code : ℕ) (a b : Span V) → holds code a ≡ true → holds code b ≡ true → overlaps a b ≡ true
  overlaps-holds code a b ha hb = grind (arith, and_parts, le-leb, leb-true)

  apart-holds : (code : ℕ) (a b : Span V) → holds code a ≡ true → overlaps a b ≡ false → holds code b ≡ false
  apart-holds code a b ha apart =
      false_from_ne_true (holds code b) (λ hb. false≢true (sym apart ∙ overlaps-holds code a b ha hb))

  -- if a span overlaps none of these, none of these contains a code point of it
  pub find-apart : (code : ℕ) (span : Span V) (rs : List (Span V)) → holds code span ≡ true →
      list_any (overlaps span) rs ≡ false → find (holds code) rs ≡ None
  find-apart code span [] stored none = refl
  find-apart code span (r ∷ rs) stored none = grind (arith, or_parts, apart-holds, find-apart code span rs stored)

  finds-aside : (code : ℕ) (front back : List (Span V)) (span : Span V) → holds code span ≡ false
      → find (holds code) (front ++ span ∷ back) ≡ find (holds code) ((front ++ back) ++ span ∷ [])
  finds-aside code front back span aside = grind (arith, find-append, option_or-none)

  finds-stored : (code : ℕ) (front back : List (Span V)) (span : Span V) → holds code span ≡ true →
      list_any (overlaps span) (front ++ back) ≡ false
      → find (holds code) (front ++ span ∷ back) ≡ find (holds code) ((front ++ back) ++ span ∷ [])
  finds-stored code front back span stored none = grind (arith, find-apart, or_parts, list_any-append, find-append)

  pub finds-insert : (code : ℕ) (rs : List (Span V)) (at : ℕ) (span : Span V) → list_any (overlaps span) rs ≡ false
      → find (holds code) (insert rs at span) ≡ find (holds code) (rs ++ span ∷ [])
  finds-insert code rs at span none = grind (arith, take-append-drop, finds-stored, finds-aside)

  pub meets-insert : (p : Span V → Bool) (rs : List (Span V)) (at : ℕ) (span : Span V) →
      list_any p (insert rs at span) ≡ list_any p (rs ++ span ∷ [])
  meets-insert p rs at span =
      list_any-append p (take at rs) (span ∷ drop at rs) ∙
      or_moves (list_any p (take at rs)) (p span) (list_any p (drop at rs))
      ∙ ap (λ b. b || (p span || false)) (sym (list_any-append p (take at rs) (drop at rs)) ∙
      ap (list_any p) (take-append-drop at rs))
      ∙ sym (list_any-append p rs (span ∷ []))

  pub Adds-insert : (rs : List (Span V)) (at : ℕ) (span : Span V) → at ≤ length rs →
      list_any (overlaps span) rs ≡ false → Adds rs span (insert rs at span)
  Adds-insert rs at span le none = grind (arith, finds-insert, meets-insert, length-insert)

  -- a span that ends before the spans from an index on begin, and begins after the earlier ones end, overlaps none
  pub overlaps-none : (rs : List (Span V)) (n : ℕ) (span : Span V) → IsRising rs → n ≤ length rs →
      AllWithin (λ (r : Span V). r.last < span.first) rs 0 n →
      (n < length rs → (d : Span V) → span.last < (get_or rs n d).first)
      → list_any (overlaps span) rs ≡ false
  overlaps-none rs n span rising le below above =
      list_any-none (overlaps span) rs (λ k d lt. elim (cases_lt k n) [
        | inl low ↦ let e : leb span.first (get_or rs k d).last ≡ false = lt-leb _ _ (below k d (omega arith) low) in
            rw e refl
        | inr high ↦ let e : leb (get_or rs k d).first span.last ≡ false =
            lt-leb _ _ (all_above rs n span.last rising above k d high lt) in
            rw e (and_right (leb span.first (get_or rs k d).last) false refl)
      ])

  -- a fact about an element at an index doesn't depend on the default that is read past the end
  pub begins_above : (rs : List (Span V)) (n code : ℕ) (d : Span V) → code < (get_or rs n d).first → n < length rs →
      (e : Span V) → code < (get_or rs n e).first
  begins_above rs n code d above lt e = omega (arith, above, ap (λ (r : Span V). r.first) (get_or_default rs n d e lt))

  pub data_fault-none : (taken : Fault) (rs : List (Span V)) (span : Span V) → length rs < most_data →
      list_any (overlaps span) rs ≡ false → data_fault taken rs span ≡ None
  data_fault-none taken rs span lt none = let e : leb most_data (length rs) ≡ false = lt-leb _ _ lt in rw (e, none) refl

  -- one more span between those below it and those above it
  pub rising-insert : (rs : List (Span V)) (n : ℕ) (span : Span V) → span.first ≤ span.last → IsRising rs →
      n ≤ length rs → AllWithin (λ (r : Span V). r.last < span.first) rs 0 n
      → (n < length rs → (d : Span V) → span.last < (get_or rs n d).first) → IsRising (insert rs n span)
  rising-insert rs n span straight rising le below above =
      let size : length (insert rs n span) ≡ length rs + 1 = length-insert rs n span le in
      let first = λ (r : Span V). r.first in
      let last = λ (r : Span V). r.last in
      let at = λ (d : Span V) (k : ℕ). get_or (insert rs n span) k d in
      let front = λ (d : Span V) (k : ℕ) (low : k < n). (let e : at d k ≡ get_or rs k d =
      get_or-insert_below rs n span d k low le in e) in
      let own = λ (d : Span V) (k : ℕ) (same : n ≡ k). (let e : at d k ≡ span = ap (at d) (sym same) ∙
      get_or-insert_at rs n span d le in e) in
      let back = λ (d : Span V) (k : ℕ) (high : n < k). (let e : at d k ≡ get_or rs (k - 1) d =
      (let f : (k - 1) + 1 ≡ k = omega arith in
      ap (at d) (sym f) ∙ get_or-insert_above rs n span d (k - 1) (omega arith) le) in e) in
      record {
        each = λ k d lt. elim (cases_lt k n) [
          | inl low ↦ omega (arith, ap first (front d k low), ap last (front d k low), rising.each k d (omega arith))
          | inr high ↦ elim (eq-or-lt_of_le high) [
            | inl same ↦ omega (arith, ap first (own d k same), ap last (own d k same))
            | inr over ↦ omega (
              arith,
              ap first (back d k over),
              ap last (back d k over),
              rising.each (k - 1) d (omega arith),
            )
          ]
        ];
        apart = λ i j d less lt. elim (cases_lt i n) [
          | inl low ↦ elim (cases_lt j n) [
            | inl low' ↦ omega (
              arith,
              ap last (front d i low),
              ap first (front d j low'),
              rising.apart i j d less (omega arith),
            )
            | inr high ↦ elim (eq-or-lt_of_le high) [
              | inl same ↦ omega (arith, ap last (front d i low), ap first (own d j same), below i d (omega arith) low)
              | inr over ↦ omega (
                arith,
                ap last (front d i low),
                ap first (back d j over),
                rising.apart i (j - 1) d (omega arith) (omega arith),
              )
            ]
          ]
          | inr high ↦ elim (eq-or-lt_of_le high) [
            | inl same ↦ omega (
              arith,
              ap last (own d i same),
              ap first (back d j (omega arith)),
              all_above rs n span.last rising above (j - 1) d (omega arith) (omega arith),
            )
            | inr over ↦ omega (
              arith,
              ap last (back d i over),
              ap first (back d j (omega arith)),
              rising.apart (i - 1) (j - 1) d (omega arith) (omega arith),
            )
          ]
        ];
      }

  -- spans that end before a code point don't contain it
  pub find-drop : (rs : List (Span V)) (m code : ℕ) → AllWithin (λ (r : Span V). r.last < code) rs 0 m →
      find (holds code) (drop m rs) ≡ find (holds code) rs
  find-drop rs m code below =
      let front : find (holds code) (take m rs) ≡ None = find-none (holds code) (take m rs) (λ k d lt. (
      let low : k < m = omega (arith, length-take m rs, lt) in
      ap (holds code) (get_or-take m rs k d low) ∙ outside_after code (get_or rs k d) (below k d (omega arith) low))) in
      sym (ap (find (holds code)) (sym (take-append-drop m rs)) ∙ find-append (holds code) (take m rs) (drop m rs) ∙
      rw front refl)

  -- spans that begin after it don't either
  pub find-take : (rs : List (Span V)) (n code : ℕ) → AllWithin (λ (r : Span V). code < r.first) rs n (length rs) →
      find (holds code) (take n rs) ≡ find (holds code) rs
  find-take rs n code above =
      let back : find (holds code) (drop n rs) ≡ None = find-none (holds code) (drop n rs) (λ k d lt. (
      let inside : n + k < length rs = omega (arith, length-drop n rs, lt) in
      ap (holds code) (get_or-drop n rs k d) ∙
      outside_before code (get_or rs (n + k) d) (above (n + k) d (omega arith) inside))) in
      sym (ap (find (holds code)) (sym (take-append-drop n rs)) ∙ find-append (holds code) (take n rs) (drop n rs) ∙
      rw back (option_or-none (find (holds code) (take n rs))))

-- spans with other values
module _ {V W : Type 0} (value : V → W) where
  -- contain the same code points
  pub find-revalued : (c : ℕ) (spans : List (Span V)) →
      find (holds c) (map (revalued value) spans) ≡ option_map (revalued value) (find (holds c) spans)
  find-revalued c [] = refl
  find-revalued c (s ∷ spans) = grind (arith, find-revalued c spans)

  -- and are in the same order
  pub rising-revalued : (none : V) (spans : List (Span V)) → IsRising spans → IsRising (map (revalued value) spans)
  rising-revalued none spans rising =
      let size : length (map (revalued value) spans) ≡ length spans = length-map spans (revalued value) in
      let span : Span V = record { first = 0; last = 0; value = none } in
      let at = λ (k : ℕ) (d : Span W) (lt : k < length (map (revalued value) spans)). (
      let e : get_or (map (revalued value) spans) k d ≡ revalued value (get_or spans k span) =
      get_or-map (revalued value) spans k span d (omega (arith, size)) in e) in
      let first = λ (s : Span W). s.first in
      let last = λ (s : Span W). s.last in
      record {
        each = λ k d lt. omega (
          arith,
          size,
          ap first (at k d lt),
          ap last (at k d lt),
          rising.each k span (omega (arith, size)),
        );
        apart = λ i j d less lt. omega (
          arith,
          size,
          ap last (at i d (omega arith)),
          ap first (at j d lt),
          rising.apart i j span less (omega (arith, size)),
        );
      }
