-- Numberings of decompositions whose numbers count up, and tests of them.
use Rattle.std.proofs.Common.{arith, ◌≡◌, ◌≤◌, ◌<◌, ◌+◌, ◌==◌, ◌&&◌, ℕ, Bool, true, false, Option, None, Some, List, [], ◌∷◌, length, map, flat_map, if◌then◌else◌, refl, sym, ap, ◌∙◌, eqb-true, inl, inr}
use Rattle.std.specs.List.{list_all}
use Rattle.std.specs.Option.{is_some, unwrap_or}
use Rattle.std.specs.Str.{bytes_eq}
use Rattle.std.proofs.lemmas.Bool.{and_parts, cases_Bool}
use Rattle.std.proofs.lemmas.Slice.Eq.{bytes_eq-Decides}
use Rattle.std.proofs.lemmas.List.Folds.{list_all-map}
use Rattle.std.proofs.lemmas.List.Sums.{AllPass-from_list_all}
use Rattle.ucd_table.proofs.Facts.{tree_value-tree_of}
use Rattle.ucd_normal.specs.Decomposition.{canonical_decomposition, decomposition, expand, if_canonical, or_itself}
use Rattle.ucd_normal.specs.DecompositionRows.{Tag}
use Rattle.ucd_normal.proofs.DecompositionLemmas.{decomposition_by_tree, decomposition_stepped}
use Rattle.unicode_normalization.specs.Decompose.{decompose}
use Rattle.unicode_normalization.specs.Forms.{decomposed, nfd, normalize}
use Rattle.unicode_normalization.specs.Hangul.{decompose_hangul, is_syllable}
use Rattle.unicode_normalization.specs.Order.{canonical_order}
use Rattle.ucdfiles.specs.declared.span.Span.{Span}
use Rattle.ucdfiles.specs.declared.sided_bracket.SidedBracket.{SidedBracket}
use Rattle.units.specs.declared.bracket.Bracket.{Bracket}
use Rattle.ucdfiles.specs.Keys.{number_in, key_in, keyed_span, IsNumbering, AreNumbered}
use Rattle.ucdfiles.specs.PairFiles.{bracket_with}

-- the numbers count up from n
unfoldable pub counts_up : ℕ → List (List ℕ × ℕ) → Bool
counts_up n [] = true
counts_up n (e ∷ es) = e.1 == n && counts_up (n + 1) es

from_head : (a : List ℕ) (e : List ℕ × ℕ) (es : List (List ℕ × ℕ)) (n : ℕ) → bytes_eq a e.0 ≡ true →
    number_in (e ∷ es) a ≡ Some n → n ≡ e.1
from_head a e es n is has = let found : Some e.1 ≡ Some n = rw is at has in cc

from_tail : (a : List ℕ) (e : List ℕ × ℕ) (es : List (List ℕ × ℕ)) (n : ℕ) → bytes_eq a e.0 ≡ false →
    number_in (e ∷ es) a ≡ Some n → number_in es a ≡ Some n
from_tail a e es n is has = rw is at has

within : (k : ℕ) (es : List (List ℕ × ℕ)) (a : List ℕ) (n : ℕ) → counts_up k es ≡ true → number_in es a ≡ Some n →
    (k ≤ n) × (n < k + length es)
unfolding counts_up
within k [] a n h at = absurd (let bad : ⊥ = cc in bad)
within k (e ∷ es) a n h at =
    let parts = and_parts (e.1 == k) (counts_up (k + 1) es) h in
    let is = eqb-true e.1 k parts.0 in
    elim (cases_Bool (bytes_eq a e.0)) [
      | inl same ↦ let own = from_head a e es n same at in (omega (arith, own, is), omega (arith, own, is))
      | inr other ↦ let rest = within (k + 1) es a n parts.1 (from_tail a e es n other at) in
          (omega (arith, rest.0), omega (arith, rest.1))
    ]

apart : (k : ℕ) (es : List (List ℕ × ℕ)) (a b : List ℕ) (n : ℕ) → counts_up k es ≡ true → number_in es a ≡ Some n →
    number_in es b ≡ Some n → a ≡ b
unfolding counts_up
apart k [] a b n h ha hb = absurd (let bad : ⊥ = cc in bad)
apart k (e ∷ es) a b n h ha hb =
    let parts = and_parts (e.1 == k) (counts_up (k + 1) es) h in
    let is = eqb-true e.1 k parts.0 in
    elim (cases_Bool (bytes_eq a e.0)) [
      | inl first ↦ elim (cases_Bool (bytes_eq b e.0)) [
        | inl second ↦ (bytes_eq-Decides a e.0).0 first ∙ sym ((bytes_eq-Decides b e.0).0 second)
        | inr later ↦ absurd (let bad : ⊥ =
            omega (
              arith,
              is,
              from_head a e es n first ha,
              (within (k + 1) es b n parts.1 (from_tail b e es n later hb)).0,
            ) in bad)
      ]
      | inr after ↦ elim (cases_Bool (bytes_eq b e.0)) [
        | inl second ↦ absurd (let bad : ⊥ =
            omega (
              arith,
              is,
              from_head b e es n second hb,
              (within (k + 1) es a n parts.1 (from_tail a e es n after ha)).0,
            ) in bad)
        | inr later ↦ apart (k + 1) es a b n parts.1 (from_tail a e es n after ha) (from_tail b e es n later hb)
      ]
    ]

pub counts_up-IsNumbering : (es : List (List ℕ × ℕ)) → counts_up 0 es ≡ true → IsNumbering es
counts_up-IsNumbering es h = record {
  apart = λ a b n ha hb. apart 0 es a b n h ha hb;
  below = λ a n at. omega (arith, (within 0 es a n h at).1);
}

number_there : (o : Option ℕ) → is_some o ≡ true → (n : ℕ) × (o ≡ Some n)
number_there None h = absurd (let bad : ⊥ = cc in bad)
number_there (Some n) h = (n, refl)

-- the canonical decomposition of the character that each bracket is keyed by
abbrev pub decompositions_of : List (Span SidedBracket) → List (List ℕ)
decompositions_of spans = map (λ (s : Span SidedBracket). nfd (s.value.keyed_by ∷ [])) spans

-- the canonical decomposition of one character, from a table of mappings
unfoldable pub nfd_with : (ℕ → Tag × List ℕ) → ℕ → List ℕ
nfd_with table c = canonical_order
    (flat_map (λ x. if is_syllable x then decompose_hangul x else or_itself x
    (expand (λ y. if_canonical (table y)) 3 x)) (c ∷ []))

-- the canonical decomposition, from a table, of the character that each bracket is keyed by
unfoldable pub decompositions_with : (ℕ → Tag × List ℕ) → List (Span SidedBracket) → List (List ℕ)
decompositions_with table spans = map (λ (s : Span SidedBracket). nfd_with table s.value.keyed_by) spans

decompositions_with-decomposition : (spans : List (Span SidedBracket)) →
    decompositions_of spans ≡ decompositions_with decomposition spans
unfolding decompositions_with nfd_with normalize decomposed decompose canonical_decomposition
decompositions_with-decomposition spans = refl

-- the kit's tree of its table finds a mapping in a few steps
pub decompositions_by_tree : (spans : List (Span SidedBracket)) →
    decompositions_of spans ≡ decompositions_with decomposition_by_tree spans
decompositions_by_tree spans =
    decompositions_with-decomposition spans
    ∙ ap (λ (table : ℕ → Tag × List ℕ). decompositions_with table spans)
    (tree_value-tree_of decomposition decomposition_stepped)

-- each of these has a number
abbrev pub each_numbered : List (List ℕ × ℕ) → List (List ℕ) → Bool
each_numbered numbers ds = list_all (λ (d : List ℕ). is_some (number_in numbers d)) ds

pub each_numbered-AreNumbered : (numbers : List (List ℕ × ℕ)) (spans : List (Span SidedBracket)) →
    each_numbered numbers (decompositions_of spans) ≡ true → AreNumbered numbers spans
each_numbered-AreNumbered numbers spans h =
    let each = sym (list_all-map (λ (d : List ℕ). is_some (number_in numbers d)) (λ (s : Span SidedBracket).
    nfd (s.value.keyed_by ∷ [])) spans) ∙ h in
    λ k d lt. number_there _ (AllPass-from_list_all (λ (s : Span SidedBracket).
    is_some (number_in numbers (nfd (s.value.keyed_by ∷ [])))) spans each k d lt)

-- the brackets; the key of each is the number of its decomposition in this list
unfoldable pub keyed_with : List (List ℕ × ℕ) → List (Span SidedBracket) → List (List ℕ) → List (Span Bracket)
keyed_with numbers [] ds = []
keyed_with numbers (s ∷ spans) [] = []
keyed_with numbers (s ∷ spans) (d ∷ ds) =
    record {
      first = s.first;
      last = s.last;
      value =
          bracket_with s.value.side (record { 0 = unwrap_or (number_in numbers d) 0 });
    } ∷ keyed_with numbers spans ds

pub keyed_with-decompositions : (numbers : List (List ℕ × ℕ)) (spans : List (Span SidedBracket)) →
    keyed_with numbers spans (decompositions_of spans) ≡ map (keyed_span (key_in numbers)) spans
unfolding keyed_with
keyed_with-decompositions numbers [] = refl
keyed_with-decompositions numbers (s ∷ spans) =
    ap (λ rest. keyed_span (key_in numbers) s ∷ rest) (keyed_with-decompositions numbers spans)
