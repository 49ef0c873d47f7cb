-- A text keeps the levels of its paragraphs if each of these keeps its level.
use Rattle.std.specs.Prelude.{Option, None, Some, ℕ, zero, suc, ◌+◌, ◌-◌, ◌<◌, ◌≡◌, true, false, List, [], ◌∷◌, ◌++◌, length, map, take, count_by, refl}
use Rattle.std.specs.List.{All, flat_map, list_all}
use Rattle.std.proofs.Common.{arith, ap, sym, ◌∙◌, cond, get_or, inl, inr}
use Rattle.std.proofs.Math.Seq.{take-append-add}
use Rattle.std.proofs.lemmas.Bool.{and_parts, cases_lt}
use Rattle.std.proofs.lemmas.List.{get_or-append-add, get_or_append_left, get_or_past, length-map, map-append, take-append-le}
use Rattle.std.proofs.lemmas.List.Elements.{All-head, All-nil, All-tail}
use Rattle.std.proofs.lemmas.List.Sums.{sum_by-append}
use Rattle.std.proofs.lemmas.Option.{none-some}
use Rattle.units.specs.Classes.{classes_of, is_separator}
use Rattle.units.specs.Layout.{para_levels_of, text_levels}
use Rattle.units.specs.Limits.{LimitsOf}
use Rattle.units.specs.Paragraphs.{EndsWithSeparator, IsCut, SeparatorOnlyLast, joined, paragraphs_of}
use Rattle.units.specs.Reordering.{para_level_at}
use Rattle.units.specs.declared.bracket.Unit.{Unit as BidiUnit}
use Rattle.units.specs.declared.class.Class.{Class}
use Rattle.units.specs.declared.level.Direction.{Direction}
use Rattle.explicit.proofs.LevelsComputed.OneCutting.{IsCut-paragraphs_of, joined-paragraphs_of}
use Rattle.paragraph.specs.Resolvers.{StaysAt}
use Rattle.paragraph.proofs.FlatLevels.{unchanged_stays, levels_are_unchanged}
use Rattle.lines.specs.Unchanged.{keeps_own_level}
use Rattle.lines.specs.Spaces.{AreAtParas}
use Rattle.lines.proofs.Separators.{count-cons}
use Rattle.lines.proofs.TextLevels.{para_level, para_levels}
use Rattle.units.proofs.Lengths.{length-resolved_levels}

zero_more : (n : ℕ) → 0 + n ≡ n
zero_more n = omega arith

count-other : (u : BidiUnit) (cs : List Class) → is_separator u.class ≡ false →
    count_by is_separator (u.class ∷ cs) ≡ count_by is_separator cs
count-other u cs plain = count-cons u.class cs ∙ ap (λ b. cond b 1 0 + count_by is_separator cs) plain ∙
    zero_more (count_by is_separator cs)

-- no separator is before a position of a paragraph
none_before : (us : List BidiUnit) (p : ℕ) → SeparatorOnlyLast us → p < length us →
    count_by is_separator (take p (classes_of us)) ≡ 0
none_before [] p only lt = absurd (omega arith)
none_before (u ∷ us) zero only lt = refl
none_before (u ∷ []) (suc p) only lt = absurd (omega arith)
none_before (u ∷ v ∷ us) (suc p) only lt =
    count-other u (take p (classes_of (v ∷ us))) only.0 ∙ none_before (v ∷ us) p only.1 (omega arith)

-- the paragraph has one separator, if another paragraph follows
one_within : (us : List BidiUnit) → SeparatorOnlyLast us → EndsWithSeparator us →
    count_by is_separator (classes_of us) ≡ 1
one_within [] only ends = absurd ends
one_within (u ∷ []) only ends = count-cons u.class [] ∙ ap (λ b. cond b 1 0 + 0) ends
one_within (u ∷ v ∷ us) only ends =
    count-other u (classes_of (v ∷ us)) only.0 ∙ one_within (v ∷ us) only.1 ends

-- each remaining position of the paragraph has its level
abbrev pub Stays : LimitsOf → Direction → List BidiUnit → Type 0
Stays limits direction us = StaysAt (para_level direction us) (para_levels limits direction us)

some_pieces : (f : List BidiUnit → List (Option ℕ)) (pieces : List (List BidiUnit)) (q v : ℕ) →
    get_or (flat_map f pieces) q None ≡ Some v → 0 < length pieces
some_pieces f [] q v e = absurd (none-some v (sym (get_or_past [] q None (omega arith)) ∙ e))
some_pieces f (us ∷ pieces) q v e = omega arith

module _ (limits : LimitsOf) (direction : Direction) where
  joined_at : (pieces : List (List BidiUnit)) → IsCut pieces → All (Stays limits direction) pieces → (p v : ℕ) →
      get_or (flat_map (para_levels limits direction) pieces) p None ≡ Some v →
      v ≡ para_level_at (classes_of (joined pieces)) (map (para_level direction) pieces) p
  joined_at [] cut all p v e = absurd (none-some v (sym (get_or_past [] p None (omega arith)) ∙ e))
  joined_at (us ∷ pieces) cut all p v e =
      let own : List Class = classes_of us in
      let others : List Class = classes_of (joined pieces) in
      let paras : List ℕ = map (para_level direction) pieces in
      let rest : List (Option ℕ) = flat_map (para_levels limits direction) pieces in
      let long : length (para_levels limits direction us) ≡ length us =
      length-resolved_levels limits us (para_level direction us) in
      let n : length own ≡ length us = length-map us (λ (u : BidiUnit). u.class) in
      let split : classes_of (us ++ joined pieces) ≡ own ++ others =
      map-append (λ (u : BidiUnit). u.class) us (joined pieces) in
      elim (cases_lt p (length us)) [
        | inl inside ↦
            let here : get_or (para_levels limits direction us) p None ≡ Some v =
            sym (get_or_append_left (para_levels limits direction us) rest None p (omega arith)) ∙ e in
            let none : count_by is_separator (take p (classes_of (us ++ joined pieces))) ≡ 0 =
            ap (λ (cs : List Class). count_by is_separator (take p cs)) split ∙
            ap (count_by is_separator) (take-append-le p own others (omega arith)) ∙
            none_before us p cut.1 inside in
            All-head (Stays limits direction) us pieces all p v here ∙
            sym (ap (λ i. get_or (para_level direction us ∷ paras) i 0) none)
        | inr past ↦
            let q : ℕ = p - length us in
            let at_level : p ≡ length (para_levels limits direction us) + q = omega arith in
            let at_class : p ≡ length own + q = omega arith in
            let there : get_or rest q None ≡ Some v =
            sym (get_or-append-add (para_levels limits direction us) rest q None) ∙
            ap (λ i. get_or (para_levels limits direction us ++ rest) i None) (sym at_level) ∙ e in
            let same : v ≡ get_or paras (count_by is_separator (take q others)) 0 =
            joined_at pieces cut.3 (All-tail (Stays limits direction) us pieces all) q v there in
            let one : count_by is_separator own ≡ 1 =
            one_within us cut.1 (cut.2 (some_pieces (para_levels limits direction) pieces q v there)) in
            let both : count_by is_separator (own ++ take q others) ≡ count_by is_separator own + count_by is_separator
            (take q others) =
            sum_by-append (λ c. cond (is_separator c) 1 0) own (take q others) in
            let more : count_by is_separator (take p (classes_of (us ++ joined pieces))) ≡
            suc (count_by is_separator (take q others)) =
            ap (λ (cs : List Class). count_by is_separator (take p cs)) split
            ∙ ap (λ i. count_by is_separator (take i (own ++ others))) at_class
            ∙ ap (count_by is_separator) (take-append-add own others q)
            ∙ omega (arith, both, one) in
            same ∙ sym (ap (λ i. get_or (para_level direction us ∷ paras) i 0) more)
      ]

  -- if each paragraph keeps its level, each position of the text has the level of its paragraph
  pub text_at_paras : (text : List BidiUnit) → All (Stays limits direction) (paragraphs_of text) →
      AreAtParas (classes_of text) (para_levels_of text direction) (text_levels limits text direction)
  text_at_paras text all = record {
    same = λ p v e.
        joined_at (paragraphs_of text) (IsCut-paragraphs_of text) all p v e
        ∙ ap (λ (us : List BidiUnit). para_level_at (classes_of us) (para_levels_of text direction) p)
        (joined-paragraphs_of text);
  }

  -- paragraphs that keep their levels have them at each remaining position
  pub all_stay : (pieces : List (List BidiUnit)) → list_all (keeps_own_level direction) pieces ≡ true →
      All (Stays limits direction) pieces
  all_stay [] keeps = All-nil (Stays limits direction)
  all_stay (us ∷ pieces) keeps = grind (arith, and_parts, unchanged_stays, levels_are_unchanged, all_stay pieces)
