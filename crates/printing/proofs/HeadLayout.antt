-- The layout of a text, from its first paragraph and the rest.
use Rattle.std.proofs.Common.{◌≡◌, ℕ, zero, suc, ◌+◌, ◌-◌, ◌<◌, true, false, Option, List, [], ◌∷◌, ◌++◌, length, map, refl, sym, ap, ◌∙◌, arith, append-nil}
use Rattle.std.specs.Prelude.{Bool, filter}
use Rattle.std.specs.List.{flat_map}
use Rattle.std.proofs.lemmas.List.{length-append, length-map, map-append}
use Rattle.units.specs.Classes.{class_at, classes_of, is_separator}
use Rattle.units.specs.Isolates.{para_level_of}
use Rattle.units.specs.Layout.{TextLayout, layout_of, lines_cut_at, para_levels_of, resolved_levels, text_levels}
use Rattle.units.specs.Limits.{LimitsOf}
use Rattle.units.specs.Positions.{positions_from}
use Rattle.units.specs.Paragraphs.{EndsWithSeparator, SeparatorOnlyLast, paragraphs_of}
use Rattle.units.specs.Reordering.{after_resets, begins_line, cuts_of}
use Rattle.units.specs.declared.bracket.Unit.{Unit as BidiUnit}
use Rattle.units.specs.declared.class.Class.{Class}
use Rattle.units.specs.declared.level.Direction.{Direction}
use Rattle.explicit.proofs.LevelsComputed.OneCutting.{joined-paragraphs_of, IsCut-paragraphs_of, one_cutting}
use Rattle.lines.proofs.LineStored.{length-text_levels}
use Rattle.lines.proofs.TextEnd.{length-after_resets}
use Rattle.printing.proofs.HeadBreaks.{AreBelow, EndsAsParagraph, following, begins_in_first, begins_right}
use Rattle.printing.proofs.HeadLines.{lines_joined, moved_line}
use Rattle.printing.proofs.HeadResets.{resets_joined}

-- one layout of n positions, and another after it
abbrev pub joined_layouts : ℕ → TextLayout → TextLayout → TextLayout
joined_layouts n a b =
    record { paras = a.paras ++ b.paras; levels = a.levels ++ b.levels; lines = a.lines ++ map (moved_line n) b.lines }

pub plain_at : (us : List BidiUnit) → SeparatorOnlyLast us → (j : ℕ) → j + 1 < length (classes_of us) →
    is_separator (class_at (classes_of us) j) ≡ false
plain_at [] h j low = absurd (omega arith)
plain_at (u ∷ []) h j low = absurd (omega arith)
plain_at (u ∷ v ∷ us) h zero low = h.0
plain_at (u ∷ v ∷ us) h (suc j) low = plain_at (v ∷ us) h.1 j (omega arith)

ends_some : (us : List BidiUnit) → EndsWithSeparator us → 0 < length us
ends_some [] h = absurd h
ends_some (u ∷ us) h = omega arith

ends_at : (us : List BidiUnit) → EndsWithSeparator us →
    is_separator (class_at (classes_of us) (length (classes_of us) - 1)) ≡ true
ends_at [] h = absurd h
ends_at (u ∷ []) h = h
ends_at (u ∷ v ∷ us) h =
    let e : length (classes_of (u ∷ v ∷ us)) - 1 ≡ suc (length (classes_of (v ∷ us)) - 1) = omega arith in
    ap (λ q. is_separator (class_at (classes_of (u ∷ v ∷ us)) q)) e ∙ ends_at (v ∷ us) h

as_paragraph : (us : List BidiUnit) → SeparatorOnlyLast us → EndsWithSeparator us → EndsAsParagraph (classes_of us)
as_paragraph us only ends = record {
  some = (let n = length-map us (λ (u : BidiUnit). u.class) in let s = ends_some us ends in omega arith);
  plain = plain_at us only;
  ends = ends_at us ends;
}

-- P1: such units are the first paragraph of a text that begins with them
pub paragraphs_joined : (us vs : List BidiUnit) → 0 < length us → SeparatorOnlyLast us →
    (0 < length vs → EndsWithSeparator us) → paragraphs_of (us ++ vs) ≡ us ∷ paragraphs_of vs
paragraphs_joined us vs some only ends =
    sym (one_cutting (us ++ vs) (us ∷ paragraphs_of vs) (
      some,
      only,
      (λ more. ends (follows vs more)),
      IsCut-paragraphs_of vs,
    )
    (ap (λ ws. us ++ ws) (joined-paragraphs_of vs)))
  where
    follows : (ws : List BidiUnit) → 0 < length (paragraphs_of ws) → 0 < length ws
    follows [] more = absurd (omega arith)
    follows (w ∷ ws) more = omega arith

pub paragraph_alone : (us : List BidiUnit) → 0 < length us → SeparatorOnlyLast us → paragraphs_of us ≡ us ∷ []
paragraph_alone us some only =
    ap paragraphs_of (sym (append-nil us)) ∙ paragraphs_joined us [] some only (λ more. absurd (omega arith))

abbrev filter_by : (ℕ → Bool) → ℕ → List ℕ
filter_by test count = filter test (positions_from 1 count)

-- the layout of a text is that of its first paragraph, and after it that of the rest
pub layout_joined : (limits : LimitsOf) (direction : Direction) (us vs : List BidiUnit) (bs cs : List ℕ) →
    SeparatorOnlyLast us → EndsWithSeparator us → AreBelow (length us) bs → 0 < length vs →
    layout_of limits (us ++ vs) direction (bs ++ following (length us) cs) ≡
    joined_layouts (length us) (layout_of limits us direction bs) (layout_of limits vs direction cs)
unfolding layout_of
layout_joined limits direction us vs bs cs only ends all more =
    let own : List Class = classes_of us in
    let rest : List Class = classes_of vs in
    let n : length own ≡ length us = length-map us (λ (u : BidiUnit). u.class) in
    let m : length rest ≡ length vs = length-map vs (λ (u : BidiUnit). u.class) in
    let level : ℕ = para_level_of own direction in
    let levels : List ℕ = para_levels_of vs direction in
    let xs : List (Option ℕ) = text_levels limits us direction in
    let ys : List (Option ℕ) = text_levels limits vs direction in
    let a : length xs ≡ length us = length-text_levels limits us direction in
    let b : length ys ≡ length vs = length-text_levels limits vs direction in
    let at : List ℕ = bs ++ following (length us) cs in
    let h : EndsAsParagraph own = as_paragraph us only ends in
    let some : 0 < length us = ends_some us ends in
    let below : AreBelow (length own) bs = rw n all in
    let both : classes_of (us ++ vs) ≡ own ++ rest = map-append (λ (u : BidiUnit). u.class) us vs in
    let cut : paragraphs_of (us ++ vs) ≡ us ∷ paragraphs_of vs = paragraphs_joined us vs some only (λ _. ends) in
    let alone : paragraphs_of us ≡ us ∷ [] = paragraph_alone us some only in
    let paras : para_levels_of (us ++ vs) direction ≡ level ∷ levels =
    ap (λ pieces. map (λ ws. para_level_of (classes_of ws) direction) pieces) cut in
    let para : para_levels_of us direction ≡ level ∷ [] =
    ap (λ pieces. map (λ ws. para_level_of (classes_of ws) direction) pieces) alone in
    let f : List BidiUnit → List (Option ℕ) =
    λ ws. resolved_levels limits ws (para_level_of (classes_of ws) direction) in
    let one : xs ≡ f us = ap (flat_map f) alone ∙ append-nil (f us) in
    let resolved : text_levels limits (us ++ vs) direction ≡ xs ++ ys = ap (flat_map f) cut ∙
    ap (λ ls. ls ++ ys) (sym one) in
    let remaining : List (Option ℕ) = after_resets own bs (level ∷ []) xs in
    let right : List (Option ℕ) = after_resets rest cs levels ys in
    let c : length remaining ≡ length us = length-after_resets own bs (level ∷ []) xs ∙ a in
    let d : length right ≡ length vs = length-after_resets rest cs levels ys ∙ b in
    let reset : after_resets (own ++ rest) at (level ∷ levels) (xs ++ ys) ≡ remaining ++ right =
    ap (λ k. after_resets (own ++ rest) (bs ++ following k cs) (level ∷ levels) (xs ++ ys)) (sym n)
    ∙ resets_joined own rest bs cs h below (omega arith) level levels xs ys (omega arith) (omega arith) in
    let test_is : begins_line (own ++ rest) at ≡ begins_line (own ++ rest) (bs ++ following (length own) cs) =
    ap (λ k. begins_line (own ++ rest) (bs ++ following k cs)) (sym n) in
    let same_in_first : (q : ℕ) → q < length remaining → begins_line (own ++ rest) at q ≡ begins_line own bs q =
    λ q low. ap (λ t. t q) test_is ∙ begins_in_first own rest bs cs q (omega arith) in
    let same_in_second : (q : ℕ) → q < length right →
    begins_line (own ++ rest) at (length remaining + q) ≡ begins_line rest cs q =
    λ q low. ap (λ t. t (length remaining + q)) test_is ∙
    ap (λ k. begins_line (own ++ rest) (bs ++ following (length own) cs) (k + q)) (c ∙ sym n) ∙
    begins_right own rest bs cs q h below in
    let z : length remaining ≡ length remaining + 0 = omega arith in
    let begins : begins_line (own ++ rest) at (length remaining) ≡ true = ap (begins_line (own ++ rest) at) z ∙
    same_in_second 0 (omega arith) in
    let lines : lines_cut_at (remaining ++ right) (cuts_of (own ++ rest) at) ≡
    lines_cut_at remaining (cuts_of own bs) ++ map (moved_line (length us)) (lines_cut_at right (cuts_of rest cs)) =
    cuts_by remaining right own rest at (length us) (omega (arith, length-append own rest)) (c ∙ sym n) (d ∙
    sym m) c bs cs
    (lines_joined remaining right (begins_line (own ++ rest) at) (begins_line own bs) (begins_line rest cs)
    (omega arith) (omega arith) begins same_in_first same_in_second) in
    rw (both, paras, para, resolved, reset, lines) refl
  where
    cuts_by : (remaining right : List (Option ℕ)) (own rest : List Class) (at : List ℕ) (k : ℕ) →
        length (own ++ rest) ≡ length own + length rest → length remaining ≡ length own → length right ≡ length rest →
        length remaining ≡ k →
        (bs cs : List ℕ) → lines_cut_at (remaining ++
        right) (filter_by (begins_line (own ++ rest) at) (length remaining + length right - 1))
        ≡ lines_cut_at remaining (filter_by (begins_line own bs) (length remaining - 1)) ++
        map (moved_line (length remaining))
        (lines_cut_at right (filter_by (begins_line rest cs) (length right - 1))) →
        lines_cut_at (remaining ++ right) (cuts_of (own ++ rest) at) ≡ lines_cut_at remaining (cuts_of own bs) ++
        map (moved_line k) (lines_cut_at right (cuts_of rest cs))
    cuts_by remaining right own rest at k long a b c bs cs e = rw (long, ← a, ← b, ← c) e
