-- The lines before a line that has just become over-long.
use Rattle.std.proofs.Common.{◌≡◌, ◌≢◌, ℕ, ◌+◌, ◌-◌, ◌<◌, ◌≤◌, List, [], ◌∷◌, ◌++◌, length, take, flat_map, get_or, All, refl, sym, ap, ◌∙◌, arith, length-append, append_assoc, inl, inr}
use Rattle.std.proofs.lemmas.List.Elements.{All-head, All-tail, All-same, All-push, All-append, All-nil}
use Rattle.std.proofs.lemmas.List.{take_more, append-nil}
use Rattle.std.proofs.lemmas.Bool.{cases_lt, cases_eq}
use Rattle.std.proofs.Math.Seq.{get_or-append_seam}
use Rattle.units.specs.Text.{longest_line}
use Rattle.units.specs.Lines.{HasNoFeed, EndsByFeed, ended, IsLine, CutsInto, IsTooLongAfter, cut_lines}
use Rattle.units.proofs.LineReading.{empty_line, cut_lines-line, cut_lines-rest, cut_lines-long, cut_lines-ended}

not_later : (ys os : List (List ℕ)) (first : List ℕ) (tail : List (List ℕ)) → All IsLine ys → ys ≡ os ++ first ∷ tail →
    longest_line < length first → ⊥
not_later ys os first tail each e long =
    let inside : length os < length ys = omega (arith, ap length e, length-append os (first ∷ tail)) in
    let at : get_or ys (length os) [] ≡ first = ap (λ (l : List (List ℕ)). get_or l (length os) []) e ∙
    get_or-append_seam os first tail [] in
    omega (arith, (each (length os) [] inside).short, ap length at, long)

-- if all lines of a list but y are short, the lines before an over-long one are those before y
same_before : (lines others : List (List ℕ)) (y : List ℕ) (ys : List (List ℕ)) (first : List ℕ) (tail : List (List ℕ))
    → All IsLine lines → All IsLine ys → longest_line < length first → lines ++ y ∷ ys ≡ others ++ first ∷ tail →
    others ≡ lines
same_before [] [] y ys first tail each short long e = refl
same_before [] (o ∷ os) y ys first tail each short long e = absurd (not_later ys os first tail short (cc) long)
same_before (l ∷ ls) [] y ys first tail each short long e =
    let same : l ≡ first = cc in absurd (omega (arith, (All-head IsLine l ls each).short, ap length same, long))
same_before (l ∷ ls) (o ∷ os) y ys first tail each short long e =
    grind (arith, same_before ls os y ys first tail (All-tail IsLine l ls each) short long)

-- what follows a line that goes on by at most one line feed, at its end
goes_on : (rest free : List ℕ) (x : ℕ) → HasNoFeed (rest ++ free) → (y : List ℕ) × (ys : List (List ℕ)) ×
    (cut_lines (rest ++ (free ++ x ∷ [])) ≡ y ∷ ys) × All IsLine ys
goes_on rest free x none =
    elim (cases_eq x 10) [
      | inl is ↦ (
        rest ++ free,
        [] ∷ [],
        ap cut_lines (sym (append_assoc rest free (x ∷ [])) ∙ ap (λ z. (rest ++ free) ++ z ∷ []) is) ∙
            cut_lines-line (rest ++ free) [] none,
        All-push IsLine [] [] (All-nil IsLine) empty_line,
      )
      | inr not ↦ (
        rest ++ (free ++ x ∷ []),
        [],
        cut_lines-rest _ (All-same (λ z. z ≢ 10) _ _ (sym (append_assoc rest free (x ∷ [])))
            (All-push (λ z. z ≢ 10) (rest ++ free) x none not)),
        All-nil IsLine,
      )
    ]

used_all : (used : ℕ) (piece : List ℕ) → used ≤ length piece → 0 < used →
    (x : ℕ) × (take used piece ≡ take (used - 1) piece ++ x ∷ [])
used_all used piece le some =
    let lt : used - 1 < length piece = omega arith in
    let is : used ≡ (used - 1) + 1 = omega arith in
    (get_or piece (used - 1) 0, ap (λ n. take n piece) is ∙ take_more piece (used - 1) 0 lt)

before : (b t : List ℕ) (lines others : List (List ℕ)) (rest : List ℕ) → CutsInto b lines rest →
    IsTooLongAfter (b ++ t) others
    → (y : List ℕ) (ys : List (List ℕ)) → cut_lines (rest ++ t) ≡ y ∷ ys → All IsLine ys → others ≡ lines
before b t lines others rest cut over y ys e short =
    let first = cut_lines-long over.long over.more over.feeds in
    let here : cut_lines (b ++ t) ≡ others ++ first.0 ∷ first.1 =
    ap cut_lines (over.whole ∙ append_assoc (flat_map ended others) over.long over.more) ∙
    cut_lines-ended others (over.long ++ over.more) over.each ∙ ap (λ ls. others ++ ls) first.2 in
    let there : cut_lines (b ++ t) ≡ lines ++ y ∷ ys =
    ap cut_lines (ap (λ z. z ++ t) cut.whole ∙ append_assoc (flat_map ended lines) rest t) ∙
    cut_lines-ended lines (rest ++ t) cut.each ∙ ap (λ ls. lines ++ ls) e in
    same_before lines others y ys first.0 first.1 cut.each short (omega (arith, first.3, over.above)) (sym there ∙ here)

-- the lines before an over-long one are those that had ended
pub lines-before : (b piece : List ℕ) (used : ℕ) (lines others : List (List ℕ)) (rest : List ℕ) → used ≤ length piece →
    EndsByFeed used piece
    → CutsInto b lines rest → IsTooLongAfter (b ++ take used piece) others → others ≡ lines
lines-before b piece used lines others rest le by cut over =
    elim (cases_lt 0 used) [
      | inl some ↦ (
          let u = used_all used piece le some in
          let free : HasNoFeed (rest ++ take (used - 1) piece) =
          All-append (λ x. x ≢ 10) rest (take (used - 1) piece) cut.partial.feeds by in
          let g = goes_on rest (take (used - 1) piece) u.0 free in
          before b (take used piece) lines others rest cut over g.0 g.1 (ap (λ z. cut_lines (rest ++ z)) u.1 ∙ g.2) g.3)
      | inr none ↦ (
          let zero : used ≡ 0 = omega arith in
          let nothing : take used piece ≡ [] = ap (λ n. take n piece) zero in
          before b (take used piece) lines others rest cut over rest [] (ap cut_lines (ap (λ z. rest ++ z) nothing ∙
          append-nil rest) ∙ cut_lines-rest rest cut.partial.feeds) (All-nil IsLine))
    ]
