-- A cutting into lines is `cut_lines`, so two cuttings of one byte list are one.
use Rattle.std.proofs.Common.{◌≡◌, ◌≢◌, ℕ, ◌<◌, ◌≤◌, ◌==◌, List, [], ◌∷◌, ◌++◌, length, flat_map, get_or, All, refl, sym, ap, ◌∙◌, arith, length-append, append_assoc, if◌then◌else◌, true, false}
use Rattle.std.proofs.lemmas.Bool.{ne_eqb}
use Rattle.std.proofs.lemmas.List.Elements.{All-head, All-nil, All-tail, All-same, All-push}
use Rattle.std.proofs.Math.Seq.{get_or-append_seam}
use Rattle.units.specs.Text.{longest_line}
use Rattle.units.specs.Lines.{HasNoFeed, ended, IsLine, CutsInto, IsTooLongAfter, cut_lines}
use Rattle.std.specs.List.{onto_first}

pub empty_line : IsLine []
empty_line = record { feeds = All-nil (λ x. x ≢ 10); short = omega arith }

-- a line that a line feed ends
pub cut_lines-line : (line xs : List ℕ) → HasNoFeed line → cut_lines (line ++ 10 ∷ xs) ≡ line ∷ cut_lines xs
cut_lines-line [] xs free = refl
cut_lines-line (x ∷ line) xs free =
    let e : (x == 10) ≡ false = ne_eqb x 10 (All-head (λ y. y ≢ 10) x line free) in
    rw (e, cut_lines-line line xs (All-tail (λ y. y ≢ 10) x line free)) refl

-- a line that has not ended
pub cut_lines-rest : (rest : List ℕ) → HasNoFeed rest → cut_lines rest ≡ rest ∷ []
cut_lines-rest [] free = refl
cut_lines-rest (x ∷ rest) free =
    let e : (x == 10) ≡ false = ne_eqb x 10 (All-head (λ y. y ≢ 10) x rest free) in
    rw (e, cut_lines-rest rest (All-tail (λ y. y ≢ 10) x rest free)) refl

-- lines that have ended, and then more bytes
pub cut_lines-ended : (lines : List (List ℕ)) (xs : List ℕ) → All IsLine lines →
    cut_lines (flat_map ended lines ++ xs) ≡ lines ++ cut_lines xs
cut_lines-ended [] xs each = refl
cut_lines-ended (line ∷ lines) xs each =
    let again : cut_lines (flat_map ended lines ++ xs) ≡ lines ++ cut_lines xs =
    cut_lines-ended lines xs (All-tail IsLine line lines each) in
    let first : cut_lines (line ++ 10 ∷ (flat_map ended lines ++ xs)) ≡ line ∷ cut_lines (flat_map ended lines ++ xs) =
    cut_lines-line line (flat_map ended lines ++ xs) (All-head IsLine line lines each).feeds in
    let regroup : flat_map ended (line ∷ lines) ++ xs ≡ line ++ 10 ∷ (flat_map ended lines ++ xs) = simp append_assoc in
    ap cut_lines regroup ∙ first ∙ ap (λ ls. line ∷ ls) again

pub cut_lines-CutsInto : (bytes : List ℕ) (lines : List (List ℕ)) (rest : List ℕ) → CutsInto bytes lines rest →
    cut_lines bytes ≡ lines ++ rest ∷ []
cut_lines-CutsInto bytes lines rest cut =
    ap cut_lines cut.whole ∙ cut_lines-ended lines rest cut.each ∙
    ap (λ ls. lines ++ ls) (cut_lines-rest rest cut.partial.feeds)

-- a first line as long as what begins with no line feed, at least
pub cut_lines-long : (long more : List ℕ) → HasNoFeed long → (line : List ℕ) × (rest : List (List ℕ)) ×
    (cut_lines (long ++ more) ≡ line ∷ rest) × (length long ≤ length line)
cut_lines-long [] [] free = ([], [], refl, omega arith)
cut_lines-long [] (x ∷ more) free =
    let again = cut_lines-long [] more (λ k d lt. absurd (omega arith)) in
    elim (x == 10) as (λ b. (line : List ℕ) × (rest : List (List ℕ)) ×
    ((if b then [] ∷ cut_lines more else onto_first x (cut_lines more)) ≡ line ∷ rest) × (0 ≤ length line)) [
      | true ↦ ([], cut_lines more, refl, omega arith)
      | false ↦ (x ∷ again.0, again.1, ap (onto_first x) again.2, omega arith)
    ]
cut_lines-long (x ∷ long) more free =
    let e : (x == 10) ≡ false = ne_eqb x 10 (All-head (λ y. y ≢ 10) x long free) in
    let again = cut_lines-long long more (All-tail (λ y. y ≢ 10) x long free) in
    (x ∷ again.0, again.1, rw e (ap (onto_first x) again.2), omega (arith, again.3))

-- no cutting into lines of a byte list with an over-long line
pub never_both : (bytes : List ℕ) (lines others : List (List ℕ)) (rest : List ℕ) → IsTooLongAfter bytes lines →
    CutsInto bytes others rest → ⊥
never_both bytes lines others rest over cut =
    let first = cut_lines-long over.long over.more over.feeds in
    let tail : (flat_map ended lines ++ over.long) ++ over.more ≡ flat_map ended lines ++ (over.long ++ over.more) =
    append_assoc (flat_map ended lines) over.long over.more in
    let here : cut_lines bytes ≡ lines ++ first.0 ∷ first.1 =
    ap cut_lines (over.whole ∙ tail) ∙ cut_lines-ended lines (over.long ++ over.more) over.each ∙
    ap (λ ls. lines ++ ls) first.2 in
    let there : others ++ rest ∷ [] ≡ lines ++ first.0 ∷ first.1 = sym (cut_lines-CutsInto bytes others rest cut) ∙
    here in
    let each : All IsLine (lines ++ first.0 ∷ first.1) =
    All-same IsLine (lines ++ first.0 ∷ first.1) (others ++ rest ∷ []) (sym there)
    (All-push IsLine others rest cut.each cut.partial) in
    let at : get_or (lines ++ first.0 ∷ first.1) (length lines) [] ≡ first.0 =
    get_or-append_seam lines first.0 first.1 [] in
    let inside : length lines < length (lines ++ first.0 ∷ first.1) =
    omega (arith, length-append lines (first.0 ∷ first.1)) in
    let short : length (get_or (lines ++ first.0 ∷ first.1) (length lines) []) ≤ longest_line =
    (each (length lines) [] inside).short in
    omega (arith, short, ap length at, first.3, over.above)
