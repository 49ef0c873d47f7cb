-- The lines of a byte list, from its cutting into lines: all but the last, and the last if it counts.
use Rattle.std.proofs.Common.{◌≡◌, ℕ, ◌<◌, Bool, true, List, [], ◌∷◌, ◌++◌, length, flat_map, All, refl, sym, ap, ◌∙◌, arith, append_assoc, append-nil}
use Rattle.units.specs.Text.{longest_line, cut_at, lines_with, lines_of, has_bytes}
use Rattle.units.specs.Lines.{CutsInto, IsLine, IsTooLongAfter, ended}
use Rattle.units.proofs.FirstItem.{some_bytes}
use Rattle.units.proofs.Ranges.{cut_at-some}
use Rattle.units.proofs.LineReading.{cut_lines-ended, cut_lines-CutsInto, cut_lines-long}

lines_with-append : (counts : List ℕ → Bool) (lines : List (List ℕ)) (last : List ℕ) (more : List (List ℕ)) →
    lines_with counts (lines ++ last ∷ more) ≡ lines ++ lines_with counts (last ∷ more)
lines_with-append counts [] last more = refl
lines_with-append counts (l ∷ []) last more = refl
lines_with-append counts (l ∷ k ∷ lines) last more = ap (λ ls. l ∷ ls) (lines_with-append counts (k ∷ lines) last more)

lines_with-first : (counts : List ℕ → Bool) (x : List ℕ) (more : List (List ℕ)) → counts x ≡ true →
    (later : List (List ℕ)) × (lines_with counts (x ∷ more) ≡ x ∷ later)
lines_with-first counts x [] e = ([], rw e refl)
lines_with-first counts x (next ∷ more) e = (lines_with counts (next ∷ more), refl)

-- a last line that has not ended counts or not
pub lines_with-whole : (counts : List ℕ → Bool) (bytes : List ℕ) (lines : List (List ℕ)) (rest : List ℕ) →
    CutsInto bytes lines rest
    → lines_with counts (cut_at 10 bytes) ≡ lines ++ lines_with counts (rest ∷ [])
lines_with-whole counts bytes lines rest whole =
    ap (lines_with counts) (cut_lines-CutsInto bytes lines rest whole) ∙ lines_with-append counts lines rest []

lines_with-ended : (counts : List ℕ → Bool) (lines : List (List ℕ)) (more : List ℕ) → All IsLine lines
    → lines_with counts (cut_at 10 (flat_map ended lines ++ more)) ≡ lines ++ lines_with counts (cut_at 10 more)
lines_with-ended counts lines more each =
    let s = cut_at-some 10 more in
    ap (lines_with counts) (cut_lines-ended lines more each ∙ ap (λ ls. lines ++ ls) s.2) ∙
    lines_with-append counts lines s.0 s.1
    ∙ ap (λ ls. lines ++ lines_with counts ls) (sym s.2)

-- the bytes after them change none of the lines that have ended
pub lines_with-more : (counts : List ℕ → Bool) (bytes : List ℕ) (lines : List (List ℕ)) (more : List ℕ) →
    CutsInto bytes lines []
    → lines_with counts (cut_at 10 (bytes ++ more)) ≡ lines ++ lines_with counts (cut_at 10 more)
lines_with-more counts bytes lines more whole =
    ap (λ v. lines_with counts (cut_at 10 (v ++ more))) (whole.whole ∙ append-nil (flat_map ended lines)) ∙
    lines_with-ended counts lines more whole.each

-- and they don't change an over-long line that counts
pub lines_with-long : (counts : List ℕ → Bool) → ((line : List ℕ) → longest_line < length line → counts line ≡ true) →
    (bytes : List ℕ) (lines : List (List ℕ)) (more : List ℕ) → IsTooLongAfter bytes lines
    → (long : List ℕ) × (later : List (List ℕ)) × (longest_line < length long) ×
    (lines_with counts (cut_at 10 (bytes ++ more)) ≡ lines ++ long ∷ later)
lines_with-long counts do_count bytes lines more over =
    let rest = over.more ++ more in
    let first = cut_lines-long over.long rest over.feeds in
    let whole : bytes ++ more ≡ flat_map ended lines ++ (over.long ++ rest) =
    ap (λ v. v ++ more) over.whole ∙ append_assoc (flat_map ended lines ++ over.long) over.more more ∙
    append_assoc (flat_map ended lines) over.long rest in
    let above : longest_line < length first.0 = omega (arith, first.3, over.above) in
    let w = lines_with-first counts first.0 first.1 (do_count first.0 above) in (
      first.0,
      w.0,
      above,
      ap (λ v. lines_with counts (cut_at 10 v)) whole ∙ lines_with-ended counts lines (over.long ++ rest) over.each
          ∙ ap (λ ls. lines ++ lines_with counts ls) first.2
          ∙ ap (λ ls. lines ++ ls) w.1,
    )

-- if the last line has ended, the lines are those that have ended
pub lines_of-ended : (bytes : List ℕ) (lines : List (List ℕ)) → CutsInto bytes lines [] → lines_of bytes ≡ lines
lines_of-ended bytes lines whole = lines_with-whole has_bytes bytes lines [] whole ∙ append-nil lines

-- a line that has begun is the last
pub lines_of-begun : (bytes : List ℕ) (lines : List (List ℕ)) (rest : List ℕ) → CutsInto bytes lines rest →
    0 < length rest → lines_of bytes ≡ lines ++ rest ∷ []
lines_of-begun bytes lines rest whole lt =
    let some : has_bytes rest ≡ true = some_bytes rest lt in
    lines_with-whole has_bytes bytes lines rest whole ∙ rw some refl
