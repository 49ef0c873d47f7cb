-- The lines of a byte list that no later bytes change, from its cutting into lines.
use Rattle.std.proofs.Common.{◌≡◌, ℕ, ◌<◌, false, List, [], ◌∷◌, ◌++◌, length, ◌∙◌, append-nil}
use Rattle.std.proofs.lemmas.Bool.{lt-ltb, le-ltb}
use Rattle.units.specs.Text.{longest_line, decided_lines, is_over_long}
use Rattle.units.specs.Lines.{CutsInto, IsTooLongAfter}
use Rattle.ucdfiles.proofs.LinesWith.{lines_with-long, lines_with-more, lines_with-whole}

-- these are the lines that have ended, if none is over-long
pub decided-whole : (bytes : List ℕ) (lines : List (List ℕ)) (rest : List ℕ) → CutsInto bytes lines rest →
    decided_lines bytes ≡ lines
decided-whole bytes lines rest whole =
    let short : is_over_long rest ≡ false = le-ltb _ _ whole.partial.short in
    lines_with-whole is_over_long bytes lines rest whole ∙ rw short (append-nil lines)

-- the bytes after them change none of the lines that have ended
pub decided-more : (bytes : List ℕ) (lines : List (List ℕ)) (more : List ℕ) → CutsInto bytes lines [] →
    (later : List (List ℕ)) × (decided_lines (bytes ++ more) ≡ lines ++ later)
decided-more bytes lines more whole = (decided_lines more, lines_with-more is_over_long bytes lines more whole)

-- and they don't change an over-long line
pub decided-long : (bytes : List ℕ) (lines : List (List ℕ)) (more : List ℕ) → IsTooLongAfter bytes lines
    → (long : List ℕ) × (later : List (List ℕ)) × (longest_line < length long) ×
    (decided_lines (bytes ++ more) ≡ lines ++ long ∷ later)
decided-long = lines_with-long is_over_long (λ line above. lt-ltb _ _ above)
