-- The lines of a file that is written line by line.
use Rattle.std.proofs.Common.{◌≡◌, ℕ, List, [], ◌∷◌, ◌++◌, refl, ap, ◌∙◌, append_assoc}
use Rattle.std.specs.List.{All, flat_map}
use Rattle.std.proofs.lemmas.List.Elements.{All-head, All-tail}
use Rattle.units.specs.Text.{cut_at, lines_of, lines_with, has_bytes}
use Rattle.units.specs.Lines.{HasNoFeed, ended}
use Rattle.rows.proofs.Contents.{cut-first}

cut-whole : (lines : List (List ℕ)) → All HasNoFeed lines → cut_at 10 (flat_map ended lines) ≡ lines ++ [] ∷ []
cut-whole [] free = refl
cut-whole (line ∷ lines) free =
    ap (cut_at 10) (append_assoc line (10 ∷ []) (flat_map ended lines))
    ∙ cut-first 10 line (flat_map ended lines) (All-head HasNoFeed line lines free)
    ∙ ap (λ (ls : List (List ℕ)). line ∷ ls) (cut-whole lines (All-tail HasNoFeed line lines free))

all-end : (lines : List (List ℕ)) → lines_with has_bytes (lines ++ [] ∷ []) ≡ lines
all-end [] = refl
all-end (line ∷ []) = refl
all-end (line ∷ next ∷ lines) = ap (λ (ls : List (List ℕ)). line ∷ ls) (all-end (next ∷ lines))

pub lines-written : (lines : List (List ℕ)) → All HasNoFeed lines → lines_of (flat_map ended lines) ≡ lines
lines-written lines free = ap (lines_with has_bytes) (cut-whole lines free) ∙ all-end lines
