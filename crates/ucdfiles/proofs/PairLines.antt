-- What a line of pairs states: its content decides it.
use Rattle.std.proofs.Common.{◌≡◌, ℕ, ◌<◌, ◌≤◌, ◌==◌, true, false, List, [], ◌∷◌, length, refl, sym, ap, ◌∙◌, arith, Result}
use Rattle.std.specs.Prelude.{nat_lt}
use Rattle.std.proofs.lemmas.Bool.{le-ltb, eqb-true, eqb-false}
use Rattle.units.specs.Text.{longest_line, content_of, fields_of}
use Rattle.ucdfiles.specs.declared.fault.Fault.{Fault}
use Rattle.ucdfiles.specs.declared.span.Span.{Span}
use Rattle.ucdfiles.specs.declared.span.FileLine.TheVariants.{Silent, Data}
use Rattle.ucdfiles.specs.PairFiles.{pair_line_says, pair_content_says}
use Rattle.ucdfiles.specs.Statements.{span_says}

module _ {V : Type 0} (read_in : List (List ℕ) → Result (Span V) Fault) (line content : List ℕ) (le : length line ≤
    longest_line) (is : content ≡ content_of line) where
  short : pair_line_says read_in line ≡ pair_content_says read_in content
  unfolding pair_line_says
  short = let e : nat_lt longest_line (length line) ≡ false = le-ltb _ _ le in rw (e, is) refl

  none-at : (content : List ℕ) → length content ≡ 0 → pair_content_says read_in content ≡ Silent
  none-at [] e = refl
  none-at (b ∷ bs) e = absurd (omega arith)

  some-at : (content : List ℕ) → 0 < length content →
      pair_content_says read_in content ≡ span_says Data (read_in (fields_of content))
  some-at [] lt = absurd (omega arith)
  some-at (b ∷ bs) lt = refl

  pub pair-silent : true ≡ (length content == 0) → pair_line_says read_in line ≡ Silent
  pair-silent empty = short ∙ none-at content (eqb-true _ _ (sym empty))

  pub pair-says : false ≡ (length content == 0) → (read : Result (Span V) Fault) → read_in (fields_of content) ≡ read →
      pair_line_says read_in line ≡ span_says Data read
  pair-says some read e = let lt : 0 < length content = omega (arith, eqb-false _ _ (sym some)) in
      short ∙ some-at content lt ∙ ap (span_says Data) e
