-- The values that lines of pairs state: none of them is a default line.
use Rattle.std.proofs.Common.{arith, ◌≡◌, ℕ, None, Result, Ok, Err, List, [], ◌∷◌, map, refl, ◌∙◌}
use Rattle.std.specs.List.{find}
use Rattle.units.specs.Text.{lines_of}
use Rattle.ucdfiles.specs.declared.fault.Fault.{Fault}
use Rattle.ucdfiles.specs.declared.span.Span.{Span}
use Rattle.ucdfiles.specs.declared.span.FileLine.{FileLine}
use Rattle.ucdfiles.specs.declared.span.FileLine.TheVariants.{Silent, Data, Default, Faulty}
use Rattle.ucdfiles.specs.Spans.{holds, value_by}
use Rattle.ucdfiles.specs.Statements.{Stated, AreStatedBy, defaults_of, value_of, span_says}
use Rattle.ucdfiles.specs.PairFiles.{pair_line_says, pair_content_says}
use Rattle.ucdfiles.proofs.Stating.{value_in-represents}

-- not a default line
abbrev IsNoDefault : {V : Type 0} → FileLine V → Type 0
IsNoDefault Silent = Unit {0}
IsNoDefault (Data span) = Unit {0}
IsNoDefault (Default span) = ⊥
IsNoDefault (Faulty fault) = Unit {0}

module _ {V : Type 0} (read : List (List ℕ) → Result (Span V) Fault) where
  says-data : (r : Result (Span V) Fault) → IsNoDefault (span_says Data r)
  says-data (Ok span) = tt
  says-data (Err fault) = tt

  content-data : (content : List ℕ) → IsNoDefault (pair_content_says read content)
  content-data [] = tt
  content-data (b ∷ bs) = says-data _

  line-data : (line : List ℕ) → IsNoDefault (pair_line_says read line)
  unfolding pair_line_says
  line-data line = grind (arith, content-data)

  defaults_of-plain : (line : FileLine V) (lines : List (FileLine V)) → IsNoDefault line →
      defaults_of (line ∷ lines) ≡ defaults_of lines
  defaults_of-plain Silent lines is = refl
  defaults_of-plain (Data span) lines is = refl
  defaults_of-plain (Default span) lines is = absurd is
  defaults_of-plain (Faulty fault) lines is = refl

  defaults_of-pairs : (lines : List (List ℕ)) → defaults_of (map (pair_line_says read) lines) ≡ []
  defaults_of-pairs [] = refl
  defaults_of-pairs (line ∷ lines) =
      defaults_of-plain (pair_line_says read line) (map (pair_line_says read) lines) (line-data line) ∙
      defaults_of-pairs lines

  -- so the data lines alone state the values
  pub value_of-pairs : (stated : Stated V) (bytes : List ℕ) (c : ℕ) →
      AreStatedBy (pair_line_says read) stated (lines_of bytes) →
      value_of (pair_line_says read) bytes c ≡ value_by (find (holds c) stated.data_lines) None
  value_of-pairs stated bytes c represents = grind (arith, defaults_of-pairs, value_in-represents)
