-- The finding of a line of a file, by its index.
use Rattle.std.proofs.Common.{◌≡◌, ℕ, zero, suc, ◌<◌, Option, None, Some, List, [], ◌∷◌, ◌++◌, length, take, map, reverse, refl, sym, ap, ◌∙◌, arith, append_assoc, append-nil}
use Rattle.std.specs.Prelude.{nat_lt, slice_index_or}
use Rattle.std.specs.List.{slice_get}
use Rattle.std.proofs.lemmas.List.{reverse-append}
use Rattle.std.proofs.lemmas.Option.{slice_get-get_or, slice_get-map, slice_get_within, same_Some}
use Rattle.units.specs.Text.{longest_line, content_of, fields_of, items_of}
use Rattle.units.specs.declared.bracket.Unit.{Unit as BidiUnit}
use Rattle.units.specs.declared.level.Direction.{Direction}
use Rattle.units.specs.declared.level.ParaLevel.{ParaLevel}
use Rattle.bidtests.specs.declared.kind.Kind.{Kind}
use Rattle.bidtests.specs.declared.kind.Kind.TheVariants.{Classes, Characters}
use Rattle.bidtests.specs.declared.verdict.Cause.TheVariants.{LineTooLong}
use Rattle.bidtests.specs.Verdicts.{Finding, Faulty}
use Rattle.bidtests.specs.ClassesFile.{ClassesLine, classes_line, comes_to, findings_after, levels_in_force, order_in_force}
use Rattle.bidtests.specs.CharactersFile.{direction_field, characters_row_as_read, characters_row_of_items, characters_row, characters_content, characters_line}
use Rattle.bidtests.specs.FileKinds.{findings_by}
use Rattle.ucdfiles.specs.Tables.{unit_by}
use Rattle.bidtests.specs.Headline.{line_comes_to}
use Rattle.bidtests.proofs.LineByLine.{length-findings}
use Rattle.bidtests.proofs.Ordered.{IsOrdered, one-direction, if-either, classes-ordered}

-- the lines before, the nearest first, and those before these
earlier-lines : (line : ClassesLine) (lines earlier : List ClassesLine) →
    reverse lines ++ (line ∷ earlier) ≡ reverse (line ∷ lines) ++ earlier
earlier-lines line lines earlier =
    sym (ap (λ (l : List ClassesLine). l ++ earlier) (reverse-append (line ∷ []) lines) ∙
    append_assoc (reverse lines) (line ∷ []) earlier)

-- the finding of a line of a classes file after those before it, the nearest first
abbrev following : List ClassesLine → List ℕ → Finding
following earlier line = comes_to (levels_in_force earlier) (order_in_force earlier) (classes_line line)

finding-at : (earlier : List ClassesLine) (lines : List (List ℕ)) (k : ℕ) → k < length lines
    → slice_get (findings_after earlier (map classes_line lines)) k ≡
    Some (following (reverse (map classes_line (take k lines)) ++ earlier) (slice_index_or lines k []))
finding-at earlier [] k lt = absurd (omega arith)
finding-at earlier (line ∷ lines) zero lt = refl
finding-at earlier (line ∷ lines) (suc k) lt =
    grind (arith, earlier-lines, finding-at (classes_line line ∷ earlier) lines k)

pub line-finding : (kind : Kind) (lines : List (List ℕ)) (k : ℕ) → k < length lines →
    slice_get (findings_by kind lines) k ≡ Some (line_comes_to kind lines k)
line-finding Classes lines k lt = grind (arith, finding-at, append-nil)
line-finding (Characters tables) lines k lt = grind (arith, slice_get-map, slice_get-get_or)

module _ (unit_of : ℕ → BidiUnit) where
  expected-ordered : (text : Option (List BidiUnit)) (direction : Option Direction) (para_level : Option ParaLevel)
      (levels : Option (List (Option ℕ))) (order : Option (List ℕ))
      → IsOrdered (characters_row_as_read text direction para_level levels order)
  expected-ordered None direction para_level levels order = tt
  expected-ordered (Some text) None para_level levels order = tt
  expected-ordered (Some text) (Some direction) None levels order = tt
  expected-ordered (Some text) (Some direction) (Some para_level) None order = tt
  expected-ordered (Some text) (Some direction) (Some para_level) (Some levels) None = tt
  expected-ordered (Some text) (Some direction) (Some para_level) (Some levels) (Some order) = one-direction direction

  items-ordered : (items : List (List ℕ)) (direction para_level levels order : List ℕ) →
      IsOrdered (characters_row_of_items direction_field unit_of items direction para_level levels order)
  items-ordered [] direction para_level levels order = tt
  items-ordered (item ∷ items) direction para_level levels order = grind (arith, expected-ordered)

  fields-ordered : (fields : List (List ℕ)) → IsOrdered (characters_row unit_of fields)
  fields-ordered [] = tt
  fields-ordered (a ∷ []) = tt
  fields-ordered (a ∷ b ∷ []) = tt
  fields-ordered (a ∷ b ∷ c ∷ []) = tt
  fields-ordered (a ∷ b ∷ c ∷ d ∷ []) = tt
  fields-ordered (characters ∷ direction ∷ para_level ∷ levels ∷ order ∷ []) =
      items-ordered (items_of characters) direction para_level levels order
  fields-ordered (a ∷ b ∷ c ∷ d ∷ e ∷ f ∷ fields) = tt

  content-ordered : (content : List ℕ) → IsOrdered (characters_content direction_field unit_of content)
  content-ordered [] = tt
  content-ordered (b ∷ bs) = fields-ordered (fields_of (b ∷ bs))

  characters-ordered : (line : List ℕ) → IsOrdered (characters_line unit_of line)
  unfolding characters_line
  characters-ordered line =
      if-either IsOrdered (nat_lt longest_line (length line)) (Faulty LineTooLong)
      (characters_content direction_field unit_of (content_of line)) tt (content-ordered (content_of line))

line-ordered : (kind : Kind) (lines : List (List ℕ)) (k : ℕ) → IsOrdered (line_comes_to kind lines k)
line-ordered Classes lines k = grind (arith, classes-ordered)
line-ordered (Characters tables) lines k = characters-ordered (unit_by tables.now) (slice_index_or lines k [])

-- each row of a file names its directions in order
pub findings-ordered : (kind : Kind) (lines : List (List ℕ)) (k : ℕ) (f : Finding) →
    slice_get (findings_by kind lines) k ≡ Some f → IsOrdered f
findings-ordered kind lines k f e =
    grind (arith, slice_get_within, length-findings, same_Some, line-finding, line-ordered)
