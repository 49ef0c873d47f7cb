-- Constants that pass these tests give the brackets that the bytes of BidiBrackets.txt state.
use Rattle.std.proofs.Common.{◌≡◌, ◌≤◌, ◌==◌, ℕ, Bool, true, false, Option, None, List, [], map, refl, sym, ap, ◌∙◌, eqb-true}
use Rattle.std.specs.List.{find}
use Rattle.std.specs.Option.{unwrap_or}
use Rattle.units.specs.Text.{lines_of}
use Rattle.units.specs.declared.bracket.Bracket.{Bracket}
use Rattle.units.specs.declared.bracket.Bracket.TheVariants.{No, Open, Close}
use Rattle.units.specs.declared.bracket.Key.{Key}
use Rattle.ucdfiles.specs.declared.fault.Fault.TheVariants.{Twice}
use Rattle.ucdfiles.specs.declared.sided_bracket.SidedBracket.{SidedBracket}
use Rattle.ucdfiles.specs.declared.span.FileLine.{FileLine}
use Rattle.ucdfiles.specs.declared.span.Span.{Span}
use Rattle.ucdfiles.specs.Faults.{first_fault}
use Rattle.ucdfiles.specs.Keys.{AreKeyed, key_in, keyed_span}
use Rattle.ucdfiles.specs.PairFiles.{pair_line_says, bracket_in, bracket_fault, StatesBrackets}
use Rattle.ucdfiles.specs.Spans.{holds, value_by}
use Rattle.ucdfiles.specs.Stages.{Stages, AreStages}
use Rattle.ucdfiles.specs.Statements.{data_of, defaults_of, Stated, AreStatedBy}
use Rattle.ucdfiles.specs.Tables.{bracket_by, IsTableOf}
use Rattle.ucdfiles.proofs.Keyed.{states-brackets}
use Rattle.ucd_normal.proofs.DecompositionLemmas.{decomposition_by_tree}
use Rattle.ucd_table.specs.Steps.{Step, step_value}
use Rattle.ucd_table.proofs.StepsLemmas.{rises_from, map_steps, step_value-map_steps}
use Rattle.table_constants.proofs.Faultless.{fine, fine-none}
use Rattle.table_constants.proofs.Numbered.{counts_up, counts_up-IsNumbering, decompositions_by_tree, decompositions_of, decompositions_with, each_numbered, each_numbered-AreNumbered, keyed_with, keyed_with-decompositions}
use Rattle.table_constants.proofs.SpanSteps.{rows, span_steps, span_steps-give}
use Rattle.table_constants.proofs.StageCheck.{stages_ok, stages_ok-AreStages, stages_ok-stage_at}

unfoldable pub same_bracket : Bracket → Bracket → Bool
same_bracket No No = true
same_bracket No (Open b) = false
same_bracket No (Close b) = false
same_bracket (Open a) No = false
same_bracket (Open a) (Open b) = a.0 == b.0
same_bracket (Open a) (Close b) = false
same_bracket (Close a) No = false
same_bracket (Close a) (Open b) = false
same_bracket (Close a) (Close b) = a.0 == b.0

same_key : (a b : Key) → a.0 ≡ b.0 → a ≡ b
same_key a b e = ap (λ (n : ℕ). record { 0 = n }) e

pub same_bracket-exact : (x y : Bracket) → same_bracket x y ≡ true → x ≡ y
unfolding same_bracket
same_bracket-exact No No h = refl
same_bracket-exact No (Open b) h = cc
same_bracket-exact No (Close b) h = cc
same_bracket-exact (Open a) No h = cc
same_bracket-exact (Open a) (Open b) h = ap Open (same_key a b (eqb-true a.0 b.0 h))
same_bracket-exact (Open a) (Close b) h = cc
same_bracket-exact (Close a) No h = cc
same_bracket-exact (Close a) (Open b) h = cc
same_bracket-exact (Close a) (Close b) h = ap Close (same_key a b (eqb-true a.0 b.0 h))

-- what the lines of the file state
unfoldable pub stated_brackets : List ℕ → List (FileLine SidedBracket)
stated_brackets bytes = map (pair_line_says bracket_in) (lines_of bytes)

-- the brackets of the code points, as steps
abbrev pub bracket_steps : List (Span Bracket) → List (Step Bracket)
bracket_steps spans = map_steps (λ o. unwrap_or o No) (span_steps spans)

-- the number of each decomposition, and the decomposition for each bracket
pub record Numbers : Type 0 where
  pub numbering : List (List ℕ × ℕ)
  pub decompositions : List (List ℕ)

-- the stages and the brackets in order pass the tests for the bytes of the file
pub record AreBracketConstants (bytes : List ℕ) (numbers : Numbers) (spans : List (Span Bracket))
    (stages : Stages Bracket) : Type 0 where
  pub faultless : fine 0 0 0 (stated_brackets bytes) ≡ true
  pub decomposed : decompositions_with decomposition_by_tree (data_of (stated_brackets bytes)) ≡ numbers.decompositions
  pub counting : counts_up 0 numbers.numbering ≡ true
  pub numbered : each_numbered numbers.numbering numbers.decompositions ≡ true
  pub keyed : spans ≡ keyed_with numbers.numbering (data_of (stated_brackets bytes)) numbers.decompositions
  pub rising : rises_from 0 (rows spans) ≡ true
  pub agreeing : stages_ok same_bracket same_bracket-exact No stages.numbers stages.values (bracket_steps spans) ≡ true

module _ (bytes : List ℕ) (numbers : Numbers) (spans : List (Span Bracket)) (stages : Stages Bracket)
    (tests : AreBracketConstants bytes numbers spans stages) where
  pub brackets-AreStages : AreStages stages
  brackets-AreStages =
      stages_ok-AreStages same_bracket same_bracket-exact No stages.numbers stages.values
      (bracket_steps spans) tests.agreeing

  pub brackets-steps : (c : ℕ) → c ≤ 0x10FFFF → bracket_by stages c ≡ step_value No (bracket_steps spans) c
  unfolding bracket_by
  brackets-steps c le =
      stages_ok-stage_at same_bracket same_bracket-exact No stages.numbers stages.values
      (bracket_steps spans) tests.agreeing c No le

  looks : (c : ℕ) → c ≤ 0x10FFFF → bracket_by stages c ≡ unwrap_or (value_by (find (holds c) spans) None) No
  looks c le =
      brackets-steps c le
      ∙ sym (ap (λ o. unwrap_or o No) (span_steps-give spans c tests.rising) ∙
      step_value-map_steps (λ (o : Option Bracket). unwrap_or o No) None (span_steps spans) c)

  pub brackets-IsTableOf : IsTableOf spans stages
  brackets-IsTableOf = looks

  abbrev stated : Stated SidedBracket
  stated = record { data_lines = data_of (stated_brackets bytes); default_lines = defaults_of (stated_brackets bytes) }

  represents : AreStatedBy (pair_line_says bracket_in) stated (lines_of bytes)
  unfolding stated_brackets
  represents = record { finds = λ c. refl; meets = λ span. refl; counts = refl; defaults = refl }

  faultless_file : first_fault bracket_fault [] (lines_of bytes) ≡ None
  unfolding stated_brackets
  faultless_file = fine-none (pair_line_says bracket_in) Twice (lines_of bytes) tests.faultless

  are_decomposed : decompositions_of (data_of (stated_brackets bytes)) ≡ numbers.decompositions
  are_decomposed = decompositions_by_tree (data_of (stated_brackets bytes)) ∙ tests.decomposed

  keyed_spans : spans ≡ map (keyed_span (key_in numbers.numbering)) (data_of (stated_brackets bytes))
  keyed_spans =
      let data_lines = data_of (stated_brackets bytes) in
      tests.keyed ∙ ap (keyed_with numbers.numbering data_lines) (sym are_decomposed) ∙
      keyed_with-decompositions numbers.numbering data_lines

  are_keyed : AreKeyed (data_of (stated_brackets bytes)) spans
  are_keyed = record {
    numbers = numbers.numbering;
    numbering = counts_up-IsNumbering numbers.numbering tests.counting;
    numbered = each_numbered-AreNumbered numbers.numbering (data_of (stated_brackets bytes))
        (ap (each_numbered numbers.numbering) are_decomposed ∙ tests.numbered);
    keyed = keyed_spans;
  }

  pub brackets-StatesBrackets : StatesBrackets bytes (bracket_by stages)
  brackets-StatesBrackets =
      states-brackets bytes stated represents spans are_keyed faultless_file (bracket_by stages) looks
