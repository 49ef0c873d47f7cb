-- The results of the rules for one paragraph, rule by rule: each column has an item for each position.
use Rattle.std.specs.Prelude.{Option, None, ℕ, ◌≡◌, List, [], length}
use Rattle.units.specs.Classes.{classes_of}
use Rattle.units.specs.Explicit.{explicit_of}
use Rattle.units.specs.Isolates.{first_strong, level_of_para, para_level_of}
use Rattle.units.specs.Layout.{current_of, layout_of}
use Rattle.units.specs.Limits.{standard}
use Rattle.units.specs.Runs.{SequenceView, leveled_of, sequences_of}
use Rattle.units.specs.declared.bracket.Unit.{Unit as BidiUnit}
use Rattle.units.specs.declared.class.Class.{Class}
use Rattle.units.specs.declared.level.Direction.{Direction}
use Rattle.lines.specs.Layouts.{line_at}
use Rattle.rule_columns.specs.Passes.{by_n0, by_pass, closers_of, implicit_of, rewritten}
use Rattle.rule_columns.specs.declared.pass.Pass.TheVariants as pass
use Rattle.rule_columns.specs.declared.explicit_part.ExplicitPart.{ExplicitPart}
use Rattle.rule_columns.specs.declared.rule.Rule.{Rule}
use Rattle.rule_columns.specs.declared.rule.Rule.TheVariants as rule

-- the classes after each of W1 to W7
pub record WeakOf : Type 0 where
  pub w1 : List Class
  pub w2 : List Class
  pub w3 : List Class
  pub w4 : List Class
  pub w5 : List Class
  pub w6 : List Class
  pub w7 : List Class

-- the classes after each of N0, N1 and N2
pub record NeutralOf : Type 0 where
  pub n0 : List Class
  pub n1 : List Class
  pub n2 : List Class

-- BD16, N0: for each position that of the closing bracket of the pair that begins there, if one does; and the classes
-- after N0
pub record BracketOf : Type 0 where
  pub closers : List (Option ℕ)
  pub n0 : List Class

-- P2 to X10: the level of the paragraph, and the first strong position outside of all isolates, which decides it; the
-- explicit level and the class of each position, none for a removed position; the sequences
pub record ExplicitOf : Type 0 where
  pub para_level : ℕ
  pub first_strong : Option ℕ
  pub leveled : List (Option (ℕ × Class))
  pub sequences : List SequenceView

-- the same results, as the code stores them
abbrev pub explicit_view : ExplicitPart → ExplicitOf
explicit_view part = record {
  para_level = level_of_para part.para_level;
  first_strong = part.first_strong;
  leveled = part.leveled;
  sequences = part.sequences.all;
}

-- L1, L2: the levels of a paragraph that is one line, and its positions from left to right
pub record ShownOf : Type 0 where
  pub levels : List (Option ℕ)
  pub order : List ℕ

-- X1 to I2: the classes after X1 to X9, those after each rule, and the levels
pub record ClassesOf : Type 0 where
  pub current : List Class
  pub weak : WeakOf
  pub brackets : BracketOf
  pub neutral : NeutralOf
  pub implicit : List (Option ℕ)

-- the results of all rules: these, the classes after X1 to X9, the closers of bracket pairs (BD16), and the levels
-- after I1 and I2
pub record ColumnsOf : Type 0 where
  pub explicit : ExplicitOf
  pub current : List Class
  pub weak : WeakOf
  pub closers : List (Option ℕ)
  pub neutral : NeutralOf
  pub implicit : List (Option ℕ)
  pub shown : ShownOf

-- the classes after a rule
abbrev pub column_after : ColumnsOf → Rule → List Class
column_after columns rule.X = columns.current
column_after columns rule.W1 = columns.weak.w1
column_after columns rule.W2 = columns.weak.w2
column_after columns rule.W3 = columns.weak.w3
column_after columns rule.W4 = columns.weak.w4
column_after columns rule.W5 = columns.weak.w5
column_after columns rule.W6 = columns.weak.w6
column_after columns rule.W7 = columns.weak.w7
column_after columns rule.N0 = columns.neutral.n0
column_after columns rule.N1 = columns.neutral.n1
column_after columns rule.N2 = columns.neutral.n2

-- the results of P2 to X10 for a paragraph under a direction
abbrev pub explicit_part : List BidiUnit → Direction → ExplicitOf
explicit_part us direction =
    let cs = classes_of us in
    let para_level = para_level_of cs direction in
    record {
      para_level = para_level;
      first_strong = first_strong cs None;
      leveled = explicit_of standard.depth cs para_level;
      sequences = sequences_of (leveled_of standard.depth cs para_level);
    }

-- W1 to W7: each rule is applied to the result of the one before it, from the classes after X1 to X9 on
abbrev pub weak_part : List SequenceView → List Class → WeakOf
weak_part all current =
    let w1 = rewritten (by_pass pass.W1) all current in
    let w2 = rewritten (by_pass pass.W2) all w1 in
    let w3 = rewritten (by_pass pass.W3) all w2 in
    let w4 = rewritten (by_pass pass.W4) all w3 in
    let w5 = rewritten (by_pass pass.W5) all w4 in
    let w6 = rewritten (by_pass pass.W6) all w5 in
    record { w1 = w1; w2 = w2; w3 = w3; w4 = w4; w5 = w5; w6 = w6; w7 = rewritten (by_pass pass.W7) all w6 }

-- BD16, N0: the results from the classes before W1 and those after W7
abbrev pub bracket_part : List SequenceView → List BidiUnit → List Class → List Class → BracketOf
bracket_part all us current weak =
    record { closers = closers_of all us weak; n0 = rewritten (by_n0 us current) all weak }

-- N1 and N2: the results from the classes after N0
abbrev pub neutral_part : List SequenceView → List Class → NeutralOf
neutral_part all n0 =
    let n1 = rewritten (by_pass pass.N1) all n0 in
    record { n0 = n0; n1 = n1; n2 = rewritten (by_pass pass.N2) all n1 }

-- X1 to I2: the results from the sequences of a paragraph, its units and its classes after X1 to X9
abbrev pub classes_part : List SequenceView → List BidiUnit → List Class → ClassesOf
classes_part all us current =
    let weak = weak_part all current in
    let brackets = bracket_part all us current weak.w7 in
    let neutral = neutral_part all brackets.n0 in
    record {
      current = current;
      weak = weak;
      brackets = brackets;
      neutral = neutral;
      implicit =
          implicit_of all neutral.n2;
    }

-- the results of L1 and L2 for a paragraph under a direction
abbrev pub shown_part : List BidiUnit → Direction → ShownOf
shown_part us direction =
    let layout = layout_of standard us direction [] in
    record { levels = layout.levels; order = (line_at layout 0).order }

-- the results of P2 to L2 for a paragraph under a direction
unfoldable pub columns_of : List BidiUnit → Direction → ColumnsOf
columns_of us direction =
    let explicit = explicit_part us direction in
    let classes = classes_part explicit.sequences us (current_of explicit.leveled) in
    record {
      explicit = explicit;
      current = classes.current;
      weak = classes.weak;
      closers = classes.brackets.closers;
      neutral = classes.neutral;
      implicit = classes.implicit;
      shown = shown_part us direction;
    }

-- each column has an item for each position; there are `size` positions
pub record HaveLength (columns : ColumnsOf) (size : ℕ) : Type 0 where
  pub leveled : length columns.explicit.leveled ≡ size
  pub classes : (rule : Rule) → length (column_after columns rule) ≡ size
  pub closers : length columns.closers ≡ size
  pub implicit : length columns.implicit ≡ size
  pub levels : length columns.shown.levels ≡ size
