-- The columns of a paragraph, composed from their parts.
use Rattle.std.specs.Prelude.{ℕ, ◌≡◌, List, [], length, take, refl, Result, Ok, Err, IfOk}
use Rattle.std.proofs.Common.{arith, ap, sym, ◌∙◌, subst}
use Rattle.std.proofs.lemmas.List.{length-map, take_all}
use Rattle.units.specs.Classes.{classes_of}
use Rattle.units.specs.Explicit.{explicit_of}
use Rattle.units.specs.Isolates.{para_level_of}
use Rattle.units.specs.Layout.{current_of}
use Rattle.units.specs.Limits.{standard}
use Rattle.units.specs.Positions.{positions_of}
use Rattle.units.specs.Runs.{SequenceView}
use Rattle.units.specs.declared.bracket.Unit.{Unit as BidiUnit}
use Rattle.units.specs.declared.class.Class.{Class}
use Rattle.units.specs.declared.level.Direction.{Direction}
use Rattle.units.proofs.Positions.{length-positions_from}
use Rattle.explicit.proofs.LevelsComputed.Leveled.{length-of_positions}
use Rattle.resolve.specs.Wanted.{AreOwn}
use Rattle.paragraph.proofs.AllSequences.{classes_are_unchanged}
use Rattle.units.specs.declared.memory.Memory.{Memory}
use Rattle.lines.proofs.Lengths.{length-levels}
use Rattle.rule_columns.specs.Columns.{ClassesOf, ColumnsOf, ExplicitOf, ShownOf, HaveLength, classes_part, column_after, columns_of, explicit_part, shown_part}
use Rattle.rule_columns.specs.Passes.{closers_of, implicit_of, rewritten}
use Rattle.rule_columns.specs.declared.rule.Rule.{Rule}
use Rattle.rule_columns.specs.declared.rule.Rule.TheVariants as rule

-- the columns with these parts
abbrev pub with_parts : ExplicitOf → ClassesOf → ShownOf → ColumnsOf
with_parts explicit classes shown = record {
  explicit = explicit;
  current = classes.current;
  weak = classes.weak;
  closers = classes.brackets.closers;
  neutral = classes.neutral;
  implicit = classes.implicit;
  shown = shown;
}

module _ (us : List BidiUnit) (direction : Direction) (explicit : ExplicitOf) (current : List Class) (is : explicit ≡
    explicit_part us direction)
    (long : length explicit.leveled ≡ length us) (front : current ≡ current_of (take (length us) explicit.leveled))
  where
    whole : current ≡ current_of explicit.leveled
    whole = front ∙ ap current_of (take_all (length us) explicit.leveled (omega arith))

    -- except for overrides and removed positions, the classes before W1 are the original ones
    pub own_from : (ps : List ℕ) → AreOwn ps us current
    own_from ps =
        let cs : List Class = classes_of us in
        let unchanged : AreOwn ps us (current_of (explicit_of standard.depth cs (para_level_of cs direction))) =
        classes_are_unchanged standard.depth us (para_level_of cs direction) ps in
        subst (AreOwn ps us) (sym (whole ∙ ap (λ (x : ExplicitOf). current_of x.leveled) is)) unchanged

    pub columns_from : (classes : ClassesOf) (shown : ShownOf) → classes ≡ classes_part explicit.sequences us current →
        shown ≡ shown_part us direction →
        with_parts explicit classes shown ≡ columns_of us direction
    unfolding columns_of
    columns_from classes shown c s = rw (s, c, whole, is) refl

-- the number of items of the columns
length-rewritten : (rule : SequenceView → List Class → List Class) (all : List SequenceView) (cs : List Class) →
    length (rewritten rule all cs) ≡ length cs
unfolding rewritten
length-rewritten rule all cs = length-map (positions_of cs) _ ∙ length-positions_from 0 (length cs)

-- the same after one more rule
again : (rule : SequenceView → List Class → List Class) (all : List SequenceView) (cs : List Class) {n : ℕ} →
    length cs ≡ n → length (rewritten rule all cs) ≡ n
again rule all cs long = length-rewritten rule all cs ∙ long

length-closers_of : (all : List SequenceView) (us : List BidiUnit) (weak : List Class) →
    length (closers_of all us weak) ≡ length us
unfolding closers_of
length-closers_of all us weak = length-map (positions_of us) _ ∙ length-positions_from 0 (length us)

length-implicit_of : (all : List SequenceView) (cs : List Class) → length (implicit_of all cs) ≡ length cs
unfolding implicit_of
length-implicit_of all cs = length-map (positions_of cs) _ ∙ length-positions_from 0 (length cs)

module _ (us : List BidiUnit) (direction : Direction) where
  length-leveled : length (explicit_part us direction).leveled ≡ length us
  length-leveled = grind (arith, length-of_positions, length-map)

  length-current : length (current_of (explicit_part us direction).leveled) ≡ length us
  length-current = length-map (explicit_part us direction).leveled _ ∙ length-leveled

  length-columns : (rule : Rule) → length (column_after (columns_of us direction) rule) ≡ length us
  unfolding columns_of
  length-columns rule.X = length-current
  length-columns rule.W1 = again _ _ _ length-current
  length-columns rule.W2 = again _ _ _ (again _ _ _ length-current)
  length-columns rule.W3 = again _ _ _ (again _ _ _ (again _ _ _ length-current))
  length-columns rule.W4 = again _ _ _ (again _ _ _ (again _ _ _ (again _ _ _ length-current)))
  length-columns rule.W5 = again _ _ _ (again _ _ _ (again _ _ _ (again _ _ _ (again _ _ _ length-current))))
  length-columns rule.W6 =
      again _ _ _ (again _ _ _ (again _ _ _ (again _ _ _ (again _ _ _ (again _ _ _ length-current)))))
  length-columns rule.W7 =
      again _ _ _ (again _ _ _ (again _ _ _ (again _ _ _ (again _ _ _ (again _ _ _ (again _ _ _ length-current))))))
  length-columns rule.N0 =
      again _ _ _ (again _ _ _
      (again _ _ _ (again _ _ _ (again _ _ _ (again _ _ _ (again _ _ _ (again _ _ _ length-current)))))))
  length-columns rule.N1 =
      again _ _ _ (again _ _ _
      (again _ _ _ (again _ _ _ (again _ _ _ (again _ _ _ (again _ _ _ (again _ _ _ (again _ _ _ length-current))))))))
  length-columns rule.N2 =
      again _ _ _ (again _ _ _
      (again _ _ _ (again _ _ _
      (again _ _ _ (again _ _ _ (again _ _ _ (again _ _ _ (again _ _ _ (again _ _ _ length-current)))))))))

  pub columns_fit : HaveLength (columns_of us direction) (length us)
  unfolding columns_of
  columns_fit = record {
    leveled = length-leveled;
    classes = length-columns;
    closers = length-closers_of _ us _;
    implicit = length-implicit_of _ _ ∙ length-columns rule.N2;
    levels = length-levels standard us direction [];
  }

-- a property of a value holds for a result that is this value
pub if_ok : (P : ColumnsOf → Type 0) (value : ColumnsOf) (result : Result ColumnsOf Memory) →
    IfOk result (λ columns. columns ≡ value) → P value → IfOk result P
if_ok P value (Ok columns) is holds = subst P (sym is) holds
if_ok P value (Err e) is holds = tt
