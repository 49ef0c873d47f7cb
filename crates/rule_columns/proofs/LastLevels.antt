-- The levels after I1 and I2, rule by rule, are the resolved levels.
use Rattle.std.specs.Prelude.{Option, Some, ℕ, suc, ◌<◌, ◌≡◌, List, [], ◌∷◌, ◌++◌, length, map, slice_get, slice_index, unwrap_or, refl}
use Rattle.std.specs.List.{flat_map, zip}
use Rattle.std.proofs.Common.{arith, ap, sym, ◌∙◌, inl, inr}
use Rattle.std.proofs.lemmas.Bool.{cases_eq}
use Rattle.std.proofs.lemmas.List.{length-map}
use Rattle.units.specs.Classes.{class_at, classes_at, classes_of}
use Rattle.units.specs.Implicit.{implicit_level}
use Rattle.units.specs.Isolates.{para_level_of}
use Rattle.units.specs.Layout.{after_brackets, after_rules, levels_in, resolved_levels, value_beside}
use Rattle.units.specs.Limits.{standard}
use Rattle.units.specs.Paragraphs.{SeparatorOnlyLast}
use Rattle.units.specs.Positions.{positions_from}
use Rattle.units.specs.Runs.{SequenceView, direction_of, leveled_of, sequences_of}
use Rattle.units.specs.Weak.{after_weak, by_w3, by_w6}
use Rattle.units.specs.declared.bracket.Unit.{Unit as BidiUnit}
use Rattle.units.specs.declared.class.Class.{Class}
use Rattle.units.specs.declared.class.Class.TheVariants.{L}
use Rattle.units.specs.declared.level.Direction.{Direction}
use Rattle.units.proofs.Lengths.{length-after_paired, length-at_each}
use Rattle.resolve.proofs.AtEach.{class_at-at_each, same_classes}
use Rattle.resolve.proofs.Gathered.{length-classes_at, class_at-classes_at, contains_index}
use Rattle.paragraph.specs.Covering.{AreDisjoint}
use Rattle.paragraph.proofs.AllSequences.{sequences_are_apart}
use Rattle.paragraph.proofs.Covering.{times_some, within_extent}
use Rattle.rule_columns.specs.Columns.{ColumnsOf, columns_of}
use Rattle.rule_columns.specs.Passes.{by_n0, by_n2, by_pass, classes_in, implicit_in, implicit_of, rewritten, rewritten_at}
use Rattle.rule_columns.specs.declared.pass.Pass.{Pass}
use Rattle.rule_columns.specs.declared.pass.Pass.TheVariants as pass
use Rattle.rule_columns.specs.declared.rule.Rule.TheVariants as rule
use Rattle.rule_columns.proofs.EachSequence.{says_own}
use Rattle.paragraph.proofs.ComputedBeside.{zip_some}
use Rattle.rule_columns.proofs.Results.{located_in, distinct_in}
use Rattle.lines.proofs.RemovedLevels.{para_level-low}
use Rattle.rule_columns.proofs.NeutralSteps.{in_two_steps}
use Rattle.rule_columns.proofs.PuttingTogether.{columns_fit}

-- the rule keeps the number of classes
abbrev KeepsLength : (SequenceView → List Class → List Class) → Type 0
KeepsLength rule = (s : SequenceView) (cs : List Class) → length (rule s cs) ≡ length cs

pass_keeps : (pass : Pass) → KeepsLength (by_pass pass)
pass_keeps pass.W1 s cs = length-at_each _ cs
pass_keeps pass.W2 s cs = length-at_each _ cs
pass_keeps pass.W3 s cs = length-map cs by_w3
pass_keeps pass.W4 s cs = length-at_each _ cs
pass_keeps pass.W5 s cs = length-at_each _ cs
pass_keeps pass.W6 s cs = length-map cs by_w6
pass_keeps pass.W7 s cs = length-at_each _ cs
pass_keeps pass.N1 s cs = length-at_each _ cs
pass_keeps pass.N2 s cs = length-map cs (by_n2 (direction_of s.level))

n0_keeps : (us : List BidiUnit) (before : List Class) → KeepsLength (by_n0 us before)
n0_keeps us before s cs = length-after_paired _ s.sos _ _ cs

module _ {extent : ℕ} {all : List SequenceView} (apart : AreDisjoint extent all) {k : ℕ} {s : SequenceView}
    (at : slice_get all k ≡ Some s) (inside : k < length all) where
  -- at the positions of a sequence, the result is that of the rule for its classes
  rewritten_in : (rule : SequenceView → List Class → List Class) → KeepsLength rule → (cs : List Class) →
      length cs ≡ extent →
      classes_at (rewritten rule all cs) s.positions ≡ rule s (classes_at cs s.positions)
  unfolding rewritten
  rewritten_in rule keeps cs n =
      let ps : List ℕ = s.positions in
      let values : List Class = rule s (classes_at cs ps) in
      let long : length values ≡ length ps = keeps s (classes_at cs ps) ∙ length-classes_at cs ps in
      let f : ℕ → Class = rewritten_at rule all cs in
      same_classes (classes_at (rewritten rule all cs) ps) values (length-classes_at (rewritten rule all cs) ps ∙
      sym long)
      (λ j h.
      let here : j < length ps = omega (arith, length-classes_at (rewritten rule all cs) ps) in
      let p : ℕ = slice_index ps j in
      let d : Class = class_at cs p in
      let within : p < extent = within_extent apart at inside p (contains_index ps j here) in
      let some : 0 < Rattle.sequences.specs.Once.times ps p = times_some ps p (contains_index ps j here) in
      let z = zip_some ps values p long some L in
      let index : z.0 ≡ j = elim (cases_eq z.0 j) [
        | inl e ↦ e
        | inr other ↦
            absurd (distinct_in apart at inside z.0 j z.1 here other z.2)
      ] in
      class_at-classes_at (rewritten rule all cs) ps j here
      ∙ class_at-at_each f cs p (omega (arith, n, within))
      ∙ ap (λ (o : Option Class). unwrap_or o d) (located_in (classes_in rule cs) (says_own rule cs) all k s at p some
      (apart.once p within) ∙ z.3)
      ∙ ap (class_at values) index)

-- two functions with the same results for the elements of a list have the same joined results
flat_same : (f g : SequenceView → List (ℕ × ℕ)) (all : List SequenceView) →
    ((k : ℕ) (s : SequenceView) → slice_get all k ≡ Some s → k < length all → f s ≡ g s) →
    flat_map f all ≡ flat_map g all
flat_same f g [] same = refl
flat_same f g (x ∷ all) same =
    ap (λ (xs : List (ℕ × ℕ)). xs ++ flat_map f all) (same 0 x refl (omega arith))
    ∙ ap (λ (xs : List (ℕ × ℕ)). g x ++ xs) (flat_same f g all (λ k s at inside. same (suc k) s at (omega arith)))

module _ (us : List BidiUnit) (direction : Direction) (only : SeparatorOnlyLast us) where
  abbrev columns : ColumnsOf
  columns = columns_of us direction

  abbrev all_here : List SequenceView
  all_here = sequences_of (leveled_of standard.depth (classes_of us) (para_level_of (classes_of us) direction))

  disjoint : AreDisjoint (length us) all_here
  disjoint = sequences_are_apart standard.depth (omega arith) us (para_level_of (classes_of us) direction)
      (para_level-low (classes_of us) direction) only

  module _ (k : ℕ) (s : SequenceView) (at : slice_get all_here k ≡ Some s) (inside : k < length all_here) where
    abbrev here : List Class → List Class
    here cs = classes_at cs s.positions

    through_pass : (pass : Pass) (cs : List Class) → length cs ≡ length us →
        here (rewritten (by_pass pass) all_here cs) ≡ by_pass pass s (here cs)
    through_pass pass cs n = rewritten_in disjoint at inside (by_pass pass) (pass_keeps pass) cs n

    through_w7 : here columns.weak.w7 ≡ after_weak s.sos (here columns.current)
    unfolding columns_of after_weak
    through_w7 =
        let fit = (columns_fit us direction).classes in
        through_pass pass.W7 columns.weak.w6 (fit rule.W6)
        ∙ ap (by_pass pass.W7 s) (through_pass pass.W6 columns.weak.w5 (fit rule.W5)
        ∙ ap (by_pass pass.W6 s) (through_pass pass.W5 columns.weak.w4 (fit rule.W4)
        ∙ ap (by_pass pass.W5 s) (through_pass pass.W4 columns.weak.w3 (fit rule.W3)
        ∙ ap (by_pass pass.W4 s) (through_pass pass.W3 columns.weak.w2 (fit rule.W2)
        ∙ ap (by_pass pass.W3 s) (through_pass pass.W2 columns.weak.w1 (fit rule.W1)
        ∙ ap (by_pass pass.W2 s) (through_pass pass.W1 columns.current (fit rule.X)))))))

    through_n2 : here columns.neutral.n2 ≡ after_rules standard.brackets s us (here columns.current)
    unfolding columns_of
    through_n2 =
        let fit = (columns_fit us direction).classes in
        through_pass pass.N2 columns.neutral.n1 (fit rule.N1)
        ∙ ap (by_pass pass.N2 s) (through_pass pass.N1 columns.neutral.n0 (fit rule.N0)
        ∙ ap (by_pass pass.N1 s) (rewritten_in disjoint at inside (by_n0 us columns.current)
        (n0_keeps us columns.current) columns.weak.w7 (fit rule.W7)
        ∙ ap (after_brackets standard.brackets s us (here columns.current)) through_w7))
        ∙ in_two_steps (direction_of s.level) s.sos s.eos (after_brackets standard.brackets s us (here columns.current)
        (after_weak s.sos (here columns.current)))

    same_levels : implicit_in columns.neutral.n2 s ≡ levels_in standard.brackets us columns.current s
    same_levels = ap (λ (cs : List Class). zip s.positions (map (implicit_level s.level) cs)) through_n2

  pub last_levels : columns.implicit ≡ resolved_levels standard us (para_level_of (classes_of us) direction)
  unfolding columns_of resolved_levels implicit_of
  last_levels =
      let n : length columns.neutral.n2 ≡ length us = (columns_fit us direction).classes rule.N2 in
      let joined = flat_same (implicit_in columns.neutral.n2) (levels_in standard.brackets us columns.current) all_here
      same_levels in
      ap (λ (found : List (ℕ × ℕ)). map (value_beside found) (positions_from 0 (length columns.neutral.n2))) joined
      ∙ ap (λ (size : ℕ). map (value_beside (flat_map (levels_in standard.brackets us columns.current) all_here))
      (positions_from 0 size)) n
