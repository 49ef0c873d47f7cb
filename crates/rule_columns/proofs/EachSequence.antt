-- A rule applied sequence by sequence.
use Rattle.std.specs.Prelude.{Option, ℕ, ◌+◌, ◌<◌, ◌≡◌, List, length, map, take, Some, Contains, slice_get, slice_index, unwrap_or}
use Rattle.std.specs.List.{flat_map}
use Rattle.std.proofs.Common.{arith, ap, sym, ◌∙◌, subst, inl, inr, get_or}
use Rattle.std.proofs.lemmas.Bool.{cases_lt}
use Rattle.std.proofs.lemmas.List.{length-map, get_or-map, get_or_default, ext_get_or, take_all}
use Rattle.units.specs.Classes.{class_at, classes_at}
use Rattle.units.specs.Positions.{positions_of}
use Rattle.units.specs.Runs.{SequenceView}
use Rattle.units.specs.declared.class.Class.{Class}
use Rattle.units.specs.declared.class.Class.TheVariants.{L}
use Rattle.units.specs.Layout.{value_beside}
use Rattle.units.proofs.Positions.{length-positions_from, get_or-positions_from}
use Rattle.sequences.specs.Once.{times}
use Rattle.resolve.specs.Rewritten.{Rewrites}
use Rattle.resolve.proofs.Gathered.{length-classes_at, class_at-classes_at, contains_index}
use Rattle.paragraph.specs.Covering.{positions_in, AreDisjoint}
use Rattle.paragraph.proofs.Covering.{copied, times_some, within_extent}
use Rattle.rule_columns.specs.Passes.{classes_in, rewritten, rewritten_at}
use Rattle.paragraph.proofs.ComputedBeside.{none_beside, zip_none, zip_some}
use Rattle.rule_columns.proofs.Results.{SaysOwn, value_here, value_elsewhere}

-- the result of a rule after it was applied to these sequences
abbrev pub IsRewritten : (SequenceView → List Class → List Class) → List SequenceView → List Class → List Class → Type 0
IsRewritten rule done start now = (p : ℕ) → class_at now p ≡ rewritten_at rule done start p

pub says_own : (rule : SequenceView → List Class → List Class) (start : List Class) → SaysOwn (classes_in rule start)
says_own rule start = λ s p none. zip_none s.positions (rule s (classes_at start s.positions)) p none

-- the class of a position in none of these sequences is unchanged
pub unchanged_outside : (rule : SequenceView → List Class →
    List Class) (done : List SequenceView) (start now : List Class) → IsRewritten rule done start now →
    (p : ℕ) → times (positions_in done) p ≡ 0 → class_at now p ≡ class_at start p
unchanged_outside rule done start now w p none =
    w p ∙ ap (λ (o : Option Class). unwrap_or o (class_at start p))
    (none_beside (classes_in rule start) (says_own rule start) done p none)

module _ {extent : ℕ} {all : List SequenceView} (apart : AreDisjoint extent all) {k : ℕ} {s : SequenceView}
    (at : slice_get all k ≡ Some s) (inside : k < length all) where
  -- with one more sequence
  pub rewritten_next : (rule : SequenceView → List Class → List Class) (start now next : List Class) →
      IsRewritten rule (take k all) start now →
      Rewrites (rule s) s.positions now next → IsRewritten rule (take (k + 1) all) start next
  rewritten_next rule start now next w step p =
      let ps : List ℕ = s.positions in
      let items : SequenceView → List (ℕ × Class) = classes_in rule start in
      let own = says_own rule start in
      let values : List Class = rule s (classes_at start ps) in
      let same : classes_at now ps ≡ classes_at start ps =
      copied apart at inside now start (unchanged_outside rule (take k all) start now w) in
      let is : classes_at next ps ≡ values = step.values ∙ ap (rule s) same in
      let long : length values ≡ length ps = sym (ap length is) ∙ length-classes_at next ps in
      let d : Class = class_at start p in
      elim (cases_lt 0 (times ps p)) [
        | inl some ↦
            (let z = zip_some ps values p long some d in
            let within : p < extent =
            within_extent apart at inside p (subst (Contains ps) z.2 (contains_index ps z.0 z.1)) in
            let found : value_beside (flat_map items (take (k + 1) all)) p ≡ Some (get_or values z.0 d) =
            value_here items own apart at inside p within some ∙ z.3 in
            ap (class_at next) (sym z.2) ∙ sym (class_at-classes_at next ps z.0 z.1)
            ∙ ap (λ (cs : List Class). class_at cs z.0) is
            ∙ get_or_default values z.0 L d (omega (arith, z.1, long))
            ∙ sym (ap (λ (o : Option Class). unwrap_or o d) found))
        | inr others ↦
            (let none : times ps p ≡ 0 = omega arith in
            step.others p (λ c. let t = times_some ps p c in absurd (omega arith))
            ∙ w p
            ∙ sym (ap (λ (o : Option Class). unwrap_or o d) (value_elsewhere items own apart at inside p none)))
      ]

-- after the rule was applied to all sequences
pub rewritten_end : (rule : SequenceView → List Class →
    List Class) (all : List SequenceView) (k : ℕ) (start now : List Class) →
    length all ≡ k → length now ≡ length start → IsRewritten rule (take k all) start now →
    now ≡ rewritten rule all start
unfolding rewritten
rewritten_end rule all k start now e n w =
    let f : ℕ → Class = rewritten_at rule all start in
    let m : length (positions_of start) ≡ length start = length-positions_from 0 (length start) in
    let h : length (map f (positions_of start)) ≡ length (positions_of start) = length-map (positions_of start) f in
    let whole : take k all ≡ all = take_all k all (omega arith) in
    ext_get_or L now (map f (positions_of start)) (omega arith)
    (λ i l.
    let at : slice_index (positions_of start) i ≡ i =
    omega (arith, get_or-positions_from 0 (length start) i 0 (omega arith)) in
    w i ∙ ap (λ (done : List SequenceView). rewritten_at rule done start i) whole ∙ ap f (sym at) ∙
    sym (get_or-map f (positions_of start) i 0 L (omega arith)))
