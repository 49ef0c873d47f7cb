-- The implicit levels (I1, I2), sequence by sequence.
use Rattle.std.specs.Prelude.{Option, Some, None, ℕ, ◌+◌, ◌<◌, ◌≡◌, List, length, map, take, Contains, slice_get, slice_index}
use Rattle.std.specs.List.{flat_map}
use Rattle.std.proofs.Common.{arith, ap, sym, ◌∙◌, subst, inl, inr}
use Rattle.std.proofs.lemmas.Bool.{cases_lt}
use Rattle.std.proofs.lemmas.List.{length-map, get_or-map, ext_get_or, take_all}
use Rattle.units.specs.Classes.{class_at, classes_at}
use Rattle.units.specs.Implicit.{implicit_level}
use Rattle.units.specs.Positions.{positions_of}
use Rattle.units.specs.Runs.{SequenceView}
use Rattle.units.specs.declared.class.Class.{Class}
use Rattle.units.specs.declared.class.Class.TheVariants.{L}
use Rattle.units.specs.Layout.{value_beside}
use Rattle.units.proofs.Positions.{length-positions_from, get_or-positions_from}
use Rattle.sequences.specs.Once.{times}
use Rattle.resolve.specs.Raised.{Raises, resolved_at}
use Rattle.resolve.proofs.Gathered.{length-classes_at, class_at-classes_at, contains_index}
use Rattle.paragraph.specs.Covering.{AreDisjoint}
use Rattle.paragraph.proofs.Covering.{times_some, within_extent}
use Rattle.rule_columns.specs.Passes.{implicit_in, implicit_of}
use Rattle.paragraph.proofs.ComputedBeside.{zip_none, zip_some}
use Rattle.rule_columns.proofs.Results.{SaysOwn, value_here, value_elsewhere}

-- the levels after these sequences have theirs
abbrev pub AreRaised : List Class → List SequenceView → List (Option ℕ) → Type 0
AreRaised cs done levels = (p : ℕ) → resolved_at levels p ≡ value_beside (flat_map (implicit_in cs) done) p

abbrev values_in : List Class → SequenceView → List ℕ
values_in cs s = map (implicit_level s.level) (classes_at cs s.positions)

says_own : (cs : List Class) → SaysOwn (implicit_in cs)
says_own cs = λ s p none. zip_none s.positions (values_in cs s) p none

module _ {extent : ℕ} {all : List SequenceView} (apart : AreDisjoint extent all) {k : ℕ} {s : SequenceView}
    (at : slice_get all k ≡ Some s) (inside : k < length all) where
  -- with one more sequence
  pub raised_next : (cs : List Class) (now next : List (Option ℕ)) → AreRaised cs (take k all) now →
      Raises s.level cs s.positions now next → AreRaised cs (take (k + 1) all) next
  raised_next cs now next w step p =
      let ps : List ℕ = s.positions in
      let items : SequenceView → List (ℕ × ℕ) = implicit_in cs in
      let own = says_own cs in
      let long : length (values_in cs s) ≡ length ps = length-map (classes_at cs ps) (implicit_level s.level) ∙
      length-classes_at cs ps in
      elim (cases_lt 0 (times ps p)) [
        | inl some ↦
            (let z = zip_some ps (values_in cs s) p long some 0 in
            let contained : Contains ps p = subst (Contains ps) z.2 (contains_index ps z.0 z.1) in
            let value : slice_index (values_in cs s) z.0 ≡ implicit_level s.level (class_at cs p) =
            get_or-map (implicit_level s.level) (classes_at cs ps) z.0 L 0 (omega (arith, z.1, length-classes_at cs ps))
            ∙ ap (implicit_level s.level) (class_at-classes_at cs ps z.0 z.1 ∙ ap (class_at cs) z.2) in
            step.values p contained
            ∙ ap Some (sym value)
            ∙ sym (value_here items own apart at inside p (within_extent apart at inside p contained) some ∙ z.3))
        | inr others ↦
            (let none : times ps p ≡ 0 = omega arith in
            step.others p (λ c. let t = times_some ps p c in absurd (omega arith))
            ∙ w p
            ∙ sym (value_elsewhere items own apart at inside p none))
      ]

-- after all sequences have theirs
pub raised_end : (all : List SequenceView) (k : ℕ) (cs : List Class) (levels : List (Option ℕ)) → length all ≡ k →
    length levels ≡ length cs →
    AreRaised cs (take k all) levels → levels ≡ implicit_of all cs
unfolding implicit_of
raised_end all k cs levels e n w =
    let f : ℕ → Option ℕ = value_beside (flat_map (implicit_in cs) all) in
    let m : length (positions_of cs) ≡ length cs = length-positions_from 0 (length cs) in
    let h : length (map f (positions_of cs)) ≡ length (positions_of cs) = length-map (positions_of cs) f in
    let whole : take k all ≡ all = take_all k all (omega arith) in
    ext_get_or None levels (map f (positions_of cs)) (omega arith)
    (λ i l.
    let at : slice_index (positions_of cs) i ≡ i =
    omega (arith, get_or-positions_from 0 (length cs) i 0 (omega arith)) in
    w i ∙ ap (λ (done : List SequenceView). value_beside (flat_map (implicit_in cs) done) i) whole ∙ ap f (sym at) ∙
    sym (get_or-map f (positions_of cs) i 0 None (omega arith)))
