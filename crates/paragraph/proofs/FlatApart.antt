-- The sequences of a flat paragraph share no position, wherever its separators are.
use Rattle.std.specs.Prelude.{ℕ, Bool, ◌<◌, ◌≤◌, ◌≡◌, List, [], ◌∷◌, filter, length, refl}
use Rattle.std.specs.List.{All}
use Rattle.std.proofs.Common.{arith, ap, sym, subst, inl, inr}
use Rattle.std.proofs.lemmas.Bool.{cases_Bool}
use Rattle.std.proofs.lemmas.List.{length-append, length-map}
use Rattle.std.proofs.lemmas.List.Elements.{All-cons, All-nil, All-from_get_or}
use Rattle.units.specs.Classes.{class_at, classes_of}
use Rattle.units.specs.Positions.{positions_of}
use Rattle.units.specs.Runs.{SequenceView, leveled_of, sequences_of}
use Rattle.units.specs.declared.bracket.Unit.{Unit as BidiUnit}
use Rattle.units.specs.declared.class.Class.{Class}
use Rattle.explicit.specs.Flat.{IsFlat, is_remaining, remaining_of, level_sequence, level_sequences, flat_sequences}
use Rattle.explicit.proofs.Listed.{filter_passed, filter_dropped}
use Rattle.explicit.proofs.OneSequence.{sequences_of-flat}
use Rattle.sequences.specs.Links.{ArePositions}
use Rattle.sequences.specs.Once.{times}
use Rattle.sequences.proofs.Once.{times-append, times-cons, times-positions}
use Rattle.sequences.proofs.Remaining.{remaining_rise}
use Rattle.paragraph.proofs.FlatLevels.{remaining_few}
use Rattle.paragraph.specs.Covering.{AreDisjoint}

-- a position is among those that pass a test no more often than among all
times-filter : (test : ℕ → Bool) (ps : List ℕ) (p : ℕ) → times (filter test ps) p ≤ times ps p
times-filter test [] p = omega arith
times-filter test (x ∷ ps) p =
    elim (cases_Bool (test x)) [
      | inl passes ↦ omega (
        arith,
        ap (λ (qs : List ℕ). times qs p) (filter_passed test x ps passes),
        times-cons x (filter test ps) p,
        times-cons x ps p,
        times-filter test ps p,
      )
      | inr drops ↦ omega (
        arith,
        ap (λ (qs : List ℕ). times qs p) (filter_dropped test x ps drops),
        times-cons x ps p,
        times-filter test ps p,
      )
    ]

remaining_once : (cs : List Class) (p : ℕ) → p < length cs → times (remaining_of cs) p ≤ 1
remaining_once cs p h =
    omega (
      arith,
      times-filter (λ q. is_remaining (class_at cs q)) (positions_of cs) p,
      times-positions 0 (length cs) p (omega arith) (omega arith),
    )

-- these positions as one sequence
one_is_apart : (para n : ℕ) (ps : List ℕ) → ArePositions ps n → ((p : ℕ) → p < n → times ps p ≤ 1) →
    length ps ≤ n → AreDisjoint n (level_sequences para n ps)
one_is_apart para n [] are once fit = record {
  extents = All-nil (λ (s : SequenceView). s.extent ≡ n);
  within = All-nil (λ (s : SequenceView). All (λ p. p < n) s.positions);
  once = λ p h. omega arith;
  few = omega arith;
  fit = omega arith;
}
one_is_apart para n (p ∷ ps) are once fit =
    let s : SequenceView = level_sequence para n (p ∷ ps) in
    record {
      extents = All-cons (λ (s : SequenceView). s.extent ≡ n) s [] refl (All-nil (λ (s : SequenceView). s.extent ≡ n));
      within = All-cons (λ (s : SequenceView). All (λ p. p < n) s.positions) s []
          (All-from_get_or (λ q. q < n) (p ∷ ps) 0 (λ i g. omega (arith, are.within i g)))
          (All-nil (λ (s : SequenceView). All (λ p. p < n) s.positions));
      once = λ q h. omega (arith, times-append (p ∷ ps) [] q, once q h);
      few = omega (arith, are.within 0 (omega arith));
      fit = omega (arith, length-append (p ∷ ps) []);
    }

pub flat_is_apart : (depth : ℕ) (us : List BidiUnit) (para : ℕ) → IsFlat (classes_of us) →
    AreDisjoint (length us) (sequences_of (leveled_of depth (classes_of us) para))
flat_is_apart depth us para flat =
    let cs : List Class = classes_of us in
    let n : length cs ≡ length us = length-map us (λ (u : BidiUnit). u.class) in
    let here : AreDisjoint (length cs) (flat_sequences para cs) =
    one_is_apart para (length cs) (remaining_of cs) (remaining_rise cs) (remaining_once cs)
    (omega (arith, remaining_few us)) in
    let P : ℕ → Type 0 = λ k. AreDisjoint k (flat_sequences para cs) in
    let Q : List SequenceView → Type 0 = λ all. AreDisjoint (length us) all in
    subst Q (sym (sequences_of-flat depth cs para flat)) (subst P n here)
