use Rattle.std.proofs.Common.{◌≡◌, ℕ, Some, slice_index, slice_set, arith, ap, sym, ◌∙◌, subst, inl, inr}
use Rattle.std.proofs.lemmas.Bool.{cases_eq}
use Rattle.std.proofs.lemmas.Grind.{common_steps}
use Rattle.std.proofs.lemmas.List.{get_or-set_other, get_or-set_same}
use Rattle.ucdfiles.specs.Tables.{bracket_by, class_by, unit_by}
use Rattle.ucdfiles.specs.UnitStages.{unit_by_stages}
use Rattle.sources.specs.ClassNumbers.{class_numbered}
use Rattle.for_c.specs.Properties.{bracket_number}
use Rattle.for_c.proofs.fronts.write_numbers.Goals as goal

pub loop-i-preserved : goal.loop-i-preserved
loop-i-preserved c =
    let l = c.loop-i in
    let i : ℕ = l.i in
    let tables = c.args.tables.now in
    let codes = c.args.codes.now in
    let is : c.unit-unit.result ≡ unit_by tables (slice_index codes i) =
    c.unit-unit.ensures
    ∙ ap (λ s. unit_by_stages s c.from_u32_unchecked-c.result) c.units-borrowed.ensures
    ∙ ap (λ n. unit_by tables n) c.from_u32_unchecked-c.ensures in
    record {
      classes_len = grind (arith, common_steps);
      brackets_len = grind (arith, common_steps);
      classes = λ k low. elim (cases_eq k i) [
        | inl same ↦ subst (λ m. class_numbered (slice_index (slice_set l.classes i c.class_number.result) m) ≡
            Some (class_by tables.classes (slice_index codes m))) (sym same)
            (ap class_numbered (get_or-set_same l.classes i c.class_number.result 0 (omega (
              arith,
              l.invariant.classes_len,
              c.loop-i-test.true,
            ))) ∙ c.class_number.ensures ∙ ap (λ u. Some u.class) is)
        | inr other ↦ ap class_numbered (get_or-set_other l.classes i k c.class_number.result 0 other) ∙
            l.invariant.classes k (omega arith)
      ];
      brackets = λ k low. elim (cases_eq k i) [
        | inl same ↦ subst (λ m. slice_index (slice_set l.brackets i c.bracket_number.result) m ≡
            bracket_number (bracket_by tables.brackets (slice_index codes m))) (sym same)
            (get_or-set_same l.brackets i c.bracket_number.result 0 (omega (
              arith,
              l.invariant.brackets_len,
              c.loop-i-test.true,
            )) ∙ c.bracket_number.ensures ∙ ap (λ u. bracket_number u.bracket) is)
        | inr other ↦ get_or-set_other l.brackets i k c.bracket_number.result 0 other ∙
            l.invariant.brackets k (omega arith)
      ];
    }
