-- The end of a source, and the line that it ends.
use Rattle.std.proofs.Common.{◌≡◌, ℕ, ◌+◌, ◌⊎◌, inl, inr, List, [], ◌∷◌, ◌++◌, length, Option, None, Some, sym, ap, ◌∙◌, subst}
use Rattle.std.specs.Borrow.{Bor}
use Rattle.std.specs.Option.{option_map}
use Rattle.units.specs.LineCutting.{Cutting}
use Rattle.units.specs.Lines.{CutsInto, saturated}
use Rattle.units.specs.LineReturns.{Finishes}
use Rattle.units.proofs.LineAppending.{ended_lines-CutsInto}
use Rattle.units.proofs.LineReading.{never_both}
use Rattle.units.specs.Text.{lines_of}
use Rattle.ucdfiles.specs.declared.fault.Fault.{Fault}
use Rattle.ucdfiles.specs.declared.fault.TableFault.{TableFault}
use Rattle.ucdfiles.specs.declared.fault.TableFault.TheVariants.{Memory}
use Rattle.ucdfiles.specs.Faults.{fault_at, first_fault}
use Rattle.ucdfiles.specs.Reading.{Reads}
use Rattle.ucdfiles.proofs.FirstFault.{first_fault-at, first_fault-push, fault_of_line-is}
use Rattle.ucdfiles.proofs.LinesWith.{lines_of-ended, lines_of-begun}

module _ (before after : List (List ℕ) → Type 0) (fault : List (List ℕ) → List ℕ →
    Option Fault) (splitter : Cutting) (b : List ℕ) (r : Reads before fault splitter b) where
  same : (lines : List (List ℕ)) (rest : List ℕ) → CutsInto b lines rest → lines ≡ r.lines
  same lines rest whole = sym (ended_lines-CutsInto b lines rest whole) ∙ ended_lines-CutsInto b r.lines r.rest r.whole

  pub end-none : Finishes b None → (first_fault fault [] (lines_of b) ≡ None) × before (lines_of b)
  end-none finishes = elim finishes [
    | inl ended ↦
        let e : lines_of b ≡ r.lines = lines_of-ended b ended.0 ended.1 ∙ same ended.0 [] ended.1 in
        (ap (first_fault fault []) e ∙ r.faultless, subst before (sym e) r.table)
    | inr over ↦ absurd (never_both b over.0 r.lines r.rest over.1 r.whole)
  ]

  module _ (last : ℕ × Bor (List ℕ)) (finishes : Finishes b (Some last)) where
    begun : lines_of b ≡ r.lines ++ last.1.now ∷ []
    begun = lines_of-begun b finishes.1.0 last.1.now finishes.1.1 finishes.0 ∙
        ap (λ ls. ls ++ last.1.now ∷ []) (same finishes.1.0 last.1.now finishes.1.1)

    pub end-ok : ((lines : List (List ℕ)) → before lines → (fault lines last.1.now ≡ None) ×
        after (lines ++ last.1.now ∷ [])) → (first_fault fault [] (lines_of b) ≡ None) × after (lines_of b)
    end-ok adds =
        let does = adds r.lines r.table in (
          ap (first_fault fault []) begun ∙ first_fault-push fault r.lines last.1.now r.faultless does.0,
          subst after (sym begun) does.1,
        )

    pub end-err : (e : TableFault) →
        ((lines : List (List ℕ)) → before lines →
        (e ≡ Memory) ⊎ (option_map (λ f. fault_at f last.0) (fault lines last.1.now) ≡ Some e))
        → (e ≡ Memory) ⊎ (first_fault fault [] (lines_of b) ≡ Some e)
    end-err e rejects = elim (rejects r.lines r.table) [
      | inl memory ↦ inl memory
      | inr faulty ↦ inr (ap (first_fault fault []) begun
          ∙ first_fault-at fault r.lines last.1.now [] e r.faultless (fault_of_line-is (fault r.lines last.1.now)
          (length r.lines) last.0 e
          (finishes.1.2 ∙ ap (λ (ls : List (List ℕ)). saturated (length ls + 1))
          (same finishes.1.0 last.1.now finishes.1.1)) faulty))
    ]
