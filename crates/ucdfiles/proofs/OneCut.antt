-- One cut of a line splitter, and its effect on a table.
use Rattle.std.proofs.Common.{◌≡◌, ℕ, ◌+◌, ◌<◌, ◌≤◌, inl, inr, List, [], ◌∷◌, ◌++◌, length, take, Option, Some, sym, ap, ◌∙◌, subst, arith, append_assoc}
use Rattle.std.specs.Option.{option_map}
use Rattle.units.specs.LineCutting.{Cutting, Represents}
use Rattle.units.specs.Lines.{EndsByFeed, CutsInto, IsTooLongAfter, saturated, ended_lines}
use Rattle.std.proofs.lemmas.List.{take_all, append_cancel_right}
use Rattle.units.specs.LineReturns.{ReturnsPiece}
use Rattle.units.specs.declared.line_cut.Cut.{Cut}
use Rattle.units.specs.declared.line_cut.Cut.TheVariants.{More, Line, TooLong}
use Rattle.units.proofs.LineAppending.{ended_lines-CutsInto}
use Rattle.units.proofs.LineRunning.{lines-before}
use Rattle.units.specs.Text.{longest_line}
use Rattle.ucdfiles.specs.declared.fault.Fault.{Fault}
use Rattle.ucdfiles.specs.declared.fault.TableFault.{TableFault}
use Rattle.ucdfiles.specs.Faults.{fault_at, first_fault, over_long_line}
use Rattle.ucdfiles.specs.Reading.{Reads, IsCut, IsCutError, RejectsBytes}
use Rattle.ucdfiles.proofs.FirstFault.{first_fault-at, first_fault-push, fault_of_line-is}
use Rattle.ucdfiles.proofs.Decided.{decided-more, decided-long}

-- the line that ended comes after the lines that had ended
same_lines : (b t : List ℕ) (own lines : List (List ℕ)) (rest text : List ℕ) → CutsInto b own rest →
    CutsInto (b ++ t) (lines ++ text ∷ []) []
    → ended_lines (b ++ t) ≡ ended_lines b ++ text ∷ [] → lines ≡ own
same_lines b t own lines rest text whole now more =
    append_cancel_right lines own (text ∷ []) (sym (ended_lines-CutsInto (b ++ t) (lines ++ text ∷ []) [] now) ∙ more ∙
    ap (λ ls. ls ++ text ∷ []) (ended_lines-CutsInto b own rest whole))

module _ (before after : List (List ℕ) → Type 0) (fault : List (List ℕ) → List ℕ →
    Option Fault) (old new : Cutting) (b piece : List ℕ) (used : ℕ) where
  pub step-ok : (taken : Cut) → Reads before fault old b → Represents new (b ++ take used piece) →
      ReturnsPiece b piece used taken → IsCut before after fault taken
      → Reads after fault new (b ++ take used piece)
  step-ok More r cuts outcome taken = grind (arith, take_all, ended_lines-CutsInto)
  step-ok (Line number text) r cuts outcome taken = grind (arith, same_lines, first_fault-push)
  step-ok (TooLong number) r cuts outcome taken = absurd taken

  pub step-err : (taken : Cut) (e : TableFault) (more : List ℕ) → ((lines : List (List ℕ)) (line : List ℕ) →
      longest_line < length line → fault lines line ≡ Some over_long_line)
      → Reads before fault old b → used ≤ length piece → EndsByFeed used piece → ReturnsPiece b piece used taken →
      IsCutError before fault taken e → RejectsBytes fault ((b ++ take used piece) ++ more) e
  step-err More e more long r le through outcome rejected = absurd rejected
  step-err (Line number text) e more long r le through outcome rejected =
      let same : outcome.2.0 ≡ r.lines =
      same_lines b (take used piece) r.lines outcome.2.0 r.rest text.now r.whole outcome.2.1 outcome.1 in
      let now : CutsInto (b ++ take used piece) (r.lines ++ text.now ∷ []) [] = let P : List (List ℕ) → Type 0 =
      λ ls. CutsInto (b ++ take used piece) (ls ++ text.now ∷ []) [] in subst P same outcome.2.1 in
      let decided = decided-more (b ++ take used piece) (r.lines ++ text.now ∷ []) more now in
      elim (rejected r.lines r.table) [
        | inl memory ↦ inl memory
        | inr faulty ↦ inr (
            ap (first_fault fault []) (decided.1 ∙ append_assoc r.lines (text.now ∷ []) decided.0)
            ∙ first_fault-at fault r.lines text.now decided.0 e r.faultless (fault_of_line-is (fault r.lines text.now)
            (length r.lines) number e (outcome.2.2 ∙
            ap (λ (ls : List (List ℕ)). saturated (length ls + 1)) same) faulty))
      ]
  step-err (TooLong number) e more long r le through outcome rejected =
      let same : outcome.0 ≡ r.lines =
      lines-before b piece used r.lines outcome.0 r.rest le through r.whole outcome.1 in
      let over : IsTooLongAfter (b ++ take used piece) r.lines = let P : List (List ℕ) → Type 0 =
      λ ls. IsTooLongAfter (b ++ take used piece) ls in subst P same outcome.1 in
      let decided = decided-long (b ++ take used piece) r.lines more over in
      let fault_is : option_map (λ f. fault_at f number) (fault r.lines decided.0) ≡ Some e =
      ap (option_map (λ f. fault_at f number)) (long r.lines decided.0 decided.2) ∙
      ap (λ x. Some x) (sym rejected) in
      inr (
      ap (first_fault fault []) decided.3
      ∙ first_fault-at fault r.lines decided.0 decided.1 e r.faultless (fault_of_line-is (fault r.lines decided.0)
      (length r.lines) number e (outcome.2 ∙ ap (λ (ls : List (List ℕ)). saturated (length ls + 1)) same) fault_is))
