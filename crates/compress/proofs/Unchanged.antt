-- What the pass doesn't write.
use Rattle.std.specs.Prelude.{ℕ, ◌+◌, ◌-◌, ◌≤◌, ◌≡◌, List, drop, set}
use Rattle.std.proofs.Common.{arith, ap, sym, ◌∙◌}
use Rattle.std.proofs.lemmas.List.{drop-drop, drop-set-lt}
use Rattle.units.specs.declared.bracket.Unit.{Unit as BidiUnit}
use Rattle.compress.specs.Laid.{AreUnchangedFrom}

same_later : (n k : ℕ) (old new : List BidiUnit) → n ≤ k → drop n new ≡ drop n old → drop k new ≡ drop k old
same_later n k old new le e =
    let sum : n + (k - n) ≡ k = omega arith in
    ap (λ i. drop i new) (sym sum)
    ∙ sym (drop-drop (k - n) n new)
    ∙ ap (λ (us : List BidiUnit). drop (k - n) us) e
    ∙ drop-drop (k - n) n old
    ∙ ap (λ i. drop i old) sum

-- one unit and its position are written before it
pub unchanged_after : (chosen starts : List BidiUnit) (m : ℕ) (v w : BidiUnit) →
    AreUnchangedFrom (m + 1) chosen starts (set chosen m v) (set starts m w)
unchanged_after chosen starts m v w = record {
  units = drop-set-lt (m + 1) chosen m v (omega arith);
  positions = drop-set-lt (m + 1) starts m w (omega arith);
}

-- one change after another, from an index that is after both
pub unchanged_later : (chosen starts chosen2 starts2 chosen3 starts3 : List BidiUnit) (m n k : ℕ) → m ≤ k → n ≤ k →
    AreUnchangedFrom m chosen starts chosen2 starts2 → AreUnchangedFrom n chosen2 starts2 chosen3 starts3 →
    AreUnchangedFrom k chosen starts chosen3 starts3
unchanged_later chosen starts chosen2 starts2 chosen3 starts3 m n k a b first second = record {
  units = same_later n k chosen2 chosen3 b second.units ∙ same_later m k chosen chosen2 a first.units;
  positions = same_later n k starts2 starts3 b second.positions ∙ same_later m k starts starts2 a first.positions;
}
