-- If anything that remains inside a matched isolate is at its initiator's level, then all of it is.
use Rattle.std.proofs.Common.{◌≡◌, ℕ, zero, suc, ◌+◌, ◌<◌, ◌≤◌, true, false, List, [], ◌∷◌, ◌++◌, length, Some, inl, inr, refl, sym, ap, ◌∙◌, arith}
use Rattle.std.specs.Prelude.{is_some, ◌==◌}
use Rattle.std.specs.Option.{option_map}
use Rattle.std.proofs.lemmas.Bool.{cases_Bool, false≢true, eqb-true}
use Rattle.std.proofs.lemmas.List.{length-map}
use Rattle.std.proofs.lemmas.Option.{same_Some}
use Rattle.units.specs.Classes.{class_at, classes_of, is_removed, is_separator}
use Rattle.units.specs.Isolates.{matching_pdi}
use Rattle.units.specs.Explicit.{explicit_at}
use Rattle.units.specs.Paragraphs.{SeparatorOnlyLast}
use Rattle.units.specs.Runs.{leveled_of, level_of, remains, matched_pdi}
use Rattle.explicit.specs.Leveled.{IsNested}
use Rattle.units.specs.declared.bracket.Unit.{Unit as BidiUnit}
use Rattle.units.specs.declared.class.Class.{Class}
use Rattle.explicit.specs.StatusStacks.{state_within}
use Rattle.explicit.proofs.Holders.Open.{holders, holds}
use Rattle.explicit.proofs.Holders.Taken.{next-above, state-taken, state-rejected, taken-outer}
use Rattle.explicit.proofs.Matched.Nesting.{match_bounds, match_injective}
use Rattle.explicit.proofs.Matched.Matching.{matching_pdi_opens}
use Rattle.explicit.proofs.Holders.MatchedIsolates.{Stacked, holders-stacked, is_among, among-filtered, holds-before, level-leveled_in, level-of_isolate, levels-matched}
use Rattle.explicit.proofs.LevelsComputed.Leveled.{level-read, matched-is}

-- inside further initiators the level is not lower
levels-rise : (depth : ℕ) (cs : List Class) (para : ℕ) (xs ys : List ℕ) →
    (state_within depth cs para ys).level ≤ (state_within depth cs para (xs ++ ys)).level
levels-rise depth cs para [] ys = omega arith
levels-rise depth cs para (q ∷ xs) ys =
    grind (arith, next-above, state-taken, state-rejected, levels-rise depth cs para xs ys)

-- inside an overflow initiator the level is unchanged
record IsStuck (depth : ℕ) (cs : List Class) (para : ℕ) (inner outer : List ℕ) : Type 0 where
  sound : (state_within depth cs para inner).sound ≡ false
  level : (state_within depth cs para inner).level ≡ (state_within depth cs para outer).level

stuck : (depth : ℕ) (cs : List Class) (para : ℕ) (xs ys : List ℕ) → (state_within depth cs para ys).sound ≡ false →
    IsStuck depth cs para (xs ++ ys) ys
stuck depth cs para [] ys h = record { sound = h; level = refl }
stuck depth cs para (q ∷ xs) ys h = grind (arith, false≢true, taken-outer, state-rejected, stuck depth cs para xs ys h)

-- an initiator among those around a position is followed by the initiators around it
following : (cs : List Class) (i : ℕ) (qs : List ℕ) → Stacked cs qs → is_among i qs ≡ true →
    (xs : List ℕ) × (qs ≡ xs ++ i ∷ holders cs i)
following cs i [] s m = absurd (false≢true m)
following cs i (q ∷ qs) s m =
    elim (cases_Bool (q == i)) [
      | inl e ↦
          let same : q ≡ i = eqb-true q i e in
          ([], ap (λ r. q ∷ r) s.0 ∙ ap (λ x. x ∷ holders cs x) same)
      | inr e ↦ let rest = following cs i qs s.1 (rw e at m) in (q ∷ rest.0, ap (λ r. q ∷ r) rest.1)
    ]

-- the initiators around a position inside a matched isolate
within-isolate : (cs : List Class) (i r p : ℕ) → matching_pdi cs i ≡ Some r → i < p → p < r →
    (xs : List ℕ) × (holders cs p ≡ xs ++ i ∷ holders cs i)
within-isolate cs i r p e low high =
    let b = match_bounds cs i r e in
    let here : holds cs p i ≡ true = rw (holds-before cs i r p e low high) refl in
    following cs i (holders cs p) (holders-stacked cs p (omega (arith, b.1))) (among-filtered (holds cs p) i p low here)

-- two levels inside a matched isolate, one of which is its initiator's
same_inside : (depth : ℕ) (cs : List Class) (para i : ℕ) (xs ys : List ℕ) →
    (state_within depth cs para (ys ++ i ∷ holders cs i)).level ≡ (state_within depth cs para (holders cs i)).level →
    (state_within depth cs para (xs ++ i ∷ holders cs i)).level ≡ (state_within depth cs para (holders cs i)).level
same_inside depth cs para i xs ys same = grind (arith, levels-rise, next-above, state-taken, stuck, state-rejected)

-- what remains is not removed
remains-retained : (depth : ℕ) (cs : List Class) (para p : ℕ) →
    is_some (option_map (λ leveled. leveled.0) (explicit_at depth cs para p)) ≡ true →
    is_removed (class_at cs p) ≡ false
unfolding explicit_at
remains-retained depth cs para p h = grind (arith, false≢true)

-- a separator can only be in last place
not_separator : (units : List BidiUnit) (p : ℕ) → SeparatorOnlyLast units → p + 1 < length units →
    is_separator (class_at (classes_of units) p) ≡ false
not_separator [] p h lt = absurd (omega arith)
not_separator (first ∷ []) p h lt = absurd (omega arith)
not_separator (first ∷ second ∷ others) zero h lt = h.0
not_separator (first ∷ second ∷ others) (suc p) h lt = not_separator (second ∷ others) p h.1 (omega arith)

-- the level of what remains inside a matched isolate
level-inside : (depth : ℕ) (units : List BidiUnit) (para r p : ℕ) → SeparatorOnlyLast units → p < r →
    r < length (classes_of units) → remains (leveled_of depth (classes_of units) para) p ≡ true →
    level_of (leveled_of depth (classes_of units) para) p ≡
    Some (state_within depth (classes_of units) para (holders (classes_of units) p)).level
level-inside depth units para r p only low high remaining =
    let n : length (classes_of units) ≡ length units = length-map _ _ in
    let read = level-read depth (classes_of units) para p (omega arith) in
    let retained = remains-retained depth (classes_of units) para p (ap is_some (sym read) ∙ remaining) in
    read ∙ level-leveled_in depth (classes_of units) para p retained (not_separator units p only (omega (arith, n)))

pub nested : (depth : ℕ) (units : List BidiUnit) (para : ℕ) → SeparatorOnlyLast units →
    IsNested (leveled_of depth (classes_of units) para)
nested depth units para only = record {
  same_level = λ i r e.
      let m = matched i r e in
      let b = match_bounds cs i r m in
      level-read depth cs para i (omega (arith, b.0, b.1)) ∙ levels-matched depth cs para i r m ∙
      sym (level-read depth cs para r b.1);
  matched_once = λ i j r e e'. match_injective cs i j r (matched i r e) (matched j r e');
  content = λ i r p q e ip pr iq qr remains_p remains_q same.
      let m = matched i r e in
      let b = match_bounds cs i r m in
      let at_i = level-read depth cs para i (omega (arith, b.0, b.1)) ∙
      level-of_isolate depth cs para i (matching_pdi_opens cs i r m) in
      let at_p = level-inside depth units para r p only pr b.1 remains_p in
      let at_q = level-inside depth units para r q only qr b.1 remains_q in
      let in_p = within-isolate cs i r p m ip pr in
      let in_q = within-isolate cs i r q m iq qr in
      let level_q : (state_within depth cs para (holders cs q)).level ≡
      (state_within depth cs para (holders cs i)).level = same_Some _ _ (sym at_q ∙ same ∙ at_i) in
      let level_p = same_inside depth cs para i in_p.0 in_q.0 (ap (λ qs. (state_within depth cs para qs).level)
      (sym in_q.1) ∙ level_q) in
      at_p ∙ ap (λ l. Some l) (ap (λ qs. (state_within depth cs para qs).level) in_p.1 ∙ level_p) ∙ sym at_i;
}
  where
    cs : List Class
    cs = classes_of units

    matched : (i r : ℕ) → matched_pdi (leveled_of depth (classes_of units) para) i ≡ Some r →
        matching_pdi (classes_of units) i ≡ Some r
    matched i r e = sym (matched-is depth (classes_of units) para i) ∙ e
