-- The last of the open isolates is the innermost one around a position.
use Rattle.std.proofs.Common.{◌≡◌, ℕ, suc, ◌+◌, ◌<◌, ◌≤◌, Bool, false, List, length, Some, None, inl, inr, arith}
use Rattle.std.proofs.lemmas.Bool.{cases_lt}
use Rattle.units.specs.Classes.{class_at, is_isolate_initiator, is_pdi}
use Rattle.units.specs.Isolates.{isolate_around}
use Rattle.units.specs.declared.class.Class.{Class}
use Rattle.explicit.proofs.Matched.Balance.{Exclude, match_extends, match_within, match_of_bounds, surplus_open, unmatched_before}
use Rattle.explicit.proofs.Matched.OpenStack.{IsStack, stack_stays}
use Rattle.explicit.proofs.Matched.Matching.{opens_at, closes_at, isolates_exclude, IsOpenStack, matching_before, matching_pdi_of, matching_pdi_before}
use Rattle.explicit.proofs.Matched.Nesting.{IsContained}
use Rattle.explicit.proofs.StrongSides.Around.{around_is, around_nowhere}

-- no open position comes after the last one of the stack
last_is_last : (o c : ℕ → Bool) (k n : ℕ) (s : ℕ → ℕ) → Exclude o c → IsStack o c k (suc n) s → (a : ℕ) → a < suc n →
    s a ≤ s n
last_is_last o c k n s ex stack a h =
    let lt : n < suc n = omega arith in
    elim (cases_lt (s n) (s a)) [
      | inl later ↦
          let top = stack.still n lt in
          let deep = stack.still a h in
          let b = stack.before a h in
          let none = unmatched_before o c (s a) k (s n) (omega arith) top.unmatched in
          let more = surplus_open o c (s n) (s a) ex later (stack.opener n lt) none in
          let x = top.surplus in
          let y = deep.surplus in
          absurd (omega (arith, more, x, y))
      | inr le ↦ le
    ]

module _ (cs : List Class) (k : ℕ) (inside : k < length cs) where
  -- an isolate around k has no match before k
  holder_is_open : (j : ℕ) → IsContained cs j k → matching_before cs k j ≡ None
  holder_is_open j h = grind (arith, match_of_bounds, matching_pdi_of, match_extends)

  -- with no isolate open, k lies outside of all
  pub around_none_open : (s : ℕ → ℕ) → IsOpenStack cs k 0 s → isolate_around cs k ≡ None
  around_none_open s stack =
      around_nowhere cs k (λ j h. let at = stack.complete j h.after h.opener (holder_is_open j h) in
      omega (arith, at.1))

  -- else a position that opens no isolate and closes none lies in the last open one
  pub around_last_open : (n : ℕ) (s : ℕ → ℕ) → IsOpenStack cs k (suc n) s →
      is_isolate_initiator (class_at cs k) ≡ false → is_pdi (class_at cs k) ≡ false → isolate_around cs k ≡ Some (s n)
  around_last_open n s stack o c =
      let lt : n < suc n = omega arith in
      let later = stack_stays (opens_at cs) (closes_at cs) k (suc n) s stack o c in
      let unclosed = (later.still n lt).unmatched in
      around_is cs k (s n)
      (record {
        opener = stack.opener n lt;
        after = stack.before n lt;
        before = λ a e. elim (cases_lt k a) [
          | inl after ↦ after
          | inr le ↦ absurd (let again : matching_before cs (k + 1) (s n) ≡ Some a =
              match_within (opens_at cs) (closes_at cs) (k + 1) (length cs) (s n) a (omega arith)
              (matching_pdi_before cs (s n) a e) in cc)
        ];
      })
      (λ j after h.
      let at = stack.complete j h.after h.opener (holder_is_open j h) in
      let le = last_is_last (opens_at cs) (closes_at cs) k n s (isolates_exclude cs) stack at.0 at.1 in
      let here = at.2 in
      omega (arith, here, le))
