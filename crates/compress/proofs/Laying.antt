-- How the two columns contain the stack.
use Rattle.std.specs.Prelude.{ℕ, zero, suc, ◌+◌, ◌-◌, ◌<◌, ◌≤◌, ◌≡◌, List, ◌∷◌, length, set, slice_index_or, true, false, refl}
use Rattle.std.proofs.Common.{◌≢◌, arith, ap, sym, ◌∙◌, inl, inr}
use Rattle.std.proofs.lemmas.Bool.{cases_lt, cond-true, cond-false}
use Rattle.std.proofs.lemmas.List.{get_or-set_same, get_or-set_other}
use Rattle.units.specs.Layout.{no_unit}
use Rattle.units.specs.declared.bracket.Unit.{Unit as BidiUnit}
use Rattle.units.specs.declared.class.Class.{Class}
use Rattle.compress.specs.Laid.{start_of, start_at, remaining_before, stack_of, bottom_of, IsLaid, IsNextAt}
use Rattle.compress.specs.Squeeze.{Stack, joins, is_between, popped, added, unit_for, next_for, known_after}
use Rattle.compress.proofs.Counting.{remaining_up_to}

abbrev unit : List BidiUnit → ℕ → BidiUnit
unit chosen k = slice_index_or chosen k no_unit

start_at-other : (starts : List BidiUnit) (m k : ℕ) (w : BidiUnit) → k ≢ m → start_at (set starts m w) k ≡ start_at starts k
start_at-other starts m k w apart = ap start_of (get_or-set_other starts m k w no_unit apart)

start_at-same : (starts : List BidiUnit) (m : ℕ) (w : BidiUnit) → m < length starts → start_at (set starts m w) m ≡ start_of w
start_at-same starts m w lt = ap start_of (get_or-set_same starts m w no_unit lt)

module _ (us : List BidiUnit) where
  abbrev before : ℕ → ℕ
  before p = remaining_before us p

  -- what is written after doesn't change it
  stack_of-after : (chosen starts : List BidiUnit) (m n : ℕ) (v w : BidiUnit) (end : ℕ) → m ≤ n →
      stack_of us (set chosen n v) (set starts n w) m end ≡ stack_of us chosen starts m end
  stack_of-after chosen starts zero n v w end le = refl
  stack_of-after chosen starts (suc m) n v w end le =
      let apart : m ≢ n = omega arith in
      let top : unit (set chosen n v) m ≡ unit chosen m = get_or-set_other chosen n m v no_unit apart in
      let start : start_at (set starts n w) m ≡ start_at starts m = start_at-other starts n m w apart in
      ap (λ (u : BidiUnit). (u, before end - before (start_at (set starts n w) m)) ∷ stack_of us (set chosen n v) (set starts n w) m (start_at (set starts n w) m)) top
      ∙ ap (λ (s : ℕ). (unit chosen m, before end - before s) ∷ stack_of us (set chosen n v) (set starts n w) m s) start
      ∙ ap (λ (st : Stack). (unit chosen m, before end - before (start_at starts m)) ∷ st) (stack_of-after chosen starts m n v w (start_at starts m) (omega arith))

  -- one more
  stack_of-push : (chosen starts : List BidiUnit) (m : ℕ) (v w : BidiUnit) (p end : ℕ) → m < length chosen → m < length starts → start_of w ≡ p →
      IsNextAt us p end → stack_of us (set chosen m v) (set starts m w) (suc m) end ≡ (v, 1) ∷ stack_of us chosen starts m p
  stack_of-push chosen starts m v w p end a b e next =
      let top : unit (set chosen m v) m ≡ v = get_or-set_same chosen m v no_unit a in
      let start : start_at (set starts m w) m ≡ p = start_at-same starts m w b ∙ e in
      let only = next.only in
      let one : before end - before p ≡ 1 = omega arith in
      ap (λ (u : BidiUnit). (u, before end - before (start_at (set starts m w) m)) ∷ stack_of us (set chosen m v) (set starts m w) m (start_at (set starts m w) m)) top
      ∙ ap (λ (s : ℕ). (v, before end - before s) ∷ stack_of us (set chosen m v) (set starts m w) m s) start
      ∙ ap (λ (c : ℕ). (v, c) ∷ stack_of us (set chosen m v) (set starts m w) m p) one
      ∙ ap (λ (st : Stack). (v, 1) ∷ st) (stack_of-after chosen starts m m v w p (omega arith))

  -- the top counts for one more
  pub stack_of-joins : (chosen starts : List BidiUnit) (m p end : ℕ) → IsLaid us starts (suc m) p → before end ≡ before p + 1 →
      stack_of us chosen starts (suc m) end ≡ (unit chosen m, (before p - before (start_at starts m)) + 1) ∷ stack_of us chosen starts m (start_at starts m)
  stack_of-joins chosen starts m p end laid only =
      let low = laid.rising.low m (omega arith) in
      let rises = remaining_up_to us (start_at starts m) p (omega arith) laid.end_within in
      let e : before end - before (start_at starts m) ≡ (before p - before (start_at starts m)) + 1 = omega arith in
      ap (λ (c : ℕ). (unit chosen m, c) ∷ stack_of us chosen starts m (start_at starts m)) e

  -- the top is dropped after all
  stack_of-pops : (chosen starts : List BidiUnit) (m end : ℕ) → IsLaid us starts (suc (suc m)) end →
      stack_of us chosen starts (suc m) end
      ≡ (unit chosen m, (before (start_at starts (suc m)) - before (start_at starts m)) + (before end - before (start_at starts (suc m)))) ∷ stack_of us chosen starts m (start_at starts m)
  stack_of-pops chosen starts m end laid =
      let low = laid.rising.low (suc m) (omega arith) in
      let rise = laid.rising.rise m (omega arith) in
      let within = laid.end_within in
      let first = remaining_up_to us (start_at starts m) (start_at starts (suc m)) (omega arith) (omega arith) in
      let second = remaining_up_to us (start_at starts (suc m)) end (omega arith) within in
      let e : before end - before (start_at starts m)
      ≡ (before (start_at starts (suc m)) - before (start_at starts m)) + (before end - before (start_at starts (suc m))) = omega arith in
      ap (λ (c : ℕ). (unit chosen m, c) ∷ stack_of us chosen starts m (start_at starts m)) e

  pops_at : (chosen starts : List BidiUnit) (j end : ℕ) (u : BidiUnit) → IsLaid us starts (suc (suc j)) end →
      is_between (unit chosen j) (unit chosen (suc j)) u ≡ true →
      stack_of us chosen starts (suc j) end ≡ popped (stack_of us chosen starts (suc (suc j)) end) u
  pops_at chosen starts j end u laid h =
      let c : BidiUnit = unit chosen j in
      let d : BidiUnit = unit chosen (suc j) in
      let s : ℕ = before (start_at starts j) in
      let t : ℕ = before (start_at starts (suc j)) in
      let back : Stack = stack_of us chosen starts j (start_at starts j) in
      let less : Stack = (c, (t - s) + (before end - t)) ∷ back in
      let all : Stack = (d, before end - t) ∷ (c, t - s) ∷ back in
      stack_of-pops chosen starts j end laid ∙ sym (cond-true (is_between c d u) less all h)

  stays_at : (chosen starts : List BidiUnit) (j end : ℕ) (u : BidiUnit) → is_between (unit chosen j) (unit chosen (suc j)) u ≡ false →
      stack_of us chosen starts (suc (suc j)) end ≡ popped (stack_of us chosen starts (suc (suc j)) end) u
  stays_at chosen starts j end u h =
      let c : BidiUnit = unit chosen j in
      let d : BidiUnit = unit chosen (suc j) in
      let s : ℕ = before (start_at starts j) in
      let t : ℕ = before (start_at starts (suc j)) in
      let back : Stack = stack_of us chosen starts j (start_at starts j) in
      let less : Stack = (c, (t - s) + (before end - t)) ∷ back in
      let all : Stack = (d, before end - t) ∷ (c, t - s) ∷ back in
      sym (cond-false (is_between c d u) less all h)

  two_tops : (chosen : List BidiUnit) (j : ℕ) (u : BidiUnit) →
      is_between (unit chosen (suc (suc j) - 2)) (unit chosen (suc (suc j) - 1)) u ≡ is_between (unit chosen j) (unit chosen (suc j)) u
  two_tops chosen j u =
      let two : suc (suc j) - 2 ≡ j = omega arith in
      let one : suc (suc j) - 1 ≡ suc j = omega arith in
      ap (λ k. is_between (unit chosen k) (unit chosen (suc (suc j) - 1)) u) two ∙ ap (λ k. is_between (unit chosen j) (unit chosen k) u) one

  pub pops : (chosen starts : List BidiUnit) (m end : ℕ) (u : BidiUnit) → 1 < m → IsLaid us starts m end →
      is_between (unit chosen (m - 2)) (unit chosen (m - 1)) u ≡ true → stack_of us chosen starts (m - 1) end ≡ popped (stack_of us chosen starts m end) u
  pops chosen starts zero end u lt laid h = absurd (omega arith)
  pops chosen starts (suc zero) end u lt laid h = absurd (omega arith)
  pops chosen starts (suc (suc j)) end u lt laid h =
      let one : suc (suc j) - 1 ≡ suc j = omega arith in
      ap (λ k. stack_of us chosen starts k end) one ∙ pops_at chosen starts j end u laid (sym (two_tops chosen j u) ∙ h)

  pub pops_none : (chosen starts : List BidiUnit) (m end : ℕ) (u : BidiUnit) → 1 < m →
      is_between (unit chosen (m - 2)) (unit chosen (m - 1)) u ≡ false → stack_of us chosen starts m end ≡ popped (stack_of us chosen starts m end) u
  pops_none chosen starts zero end u lt h = absurd (omega arith)
  pops_none chosen starts (suc zero) end u lt h = absurd (omega arith)
  pops_none chosen starts (suc (suc j)) end u lt h = stays_at chosen starts j end u (sym (two_tops chosen j u) ∙ h)

  pub pops_few : (chosen starts : List BidiUnit) (m end : ℕ) (u : BidiUnit) → m ≤ 1 → stack_of us chosen starts m end ≡ popped (stack_of us chosen starts m end) u
  pops_few chosen starts zero end u le = refl
  pops_few chosen starts (suc zero) end u le = refl
  pops_few chosen starts (suc (suc j)) end u le = absurd (omega arith)

  -- the next one joins the top, or is chosen
  pub adds_joined : (direction : Class) (chosen starts : List BidiUnit) (m p end : ℕ) (u : BidiUnit) → 0 < m → IsLaid us starts m p → IsNextAt us p end →
      joins direction (unit chosen (m - 1)) u ≡ true → stack_of us chosen starts m end ≡ added direction (stack_of us chosen starts m p) u
  adds_joined direction chosen starts zero p end u lt laid next h = absurd (omega arith)
  adds_joined direction chosen starts (suc j) p end u lt laid next h =
      let one : suc j - 1 ≡ j = omega arith in
      let c : BidiUnit = unit chosen j in
      let s : ℕ = before (start_at starts j) in
      let back : Stack = stack_of us chosen starts j (start_at starts j) in
      let less : Stack = (c, (before p - s) + 1) ∷ back in
      let more : Stack = (u, 1) ∷ (c, before p - s) ∷ back in
      stack_of-joins chosen starts j p end laid next.only
      ∙ sym (cond-true (joins direction c u) less more (sym (ap (λ k. joins direction (unit chosen k) u) one) ∙ h))

  pub adds_chosen : (direction : Class) (chosen starts : List BidiUnit) (m p end : ℕ) (u w : BidiUnit) → m < length chosen → m < length starts → start_of w ≡ p →
      IsNextAt us p end → (0 < m → joins direction (unit chosen (m - 1)) u ≡ false) →
      stack_of us (set chosen m u) (set starts m w) (m + 1) end ≡ added direction (stack_of us chosen starts m p) u
  adds_chosen direction chosen starts zero p end u w a b e next h = stack_of-push chosen starts 0 u w p end a b e next
  adds_chosen direction chosen starts (suc j) p end u w a b e next h =
      let one : suc j - 1 ≡ j = omega arith in
      let more : suc j + 1 ≡ suc (suc j) = omega arith in
      let c : BidiUnit = unit chosen j in
      let s : ℕ = before (start_at starts j) in
      let back : Stack = stack_of us chosen starts j (start_at starts j) in
      let fewer : Stack = (c, (before p - s) + 1) ∷ back in
      let all : Stack = (u, 1) ∷ (c, before p - s) ∷ back in
      ap (λ k. stack_of us (set chosen (suc j) u) (set starts (suc j) w) k end) more
      ∙ stack_of-push chosen starts (suc j) u w p end a b e next
      ∙ sym (cond-false (joins direction c u) fewer all (sym (ap (λ k. joins direction (unit chosen k) u) one) ∙ h (omega arith)))

  -- what replaces the next one, by the top
  pub unit_on : (sos : Class) (chosen starts : List BidiUnit) (m end : ℕ) (strong : Class) (u v : BidiUnit) (next : Class) → 0 < m →
      strong ≡ (known_after sos (stack_of us chosen starts m end)).strong →
      v ≡ unit_for strong (unit chosen (m - 1)) u next → v ≡ next_for sos (stack_of us chosen starts m end) u next
  unit_on sos chosen starts zero end strong u v next lt e h = absurd (omega arith)
  unit_on sos chosen starts (suc j) end strong u v next lt e h =
      let one : suc j - 1 ≡ j = omega arith in
      h ∙ ap (λ k. unit_for strong (unit chosen k) u next) one ∙ ap (λ (s : Class). unit_for s (unit chosen j) u next) e

  -- one less
  pub laid_less : (starts : List BidiUnit) (m end : ℕ) → 1 < m → IsLaid us starts m end → IsLaid us starts (m - 1) end
  laid_less starts zero end lt laid = absurd (omega arith)
  laid_less starts (suc zero) end lt laid = absurd (omega arith)
  laid_less starts (suc (suc j)) end lt laid =
      let within = laid.within in
      let one : suc j ≡ suc (suc j) - 1 = omega arith in
      record {
        within = omega arith;
        end_within = laid.end_within;
        rising = record { low = λ k le. laid.rising.low k (omega arith); rise = λ k le. laid.rising.rise k (omega arith) };
        none_before = ap (λ (n : ℕ). before (bottom_of starts n end)) (sym one) ∙ laid.none_before;
      }

  -- as many, up to a later end
  pub laid_later : (starts : List BidiUnit) (m p end : ℕ) → p ≤ end → end ≤ length us → (m ≡ 0 → before end ≡ before p) → IsLaid us starts m p → IsLaid us starts m end
  laid_later starts zero p end le within none laid = record {
    within = omega arith;
    end_within = within;
    rising = record { low = λ k lt. absurd (omega arith); rise = λ k lt. absurd (omega arith) };
    none_before = none refl ∙ laid.none_before;
  }
  laid_later starts (suc j) p end le within none laid =
      let few = laid.within in
      record {
        within = omega arith;
        end_within = within;
        rising = record { low = λ k lt. let low = laid.rising.low k lt in omega arith; rise = laid.rising.rise };
        none_before = laid.none_before;
      }

  -- none
  pub laid_none : (starts : List BidiUnit) (p : ℕ) → p ≤ length us → before p ≡ 0 → IsLaid us starts 0 p
  laid_none starts p le none = record {
    within = omega arith;
    end_within = le;
    rising = record { low = λ k lt. absurd (omega arith); rise = λ k lt. absurd (omega arith) };
    none_before = none;
  }

  -- one more
  pub laid_push : (starts : List BidiUnit) (m p end : ℕ) (w : BidiUnit) → m < length starts → start_of w ≡ p → p < end → end ≤ length us → IsLaid us starts m p →
      IsLaid us (set starts m w) (m + 1) end
  laid_push starts m p end w lt e later within laid =
      let few = laid.within in
      let last : start_at (set starts m w) m ≡ p = start_at-same starts m w lt ∙ e in
      let same : (k : ℕ) → k < m → start_at (set starts m w) k ≡ start_at starts k = λ k lt. let apart : k ≢ m = omega arith in start_at-other starts m k w apart in
      let more : m + 1 ≡ suc m = omega arith in
      record {
        within = omega arith;
        end_within = within;
        rising = record {
          low = λ k le. elim (cases_lt k m) [
            | inl h ↦ (let a = same k h in let l = laid.rising.low k h in omega arith)
            | inr h ↦ (let g : k ≡ m = omega arith in let f = ap (λ i. start_at (set starts m w) i) g in omega arith)
          ];
          rise = λ k le. elim (cases_lt (suc k) m) [
            | inl h ↦ (let a = same k (omega arith) in let b = same (suc k) h in let l = laid.rising.rise k h in omega arith)
            | inr h ↦ (let g : suc k ≡ m = omega arith in let f = ap (λ i. start_at (set starts m w) i) g in
                let a = same k (omega arith) in let l = laid.rising.low k (omega arith) in omega arith)
          ];
        };
        none_before = ap (λ (n : ℕ). before (bottom_of (set starts m w) n end)) more ∙ bottom m lt last laid;
      } where
        bottom : (m : ℕ) → m < length starts → start_at (set starts m w) m ≡ p → IsLaid us starts m p → before (start_at (set starts m w) 0) ≡ 0
        bottom zero lt last laid = ap before last ∙ laid.none_before
        bottom (suc j) lt last laid = let apart : 0 ≢ suc j = omega arith in ap before (start_at-other starts (suc j) 0 w apart) ∙ laid.none_before
