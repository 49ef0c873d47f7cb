-- The runs of a line, written from left to right.
use Rattle.std.proofs.Common.{◌≡◌, ℕ, ◌+◌, ◌-◌, ◌*◌, ◌<◌, ◌≤◌, ◌%◌, Option, List, [], ◌∷◌, ◌++◌, cond, length, set, take, append_assoc, refl, sym, ap, ◌∙◌, inl, inr, arith, subst}
use Rattle.std.specs.Prelude.{reverse}
use Rattle.std.specs.Option.{is_some}
use Rattle.std.proofs.lemmas.Bool.{cases_eq}
use Rattle.std.proofs.lemmas.List.{append-nil, take_more_set}
use Rattle.units.specs.Reordering.{line_order}
use Rattle.lines.specs.declared.runs.Chain.{Chain}
use Rattle.lines.specs.declared.runs.Run.{Run}
use Rattle.lines.specs.LinePositions.{IsAmong, is_remaining, remaining}
use Rattle.lines.specs.RunLinks.{IsChainOf, IsLevelRun, LinksThrough, run_in, spelled, units_in}
use Rattle.lines.proofs.Lists.{has_right}
use Rattle.lines.proofs.LineOrder.{line_order-in_order}
use Rattle.lines.proofs.Remaining.{remaining-next, remaining-none}
use Rattle.lines.proofs.RunChains.{has_spelled, once}
use Rattle.lines.proofs.Uniform.{uniform-falling, uniform-rising}

pub run-rising : (levels : List (Option ℕ)) (start end : ℕ) (r : IsLevelRun levels start end) → r.level % 2 ≡ 0 →
    remaining levels start end ≡ line_order levels start end
run-rising levels start end r even =
    sym (uniform-rising levels start end r.level (omega (arith, r.rises)) even r.uniform)

pub run-falling : (levels : List (Option ℕ)) (start end : ℕ) (r : IsLevelRun levels start end) → r.level % 2 ≡ 1 →
    reverse (remaining levels start end) ≡ line_order levels start end
run-falling levels start end r odd =
    sym (uniform-falling levels start end r.level (omega (arith, r.rises)) odd r.uniform)

-- a run of one position
remaining_one : (levels : List (Option ℕ)) (start end : ℕ) → end ≡ start + 1 → IsLevelRun levels start end →
    remaining levels start end ≡ start ∷ []
remaining_one levels start end one r =
    ap (remaining levels start) one
    ∙ remaining-next levels start start (omega arith)
    ∙ ap (λ xs. xs ++ cond (is_remaining levels start) (start ∷ []) []) (remaining-none levels start)
    ∙ ap (λ b. cond b (start ∷ []) []) (ap is_some r.has)

pub run_one : (levels : List (Option ℕ)) (start end : ℕ) → end - start ≡ 1 → IsLevelRun levels start end →
    line_order levels start end ≡ start ∷ []
run_one levels start end one r =
    let only : remaining levels start end ≡ start ∷ [] =
    remaining_one levels start end (omega (arith, one, r.rises)) r in
    elim (cases_eq (r.level % 2) 0) [
      | inl even ↦ sym (run-rising levels start end r even) ∙ only
      | inr odd ↦ sym (run-falling levels start end r (omega (arith, odd))) ∙ ap reverse only
    ]

pub one_written : (order : List ℕ) (position : ℕ) → 0 < length order → take 1 (set order 0 position) ≡ position ∷ []
one_written order position some = take_more_set order 0 position some

-- a run has a position
none_has : (xs : List ℕ) (x : ℕ) → IsAmong xs x → 0 < length xs
none_has [] x h = absurd h
none_has (y ∷ ys) x h = omega arith

pub run-some : (levels : List (Option ℕ)) (start end : ℕ) → IsLevelRun levels start end →
    0 < length (line_order levels start end)
run-some levels start end r =
    none_has (line_order levels start end) start
    ((line_order-in_order levels start end (omega (arith, r.rises))).holds.complete start r.level
    (omega arith) r.rises r.has)

-- the positions of a line are the written ones and those of the remaining runs, for which there are enough places and
-- steps
pub record Writes (levels : List (Option ℕ)) (runs : List Run) (positions : List ℕ) (last places most : ℕ)
    (order : List ℕ) (count position steps : ℕ) : Type 0 where
  pub rest : List ℕ
  pub leads : LinksThrough runs position rest last
  pub are_runs : (x : ℕ) → IsAmong (rest ++ last ∷ []) x → IsLevelRun levels x (run_in runs x).end
  pub is : positions ≡ take count order ++ spelled levels runs (rest ++ last ∷ [])
  pub apart : IsAmong rest last → ⊥
  pub room : count + units_in runs (rest ++ last ∷ []) ≤ places
  pub budget : steps + 2 * units_in runs (rest ++ last ∷ []) ≤ most

pub writes_start : (levels : List (Option ℕ)) (runs : List Run) (start end most : ℕ) (chain : Chain) (order : List ℕ)
    (steps : ℕ) → start ≤ end → IsChainOf levels runs (end - start) (line_order levels start end) chain →
    steps + 2 * (end - start) ≤ most →
    Writes levels runs (line_order levels start end) chain.last (end - start) most order 0 chain.first steps
writes_start levels runs start end most chain order steps le h budget =
    record {
      rest = h.front;
      leads = h.leads;
      are_runs = h.are_runs;
      is = h.is;
      apart = once levels runs (end - start) (line_order levels start end) chain h
          (line_order-in_order levels start end le).ordered;
      room = omega (arith, h.units);
      budget = omega (arith, h.units);
    }

-- the next run, and the state after it is written
pub record Next (levels : List (Option ℕ)) (runs : List Run) (positions : List ℕ) (last places most : ℕ)
    (order : List ℕ) (count position steps : ℕ) : Type 0 where
  pub run : IsLevelRun levels position (run_in runs position).end
  pub has : IsAmong positions position
  pub room : count + ((run_in runs position).end - position) ≤ places
  pub budget : steps + 2 * ((run_in runs position).end - position) ≤ most
  pub ends : position ≡ last → positions ≡ take count order ++ line_order levels position (run_in runs position).end
  pub goes_on : (order2 : List ℕ) (count2 steps2 : ℕ) → (position ≡ last → ⊥) →
      take count2 order2 ≡ take count order ++ line_order levels position (run_in runs position).end →
      count2 ≤ count + ((run_in runs position).end - position) →
      steps2 ≤ steps + 1 + ((run_in runs position).end - position) →
      Writes levels runs positions last places most order2 count2 (run_in runs position).next steps2

next_from : (levels : List (Option ℕ)) (runs : List Run) (positions : List ℕ) (last places most : ℕ) (order : List ℕ)
    (count position steps : ℕ) (rest : List ℕ) → LinksThrough runs position rest last →
    ((x : ℕ) → IsAmong (rest ++ last ∷ []) x → IsLevelRun levels x (run_in runs x).end) →
    positions ≡ take count order ++ spelled levels runs (rest ++ last ∷ []) → (IsAmong rest last → ⊥) →
    count + units_in runs (rest ++ last ∷ []) ≤ places → steps + 2 * units_in runs (rest ++ last ∷ []) ≤ most →
    Next levels runs positions last places most order count position steps
next_from levels runs positions last places most order count position steps [] leads all is apart room budget =
    subst (λ n. Next levels runs positions last places most order count n steps) (sym leads) (record {
      run = all last (inl refl);
      has = subst (λ ps. IsAmong ps last) (sym is) (has_right (take count order) (spelled levels runs (last ∷ [])) last
          (has_spelled levels runs (last ∷ []) all last (inl refl)));
      room = omega arith;
      budget = omega (arith, (all last (inl refl)).rises);
      ends = λ e. is ∙ ap (λ ps. take count order ++ ps) (append-nil (line_order levels last (run_in runs last).end));
      goes_on = λ order2 count2 steps2 ne written few quick. absurd (ne refl);
    })
next_from levels runs positions last places most order count position steps (x ∷ xs) leads all is apart room budget =
    let r = all x (inl refl) in
    subst (λ n. Next levels runs positions last places most order count n steps) (sym leads.0) (record {
      run = r;
      has = subst (λ ps. IsAmong ps x) (sym is)
          (has_right (take count order) (spelled levels runs (x ∷ (xs ++ last ∷ []))) x
          (has_spelled levels runs (x ∷ (xs ++ last ∷ [])) all x (inl refl)));
      room = omega arith;
      budget = omega arith;
      ends = λ e. absurd (apart (inl (sym e)));
      goes_on = λ order2 count2 steps2 ne written few quick. record {
        rest = xs;
        leads = leads.1;
        are_runs = λ y h. all y (inr h);
        is =
            is
            ∙ sym (append_assoc (take count order) (line_order levels x (run_in runs x).end) (spelled levels runs (xs ++
            last ∷ [])))
            ∙ ap (λ ps. ps ++ spelled levels runs (xs ++ last ∷ [])) (sym written);
        apart = λ h. apart (inr h);
        room = omega arith;
        budget = omega (arith, r.rises);
      };
    })

pub next_run : {levels : List (Option ℕ)} {runs : List Run} {positions : List ℕ} {last places most : ℕ} {order : List ℕ}
    {count position steps : ℕ} → Writes levels runs positions last places most order count position steps →
    Next levels runs positions last places most order count position steps
next_run {levels} {runs} {positions} {last} {places} {most} {order} {count} {position} {steps} w =
    next_from levels runs positions last places most order count position steps w.rest w.leads w.are_runs w.is w.apart
    w.room w.budget

-- the run begins in the line
pub next-within : {levels : List (Option ℕ)} {runs : List Run} {last places most : ℕ} {order : List ℕ}
    {count position steps : ℕ} (start end : ℕ) → start ≤ end →
    Next levels runs (line_order levels start end) last places most order count position steps → position < end
next-within {levels} {runs} {last} {places} {most} {order} {count} {position} {steps} start end le n =
    let s = (line_order-in_order levels start end le).holds.sound position n.has in s.1
