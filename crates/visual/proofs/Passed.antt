-- The runs of a line that have been returned.
use Rattle.std.proofs.Common.{◌≡◌, ℕ, ◌+◌, ◌<◌, ◌≤◌, ◌⊎◌, Bool, true, false, List, [], ◌∷◌, ◌++◌, length, zero, suc, refl, sym, ap, ◌∙◌, inl, inr, arith, length-append}
use Rattle.std.proofs.Common.{subst}
use Rattle.std.specs.Prelude.{if◌then◌else◌}
use Rattle.std.proofs.lemmas.Bool.{cases_lt}
use Rattle.visual.specs.VisualRuns.{IsInOrder, IsRunAt}
use Rattle.visual.specs.LineRuns.{AreRunsOf, IsRemovedRun, JoinTheLast, AreSideBySide, run_numbered}
use Rattle.visual.specs.NextRuns.{IsExhausted, IsNextRun}
use Rattle.visual.specs.declared.line.OrderedLine.{OrderedLine}
use Rattle.visual.specs.declared.line_runs.Runs.{Runs}
use Rattle.visual.specs.declared.runs.VisualRun.{VisualRun}
use Rattle.visual.proofs.Partition.{EndIsCovered, OneEmpty, are_runs}

-- one more run is side by side with those before it
stand_more : (line : OrderedLine) (from : ℕ) (runs : List VisualRun) (to : ℕ) (run : VisualRun) →
    AreSideBySide line from runs to → IsRunAt line to run → AreSideBySide line from (runs ++ run ∷ []) (to + run.shown)
stand_more line from [] to run s r = (subst (λ n. IsRunAt line n run) (sym s) r, ap (λ n. n + run.shown) s)
stand_more line from (first ∷ runs) to run s r = (s.0, stand_more line (from + first.shown) runs to run s.1 r)

numbered_below : (runs : List VisualRun) (run : VisualRun) (k : ℕ) → k < length runs →
    run_numbered (runs ++ run ∷ []) k ≡ run_numbered runs k
numbered_below [] run k lt = absurd (omega arith)
numbered_below (first ∷ runs) run zero lt = refl
numbered_below (first ∷ runs) run (suc k) lt = numbered_below runs run k (omega arith)

numbered_last : (runs : List VisualRun) (run : VisualRun) → run_numbered (runs ++ run ∷ []) (length runs) ≡ run
numbered_last [] run = refl
numbered_last (first ∷ runs) run = numbered_last runs run

pub length_more : (runs : List VisualRun) (run : VisualRun) → length (runs ++ run ∷ []) ≡ length runs + 1
length_more runs run = length-append runs (run ∷ [])

-- these runs were returned before this state, from the first run of the line on
pub record AreGiven (line : OrderedLine) (runs : List VisualRun) (now : Runs) : Type 0 where
  pub of : now.line ≡ line
  pub stand : IsInOrder line → AreSideBySide line 0 runs now.place
  pub one : OneEmpty runs
  pub taken : (k : ℕ) → k < length runs → (run_numbered runs k).shown ≡ 0 → now.end_pending ≡ false
  pub covered : (now.end_pending ≡ true) ⊎ EndIsCovered line runs
  pub few : length runs + (if now.end_pending then 1 else 0) ≤ now.place + 1

one_more : (runs : List VisualRun) (run : VisualRun) → OneEmpty runs → (run.shown ≡ 0 → (k : ℕ) → k < length runs →
    (run_numbered runs k).shown ≡ 0 → ⊥) → OneEmpty (runs ++ run ∷ [])
one_more runs run one first i j lt within a b =
    let n = length_more runs run in
    let ia : (run_numbered runs i).shown ≡ 0 = ap (λ r. r.shown) (sym (numbered_below runs run i (omega (arith, n)))) ∙
    a in
    elim (cases_lt j (length runs)) [
      | inl l ↦ one i j lt l ia (ap (λ r. r.shown) (sym (numbered_below runs run j l)) ∙ b)
      | inr l ↦
          let last : j ≡ length runs = omega (arith, n) in
          let jb : run.shown ≡ 0 = ap (λ r. r.shown) (sym (numbered_last runs run)) ∙
          ap (λ m. (run_numbered (runs ++ run ∷ []) m).shown) (sym last) ∙ b in
          first jb i (omega (arith, n)) ia
    ]

covered_more : (line : OrderedLine) (runs : List VisualRun) (run : VisualRun) → EndIsCovered line runs →
    EndIsCovered line (runs ++ run ∷ [])
covered_more line runs run e =
    elim e [
      | inl j ↦ inl j
      | inr t ↦ inr (
        t.0,
        omega (arith, t.1, length_more runs run),
        subst (IsRemovedRun line) (sym (numbered_below runs run t.0 t.1)) t.2,
      )
    ]

few_shown : (before after : Bool) (count place shown place2 count2 : ℕ) →
    count + (if before then 1 else 0) ≤ place + 1 → (before ≡ false → after ≡ false) → count2 ≡ count + 1 →
    place2 ≡ place + shown → 0 < shown → count2 + (if after then 1 else 0) ≤ place2 + 1
few_shown true true count place shown place2 count2 h closed a b lt = omega arith
few_shown true false count place shown place2 count2 h closed a b lt = omega arith
few_shown false false count place shown place2 count2 h closed a b lt = omega arith
few_shown false true count place shown place2 count2 h closed a b lt = absurd (let z : true ≡ false = closed refl in cc)

-- one more is returned
pub given_more : (line : OrderedLine) (runs : List VisualRun) (old : Runs) (run : VisualRun) (new : Runs) →
    AreGiven line runs old → IsNextRun old run new → AreGiven line (runs ++ run ∷ []) new
given_more line runs old run new g n =
    let more = length_more runs run in
    record {
      of = n.line ∙ g.of;
      stand = λ o.
          let t : IsRunAt line old.place run =
          subst (λ l. IsRunAt l old.place run) g.of (n.run (subst IsInOrder (sym g.of) o)) in
          subst (AreSideBySide line 0 (runs ++ run ∷ [])) (sym n.place)
          (stand_more line 0 runs old.place run (g.stand o) t);
      one = one_more runs run g.one (λ z k lt zk. elim n.either [
        | inl w ↦ omega (arith, w.0)
        | inr w ↦ let e : true ≡ false = sym w.1 ∙ g.taken k lt zk in cc
      ]);
      taken = λ k lt z. elim (cases_lt k (length runs)) [
        | inl l ↦ n.closed (g.taken k l (ap (λ r. r.shown) (sym (numbered_below runs run k l)) ∙ z))
        | inr l ↦
            let last : k ≡ length runs = omega (arith, more) in
            let zero_shown : run.shown ≡ 0 = ap (λ r. r.shown) (sym (numbered_last runs run)) ∙
            ap (λ m. (run_numbered (runs ++ run ∷ []) m).shown) (sym last) ∙ z in
            elim n.either [ inl w ↦ absurd (omega (arith, w.0)) | inr w ↦ w.2 ]
      ];
      covered = elim n.either [
        | inl w ↦ elim w.1 [
          | inl same ↦ elim g.covered [ inl e ↦ inl (same ∙ e) | inr c ↦ inr (covered_more line runs run c) ]
          | inr j ↦ inr (inl (subst JoinTheLast g.of j))
        ]
        | inr w ↦ inr (inr (
          length runs,
          omega (arith, more),
          subst (IsRemovedRun line) (sym (numbered_last runs run)) (subst (λ l. IsRemovedRun l run) g.of w.0),
        ))
      ];
      few = elim n.either [
        | inl w ↦ few_shown old.end_pending new.end_pending (length runs) old.place run.shown new.place
            (length (runs ++ run ∷ [])) g.few n.closed more n.place w.0
        | inr w ↦
            let a : length runs + 1 ≤ old.place + 1 =
            subst (λ b. length runs + (if b then 1 else 0) ≤ old.place + 1) w.1 g.few in
            subst (λ b. length (runs ++ run ∷ []) + (if b then 1 else 0) ≤ new.place + 1) (sym w.2) (omega (
              arith,
              a,
              more,
              n.place,
            ))
      ];
    }

-- after all are returned, these are the runs of the line
pub all_given : (line : OrderedLine) (runs : List VisualRun) (now : Runs) → AreGiven line runs now → IsExhausted now →
    IsInOrder line → AreRunsOf line runs
all_given line runs now g none o =
    let s : AreSideBySide line 0 runs (length line.order.now) =
    subst (AreSideBySide line 0 runs) (none.place ∙ ap (λ l. length l.order.now) g.of) (g.stand o) in
    let e : EndIsCovered line runs = elim g.covered [
      | inl e ↦ elim none.end [
        | inl f ↦ absurd (let z : true ≡ false = sym e ∙ f in cc)
        | inr j ↦ inl (subst JoinTheLast g.of j)
      ]
      | inr c ↦ c
    ] in
    are_runs line runs o s g.one e
