-- The runs of a line, one after another.
use Rattle.std.proofs.Common.{◌≡◌, ◌+◌, ◌<◌, ◌⊎◌, true, false, sym, ◌∙◌, inl, inr, arith, subst}
use Rattle.visual.specs.Spans.{BeginsAt}
use Rattle.visual.specs.VisualRuns.{IsInOrder, IsRunAt, end_place}
use Rattle.visual.specs.LineRuns.{IsRemovedRun, JoinTheLast}
use Rattle.visual.specs.NextRuns.{IsNextRun}
use Rattle.visual.specs.declared.line_runs.Runs.{Runs}
use Rattle.visual.specs.declared.runs.VisualRun.{VisualRun}

-- the run of removed positions comes next
pub next_removed-is : (old new : Runs) (run : VisualRun) → new.line ≡ old.line → new.place ≡ old.place →
    (old.end_pending ≡ false → new.end_pending ≡ false) → IsRemovedRun old.line run × (old.end_pending ≡ true) ×
    (new.end_pending ≡ false) × (old.place ≡ end_place old.line) → IsNextRun old run new
next_removed-is old new run line place closed given =
    record {
      line = line;
      run = λ o. subst (λ n. IsRunAt old.line n run) (sym given.3) given.0.represents;
      place = omega (arith, given.0.empty, place);
      closed = closed;
      either = inr given;
    }

-- a run that shows positions comes next
pub next_shown-is : (old mid new : Runs) (run : VisualRun) → mid.line ≡ old.line → mid.place ≡ old.place →
    (old.end_pending ≡ false → mid.end_pending ≡ false) → (mid.end_pending ≡ old.end_pending) ⊎ JoinTheLast old.line →
    BeginsAt mid.line mid.place → (IsInOrder mid.line → BeginsAt mid.line mid.place → IsRunAt mid.line mid.place run) →
    0 < run.shown → new.line ≡ mid.line → new.place ≡ mid.place + run.shown → new.end_pending ≡ mid.end_pending →
    IsNextRun old run new
next_shown-is old mid new run line place closed pending begins is some line2 place2 end2 =
    record {
      line = line2 ∙ line;
      run = λ o.
          let t : IsRunAt mid.line mid.place run = is (subst IsInOrder (sym line) o) begins in
          subst (λ n. IsRunAt old.line n run) place (subst (λ l. IsRunAt l mid.place run) line t);
      place = omega (arith, place, place2);
      closed = λ e. end2 ∙ closed e;
      either = inl (some, elim pending [ inl e ↦ inl (end2 ∙ e) | inr j ↦ inr j ]);
    }
