-- Runs of a line, one after another, in the units of the source.
use Rattle.std.proofs.Common.{◌≡◌, ℕ, ◌+◌, ◌<◌, ◌≤◌, List, [], ◌∷◌, ◌++◌, length, map, take, drop, refl, subst, sym, ap, ◌∙◌, arith}
use Rattle.std.proofs.lemmas.List.{length-map, map-append}
use Rattle.units.specs.declared.level.ParaLevel.{ParaLevel}
use Rattle.visual.specs.LineRuns.{HasAtMost, HasRuns}
use Rattle.visual.specs.NextRuns.{IsNextRun}
use Rattle.visual.specs.VisualRuns.{IsInOrder, IsRunAt}
use Rattle.visual.specs.declared.line.OrderedLine.{OrderedLine}
use Rattle.visual.specs.declared.line_runs.Runs.{Runs}
use Rattle.visual.specs.declared.runs.VisualRun.{VisualRun}
use Rattle.visual.proofs.Passed.{AreGiven}
use Rattle.room.specs.Looking.{HasParaLevelOf}
use Rattle.room.specs.Rooms.{RoomOf}
use Rattle.room.specs.RunsIn.{IsOrderedLine, PutsRuns, WritesRuns, run_in}
use Rattle.room.specs.Written.{WritesWhole}

-- the next run lies within the line
pub record IsWithin (line : OrderedLine) (run : VisualRun) : Type 0 where
  pub forward : run.start ≤ run.end
  pub end : run.end ≤ line.end

pub run_within : (line : OrderedLine) (runs : List VisualRun) (old : Runs) (run : VisualRun) (new : Runs) →
    IsInOrder line → AreGiven line runs old → IsNextRun old run new → IsWithin line run
run_within line runs old run new order given next =
    let at : IsRunAt line old.place run =
    subst (λ (l : OrderedLine). IsRunAt l old.place run) given.of (next.run (subst IsInOrder (sym given.of) order))
    in
    record { forward = omega (arith, at.level.some); end = at.level.within }

-- one run more is written
pub written_run : {T : Type 0} (encode : VisualRun → T) (runs : List VisualRun) (run : VisualRun)
    (out out_then : List T) (count : ℕ) (encoded : T)
    → length out_then ≡ length out → encoded ≡ encode run
    → (count < length out → take (count + 1) out_then ≡ take count out ++ encoded ∷ [])
    → (count ≤ length out → take count out ≡ map encode runs)
    → count + 1 ≤ length out_then → take (count + 1) out_then ≡ map encode (runs ++ run ∷ [])
written_run {T} encode runs run out out_then count encoded len is put before le =
    put (omega (arith, le, len)) ∙ ap (λ (xs : List T). xs ++ encoded ∷ []) (before (omega (arith, le, len)))
    ∙ ap (λ (x : T). map encode runs ++ x ∷ []) is ∙ sym (map-append encode runs (run ∷ []))

-- all runs of a line are written, because it has no more than there are places
pub all_written : {T : Type 0} (encode : VisualRun → T) (line : OrderedLine) (count : ℕ) (old new : List T)
    (puts : PutsRuns encode line count old new)
    → length new ≡ length old → HasAtMost line (length old) → WritesWhole (map encode puts.runs) count old new
all_written encode line count old new puts len few =
    let n : length (map encode puts.runs) ≡ count = length-map puts.runs encode ∙ sym puts.counted in
    let fits : length puts.runs ≤ length old = few puts.runs puts.are in
    record {
      count = sym n;
      written = λ _. ap (λ (m : ℕ). take m new) n ∙ puts.written (omega (arith, puts.counted, fits, len));
      following = ap (λ (m : ℕ). drop m new) n ∙ puts.following ∙ ap (λ (m : ℕ). drop m old) (sym n);
      unchanged = λ short. absurd (omega (arith, short, fits, puts.counted, n));
    }

-- none is, because it has more
pub none_written : {T : Type 0} (encode : VisualRun → T) (line : OrderedLine) (count : ℕ) (old : List T)
    (has : HasRuns line count) → length old < count → WritesWhole (map encode has.runs) count old old
none_written encode line count old has few =
    let n : length (map encode has.runs) ≡ count = length-map has.runs encode ∙ sym has.counted in
    record {
      count = sym n;
      written = λ fits. absurd (omega (arith, few, fits, n));
      following = refl;
      unchanged = λ _. refl;
    }

-- the line has the number k, and is in a paragraph with its level
pub record IsLineOf (room : RoomOf) (k : ℕ) (line : OrderedLine) : Type 0 where
  pub is : IsOrderedLine room.layout k line.para_level line
  pub para : HasParaLevelOf room line.start line.para_level

-- a line of the layout whose start is in a paragraph with this level
pub line_of_layout : (room : RoomOf) (k start : ℕ) (para : ParaLevel) (line : OrderedLine) →
    IsOrderedLine room.layout k para line → start ≡ line.start → HasParaLevelOf room start para → IsLineOf room k line
line_of_layout room k start para line is begins level = record {
  is = subst (λ (p : ParaLevel). IsOrderedLine room.layout k p line) (sym is.para) is;
  para = subst (HasParaLevelOf room line.start) (sym is.para)
      (subst (λ (p : ℕ). HasParaLevelOf room p para) begins level);
}

module _ (room : RoomOf) (k : ℕ) (line : OrderedLine) (of : IsLineOf room k line) where
  -- all runs of the line are written
  pub all_put : (count : ℕ) (old new : List VisualRun) → PutsRuns (run_in room) line count old new →
      length new ≡ length old → HasAtMost line (length old) → WritesRuns room k count old new
  all_put count old new puts len few = record {
    line = line;
    is = of.is;
    para = of.para;
    runs = puts.runs;
    are = puts.are;
    writes = all_written (run_in room) line count old new puts len few;
  }

  -- none is
  pub none_put : (count : ℕ) (old : List VisualRun) → HasRuns line count → length old < count →
      WritesRuns room k count old old
  none_put count old has few = record {
    line = line;
    is = of.is;
    para = of.para;
    runs = has.runs;
    are = has.are;
    writes = none_written (run_in room) line count old has few;
  }
