use Rattle.std.proofs.Common.{ap, sym, subst, ◌∙◌}
use Rattle.bidtests.specs.FileKinds.{stored_tables}
use Rattle.bidtests.specs.JudgedSoFar.{Judging, Judges}
use Rattle.bidtests.proofs.SplitterSteps.{finishes, finishes-decided}
use Rattle.bidtests.proofs.judge.Judge.verdict.Goals as goal

pub returns-in-Some : goal.returns-in-Some
returns-in-Some c = finishes-decided c.args.self.now c.in-Some.verdict
    (sym (ap (λ (j : Judging). j.decided) c.self.view_is) ∙ c.in-Some.is)

pub returns : goal.returns
returns c = λ limits kind b judges.
    let inside = c.self.inside in
    let state : Judging = record {
      tables = stored_tables inside.kind;
      cutting = inside.splitter;
      carried = inside.line_judge;
      decided = inside.decided;
    } in
    let P : Judging → Type 0 = λ j. Judges limits kind j b in
    c.judge_last.ensures ∙
    finishes state c.kind.result c.kind.ensures c.finish-last.result c.in_default.is c.finish-last.ensures.last limits
    kind b (subst P (sym c.self.view_is) judges)
