use Rattle.std.proofs.Common.{length, take, drop, ◌-◌, ◌++◌, sym, ◌∙◌}
use Rattle.units.proofs.Options.{is_some_false}
use Rattle.ucdfiles.proofs.Pieces.{joined, within}
use Rattle.bidtests.specs.FileKinds.{stored_tables}
use Rattle.bidtests.specs.JudgedSoFar.{Judging}
use Rattle.bidtests.proofs.SplitterSteps.{feeds-on, feeds-some, if-no-error}
use Rattle.bidtests.proofs.judge.Judge.feed.Goals as goal

pub returns-then-is_some : goal.returns-then-is_some
returns-then-is_some c = λ limits kind b judges.
    feeds-some limits kind _ b c.args.piece.now c.loop-at.at (sym c.is_some.ensures ∙ c.if-is_some.true)
    (c.loop-at.invariant.judges limits kind b judges)

pub loop-at-preserved : goal.loop-at-preserved
loop-at-preserved c =
    let piece = c.args.piece.now in
    let at = c.loop-at.at in
    let used = c.take.result.0 in
    let rest = take (length piece - at) (drop at piece) in
    let self = c.loop-at.self-inside in
    let state : Judging = record {
      tables = stored_tables self.kind;
      cutting = self.splitter;
      carried = self.line_judge;
      decided = self.decided;
    } in
    record {
      within = within at used piece c.loop-at.invariant.within c.take.ensures.used;
      judges = λ limits kind b judges.
          rw (joined at used piece b)
          (feeds-on state c.kind.result c.kind.ensures c.take.follows.lender-at-none c.judge_cut.new.line_judge
          c.err-self-inside.result rest used c.take.result.1
          (is_some_false self.decided (sym c.is_some.ensures ∙ c.if-is_some.false))
          c.take.ensures.used c.take.ensures.through c.take.ensures.outcome c.take.follows.holds-at-none
          (c.err-self-inside.ensures.value ∙ c.judge_cut.ensures.no)
          (λ none. if-no-error _ c.judge_cut.result (sym c.err-self-inside.ensures.value ∙
          none) c.judge_cut.ensures.carried)
          limits kind (b ++ take at piece) (c.loop-at.invariant.judges limits kind b judges));
    }
