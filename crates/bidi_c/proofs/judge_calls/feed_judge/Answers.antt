use Rattle.std.proofs.Common.{◌≡◌, refl, subst}
use Rattle.bidtests.specs.JudgedSoFar.{Judging, TakesPiece}
use Rattle.bidi_c.proofs.judge_calls.feed_judge.Goals as goal

pub returns-in-Judge : goal.returns-in-Judge
returns-in-Judge c =
    let so : TakesPiece c.args.piece.now c.in-Judge.judge.value c.feed.new.self =
    subst (λ (judge : Judging). TakesPiece c.args.piece.now judge c.feed.new.self) c.deref_mut.ensures.value
    c.feed.ensures in
    rw c.in-Judge.is (record { at = (refl, (c.feed.new.self, refl, so)) })
