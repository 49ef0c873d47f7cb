use Rattle.std.proofs.Common.{◌-◌, ◌≤◌, length, take}
use Rattle.bidtests.specs.FileKinds.{stored_tables}
use Rattle.bidtests.specs.JudgedSoFar.{TakesPiece}
use Rattle.bidtests.proofs.judge.Judge.feed.Given as goal

abbrev pub invariant-loop-at : goal.invariant-loop-at
invariant-loop-at l = record {
  within : l.at ≤ length l.piece;
  judges : TakesPiece (take l.at l.piece) l.fn.self (record {
    tables = stored_tables l.self-inside.kind;
    cutting = l.self-inside.splitter;
    carried = l.self-inside.line_judge;
    decided = l.self-inside.decided;
  });
}

abbrev pub decreases-loop-at : goal.decreases-loop-at
decreases-loop-at l = length l.piece - l.at
