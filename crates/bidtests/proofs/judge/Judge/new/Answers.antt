use Rattle.std.proofs.Common.{sym}
use Rattle.bidtests.proofs.SplitterSteps.{judges-none}
use Rattle.bidtests.proofs.judge.Judge.new.Goals as goal

pub returns : goal.returns
returns c = λ kind by. rw (c.in_ok-new.ensures, sym by) (judges-none c.args.limits kind c.new.result c.new.ensures)
