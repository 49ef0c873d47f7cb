use Rattle.std.proofs.Common.{◌∙◌, rules}
use Rattle.bidtests.proofs.judge.judge_last.Goals.{in-Some+in_default-judge_line, in_default}
use Rattle.bidtests.proofs.judge.judge_last.Goals as goal

pub returns : goal.returns
returns c = c.yes.ensures ∙ elim c.match-last.branch [
  | in-Some+in_default-judge_line w ↦ search rules
  | in_default w ↦
      search rules
]
