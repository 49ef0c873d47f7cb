use Rattle.rows.proofs.Judged.{judged-yes}
use Rattle.rows.proofs.theorems.judge_says_yes.Goals as goal

pub returns : goal.returns
returns c = λ limits kind cases deep rows. judged-yes limits kind cases deep rows
