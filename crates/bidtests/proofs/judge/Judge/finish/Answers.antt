use Rattle.bidtests.proofs.FileVerdicts.{file-says}
use Rattle.bidtests.proofs.judge.Judge.finish.Goals as goal

pub returns-clause-says : goal.returns-clause-says
returns-clause-says c =
    λ limits kind b judges. file-says limits kind b c.verdict.result (c.verdict.ensures limits kind b judges)
