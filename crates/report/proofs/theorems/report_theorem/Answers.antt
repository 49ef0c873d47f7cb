use Rattle.std.proofs.Common.{◌∙◌}
use Rattle.units.specs.Text.{lines_of}
use Rattle.bidtests.specs.FileKinds.{findings_by}
use Rattle.bidtests.proofs.SplitterSteps.{verdict-of}
use Rattle.report.proofs.Amounts.{amounts}
use Rattle.report.proofs.Holding.{holds}
use Rattle.report.proofs.theorems.report_theorem.Goals as goal

pub returns-clause-cases : goal.returns-clause-cases
returns-clause-cases c = λ terms kind b w. holds terms (findings_by kind (lines_of b)) w

pub returns-clause-verdict : goal.returns-clause-verdict
returns-clause-verdict c = λ limits kind b. verdict-of limits kind b ∙ amounts limits (findings_by kind (lines_of b))
