use Rattle.bidtests.specs.declared.verdict.Verdict.TheVariants.{Yes, Malformed, Wrong}
use Rattle.bidtests.proofs.FileLines.{line-finding}
use Rattle.bidtests.proofs.LineByLine.{length-findings}
use Rattle.bidtests.proofs.FileVerdicts.{file-verdict}
use Rattle.bidtests.proofs.theorems.verdict_theorem.Goals as goal

pub returns : goal.returns
returns c = record {
  line = λ kind lines. record { count = length-findings kind lines; each = line-finding kind lines };
  yes = λ limits kind b rows cases. file-verdict limits kind b (Yes rows cases);
  malformed = λ limits kind b number cause. file-verdict limits kind b (Malformed number cause);
  wrong = λ limits kind b number direction place. file-verdict limits kind b (Wrong number direction place);
}
