-- A call on the judge of a handle, without a judge, and a call that ends it.
use Rattle.std.proofs.Common.{ℕ, ◌≡◌, Option, None, MatchOption, Ok, Err, refl}
use Rattle.bidtests.specs.JudgedSoFar.{Judging}
use Rattle.for_c.specs.Statuses.{ReturnsStatus, Outcome}
use Rattle.for_c.specs.declared.call_error.CallError.TheVariants.{NoJudge}
use Rattle.for_c.specs.declared.verdict.BidiVerdict.{BidiVerdict}
use Rattle.bidi_c.specs.ContentsIn.{judge_in}
use Rattle.bidi_c.specs.JudgesAt.{AtJudge, EndsJudge, Finishes, IsItsVerdict}
use Rattle.bidi_c.specs.declared.contents.Contents.{Contents}

module _ {IsSo : Judging → Judging → Type 0} where
  pub no_judge : {old new : Option Contents} {status : ℕ} → judge_in old ≡ None → new ≡ old → status ≡ 16 →
      ReturnsStatus (AtJudge IsSo old new) status
  no_judge none same coded = record { outcome = Err NoJudge; coded = coded; so = record { at = rw none (refl, same) } }

module _ {old new : Option Contents} {before after : BidiVerdict} {status : ℕ} where
  pub none_to_end : judge_in old ≡ None → new ≡ old → after ≡ before → status ≡ 16 →
      ReturnsStatus (EndsJudge old new before after) status
  none_to_end none same unchanged coded =
      record { outcome = Err NoJudge; coded = coded; so = record { at = rw none (refl, same, unchanged) } }
