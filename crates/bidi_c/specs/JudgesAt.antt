-- What a call does to the judge of a handle.
use Rattle.std.specs.Prelude.{◌≡◌, ℕ, Option, Some, None, IsSome, List, [], MatchOption, Ok, Err}
use Rattle.std.specs.Option.{option_map}
use Rattle.units.specs.Limits.{LimitsOf}
use Rattle.ucdfiles.specs.Tables.{TablesOf}
use Rattle.bidtests.specs.declared.kind.Kind.{Kind}
use Rattle.bidtests.specs.FileKinds.{verdict_of}
use Rattle.bidtests.specs.JudgedSoFar.{Judges, JudgesWith, Judging}
use Rattle.for_c.specs.Statuses.{Outcome, Puts}
use Rattle.for_c.specs.VerdictNumbers.{verdict_for_c}
use Rattle.for_c.specs.declared.call_error.CallError.TheVariants.{Memory, NoJudge}
use Rattle.for_c.specs.declared.verdict.BidiVerdict.{BidiVerdict}
use Rattle.bidi_c.specs.ContentsIn.{judge_in, tables_in, with_judge}
use Rattle.bidi_c.specs.Sharing.{RejectsSharing}
use Rattle.bidi_c.specs.declared.contents.Contents.{Contents}

-- a judge is in the handle, and `IsSo` holds of it
abbrev pub OfJudge : Option Contents → (Judging → Type 0) → Type 0
OfJudge contents IsSo = MatchOption (judge_in contents) ⊥ IsSo

-- the contents of a handle after a call that makes a judge with these tables, or without tables, and limits
abbrev pub MakesJudge : Option TablesOf → LimitsOf → Option Contents → Option Contents → Outcome → Type 0
MakesJudge tables limits old new outcome =
    Puts (λ contents. OfJudge contents (λ judge. JudgesWith limits tables judge [])) (λ error.
    error ≡ Memory) old new outcome

-- the contents of a handle after a call that makes a judge of a BidiCharacterTest.txt with these limits and the tables
-- of another handle, if that has tables
abbrev pub MakesTableJudge : Option Contents → LimitsOf → Option Contents → Option Contents → Outcome → Type 0
MakesTableJudge tables limits old new outcome =
    Puts (λ contents. IsSome (tables_in tables) ×
    OfJudge contents (λ judge. JudgesWith limits (tables_in tables) judge [])) (RejectsSharing tables) old new outcome

-- a call on the judge of a handle: it succeeds, `IsSo` holds of the judge before and after, and only the judge changes;
-- without a judge it fails, and the handle is unchanged
pub record AtJudge (IsSo : Judging → Judging →
    Type 0) (old new : Option Contents) (outcome : Outcome) : Type 0 where
  pub at : MatchOption (judge_in old) ((outcome ≡ Err NoJudge) × (new ≡ old))
      (λ judge. (outcome ≡ Ok tt) ×
      ((last : Judging) × (new ≡ option_map (λ contents. with_judge contents last) old) × IsSo judge last))

-- the numbers encode the verdict on all bytes that the judge has taken
abbrev pub IsItsVerdict : Judging → BidiVerdict → Type 0
IsItsVerdict judge numbers =
    (limits : LimitsOf) (kind : Kind) (bytes : List ℕ)
    → Judges limits kind judge bytes → numbers ≡ verdict_for_c (verdict_of limits kind bytes)

-- a call that ends the judge of a handle: it succeeds with the verdict, and the handle is empty; without a judge it
-- fails, and all is unchanged
pub record EndsJudge (old new : Option Contents) (before after : BidiVerdict) (outcome : Outcome) : Type 0 where
  pub at : MatchOption (judge_in old) ((outcome ≡ Err NoJudge) × (new ≡ old) × (after ≡ before))
      (λ judge. (outcome ≡ Ok tt) × (new ≡ None) × IsItsVerdict judge after)

-- a call that asks the judge of a handle for its verdict, and may change the judge: it succeeds; without a judge it
-- fails, and all is unchanged
pub record Finishes (old new : Option Contents) (before after : BidiVerdict) (outcome : Outcome) : Type 0 where
  pub at : MatchOption (judge_in old) ((outcome ≡ Err NoJudge) × (new ≡ old) × (after ≡ before))
      (λ judge. (outcome ≡ Ok tt) × IsItsVerdict judge after)
