use Rattle.std.proofs.Common.{◌≡◌, length}
use Rattle.ucdfiles.proofs.Staging.{AreStagesUpTo}
use Rattle.ucdfiles.proofs.two_stage.TwoStage.new.Given as goal

abbrev pub invariant-loop-n : goal.invariant-loop-n
invariant-loop-n g l = AreStagesUpTo l.n l.spans l.defaults l.none l.numbers.items l.values.items ×
    (length l.block ≡ 128)
