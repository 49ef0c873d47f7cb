-- Stages that own their values, or that are constants.
use Rattle.ucdfiles.specs.Stages.{Stages}
use Rattle.ucdfiles.specs.declared.two_stage.TableStages.{TableStages}
use Rattle.ucdfiles.specs.declared.two_stage.TableStages.TheVariants.{Made, Constant}

-- the stages, owned or constant
abbrev pub stages_of : {V : Type 0} → TableStages V → Stages V
stages_of (Made stages) = stages
stages_of (Constant stages) = stages
