-- Constants that pass these tests give the classes that the bytes of DerivedBidiClass.txt state.
use Rattle.std.proofs.Common.{◌≡◌, ◌≤◌, ◌==◌, ℕ, Bool, true, Option, None, List, [], ◌∷◌, map, reverse, refl, sym, ap, ◌∙◌, eqb-true}
use Rattle.std.specs.Option.{unwrap_or}
use Rattle.std.specs.Prelude.{slice_index_or}
use Rattle.units.specs.Text.{lines_of}
use Rattle.units.specs.declared.class.Class.{Class}
use Rattle.units.specs.declared.class.Class.TheVariants.{L, R, AL, EN, ES, ET, AN, CS, NSM, BN, B, S, WS, ON, LRE, LRO, RLE, RLO, PDF, LRI, RLI, FSI, PDI}
use Rattle.ucdfiles.specs.declared.fault.Fault.TheVariants.{Overlap}
use Rattle.ucdfiles.specs.declared.span.FileLine.{FileLine}
use Rattle.ucdfiles.specs.ClassFile.{class_line_says, class_fault, StatesClasses}
use Rattle.ucdfiles.specs.Faults.{first_fault}
use Rattle.ucdfiles.specs.Spans.{value_in}
use Rattle.ucdfiles.specs.Stages.{Stages, AreStages}
use Rattle.ucdfiles.specs.Statements.{data_of, defaults_of, Stated, AreStatedBy}
use Rattle.ucdfiles.specs.Tables.{class_by}
use Rattle.ucdfiles.proofs.States.{states-classes}
use Rattle.ucd_table.specs.Steps.{Step, step_value}
use Rattle.ucd_table.proofs.StepsLemmas.{rises_from, map_steps, step_value-map_steps}
use Rattle.table_constants.proofs.Faultless.{fine, fine-none}
use Rattle.table_constants.proofs.SpanSteps.{rows, each_straight, stated_steps, stated_steps-give}
use Rattle.table_constants.proofs.StageCheck.{stages_ok, stages_ok-AreStages, stages_ok-stage_at}

abbrev pub class_number : Class → ℕ
class_number L = 0
class_number R = 1
class_number AL = 2
class_number EN = 3
class_number ES = 4
class_number ET = 5
class_number AN = 6
class_number CS = 7
class_number NSM = 8
class_number BN = 9
class_number B = 10
class_number S = 11
class_number WS = 12
class_number ON = 13
class_number LRE = 14
class_number LRO = 15
class_number RLE = 16
class_number RLO = 17
class_number PDF = 18
class_number LRI = 19
class_number RLI = 20
class_number FSI = 21
class_number PDI = 22

abbrev pub class_numbered : ℕ → Class
class_numbered n = slice_index_or (L ∷ R ∷ AL ∷ EN ∷ ES ∷ ET ∷ AN ∷ CS ∷ NSM ∷ BN ∷ B ∷ S ∷ WS ∷ ON ∷ LRE ∷ LRO ∷ RLE ∷
    RLO ∷ PDF ∷ LRI ∷ RLI ∷ FSI ∷ PDI ∷ []) n L

class_back : (c : Class) → class_numbered (class_number c) ≡ c
class_back L = refl
class_back R = refl
class_back AL = refl
class_back EN = refl
class_back ES = refl
class_back ET = refl
class_back AN = refl
class_back CS = refl
class_back NSM = refl
class_back BN = refl
class_back B = refl
class_back S = refl
class_back WS = refl
class_back ON = refl
class_back LRE = refl
class_back LRO = refl
class_back RLE = refl
class_back RLO = refl
class_back PDF = refl
class_back LRI = refl
class_back RLI = refl
class_back FSI = refl
class_back PDI = refl

abbrev pub same_class : Class → Class → Bool
same_class x y = class_number x == class_number y

pub same_class-exact : (x y : Class) → same_class x y ≡ true → x ≡ y
same_class-exact x y h = sym (class_back x) ∙ ap class_numbered (eqb-true _ _ h) ∙ class_back y

-- what the lines of the file state
unfoldable pub stated_classes : List ℕ → List (FileLine Class)
stated_classes bytes = map class_line_says (lines_of bytes)

-- the classes of the code points, as steps
abbrev pub class_steps : List ℕ → List (Step Class)
class_steps bytes = map_steps (λ o.
    unwrap_or o L) (stated_steps (data_of (stated_classes bytes)) (defaults_of (stated_classes bytes)))

-- the stages pass the tests for the bytes of the file
pub record AreClassConstants (bytes : List ℕ) (stages : Stages Class) : Type 0 where
  pub faultless : fine 0 0 0 (stated_classes bytes) ≡ true
  pub rising : rises_from 0 (rows (data_of (stated_classes bytes))) ≡ true
  pub straight : each_straight (reverse (defaults_of (stated_classes bytes))) ≡ true
  pub agreeing : stages_ok same_class same_class-exact L stages.numbers stages.values (class_steps bytes) ≡ true

module _ (bytes : List ℕ) (stages : Stages Class) (tests : AreClassConstants bytes stages) where
  pub classes-AreStages : AreStages stages
  classes-AreStages = stages_ok-AreStages same_class same_class-exact L stages.numbers stages.values
      (class_steps bytes) tests.agreeing

  pub classes-steps : (c : ℕ) → c ≤ 0x10FFFF → class_by stages c ≡ step_value L (class_steps bytes) c
  unfolding class_by
  classes-steps c le =
      stages_ok-stage_at same_class same_class-exact L stages.numbers stages.values
      (class_steps bytes) tests.agreeing c L le

  looks : (c : ℕ) → c ≤ 0x10FFFF →
      class_by stages c ≡ unwrap_or (value_in (data_of (stated_classes bytes)) (defaults_of (stated_classes bytes)) c) L
  looks c le =
      let data_lines = data_of (stated_classes bytes) in
      let default_lines = defaults_of (stated_classes bytes) in
      classes-steps c le
      ∙ sym (ap (λ o. unwrap_or o L) (stated_steps-give data_lines default_lines c tests.rising tests.straight) ∙
      step_value-map_steps (λ (o : Option Class). unwrap_or o L) None (stated_steps data_lines default_lines) c)

  abbrev stated : Stated Class
  stated = record { data_lines = data_of (stated_classes bytes); default_lines = defaults_of (stated_classes bytes) }

  represents : AreStatedBy class_line_says stated (lines_of bytes)
  unfolding stated_classes
  represents = record { finds = λ c. refl; meets = λ span. refl; counts = refl; defaults = refl }

  faultless_file : first_fault class_fault [] (lines_of bytes) ≡ None
  unfolding stated_classes
  faultless_file = fine-none class_line_says Overlap (lines_of bytes) tests.faultless

  pub classes-StatesClasses : StatesClasses bytes (class_by stages)
  classes-StatesClasses = states-classes bytes stated (class_by stages) faultless_file represents looks
