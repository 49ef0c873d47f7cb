-- Constants that pass these tests give the mirror images that the bytes of BidiMirroring.txt state.
use Rattle.std.proofs.Common.{◌≡◌, ◌≤◌, ◌==◌, ℕ, Bool, true, false, Option, None, Some, List, [], map, refl, sym, ap, ◌∙◌, eqb-true}
use Rattle.std.specs.List.{find}
use Rattle.std.specs.Option.{unwrap_or}
use Rattle.units.specs.Text.{lines_of}
use Rattle.ucdfiles.specs.declared.fault.Fault.TheVariants.{Twice}
use Rattle.ucdfiles.specs.declared.span.FileLine.{FileLine}
use Rattle.ucdfiles.specs.declared.span.Span.{Span}
use Rattle.ucdfiles.specs.Faults.{first_fault}
use Rattle.ucdfiles.specs.PairFiles.{pair_line_says, mirror_in, mirror_fault, StatesMirrors}
use Rattle.ucdfiles.specs.Spans.{holds, value_by, revalued}
use Rattle.ucdfiles.specs.Stages.{Stages, AreStages}
use Rattle.ucdfiles.specs.Statements.{data_of, defaults_of, Stated, AreStatedBy}
use Rattle.ucdfiles.specs.Tables.{mirror_by}
use Rattle.ucdfiles.proofs.States.{states-mirrors}
use Rattle.ucd_table.specs.Steps.{Step}
use Rattle.ucd_table.proofs.StepsLemmas.{rises_from, map_steps, step_value-map_steps}
use Rattle.table_constants.proofs.Faultless.{fine, fine-none}
use Rattle.table_constants.proofs.SpanSteps.{rows, span_steps, span_steps-give}
use Rattle.table_constants.proofs.StageCheck.{stages_ok, stages_ok-AreStages, stages_ok-stage_at}

unfoldable pub same_mirror : Option ℕ → Option ℕ → Bool
same_mirror None None = true
same_mirror None (Some y) = false
same_mirror (Some x) None = false
same_mirror (Some x) (Some y) = x == y

pub same_mirror-exact : (x y : Option ℕ) → same_mirror x y ≡ true → x ≡ y
unfolding same_mirror
same_mirror-exact None None h = refl
same_mirror-exact None (Some y) h = cc
same_mirror-exact (Some x) None h = cc
same_mirror-exact (Some x) (Some y) h = ap (λ n. Some n) (eqb-true x y h)

-- what the lines of the file state
unfoldable pub stated_mirrors : List ℕ → List (FileLine ℕ)
stated_mirrors bytes = map (pair_line_says mirror_in) (lines_of bytes)

-- the mirror images that the data lines state
abbrev pub images : List ℕ → List (Span (Option ℕ))
images bytes = map (revalued (λ (c : ℕ). Some c)) (data_of (stated_mirrors bytes))

-- the mirror images of the code points, as steps
abbrev pub mirror_steps : List ℕ → List (Step (Option ℕ))
mirror_steps bytes = map_steps (λ o. unwrap_or o None) (span_steps (images bytes))

-- the stages pass the tests for the bytes of the file
pub record AreMirrorConstants (bytes : List ℕ) (stages : Stages (Option ℕ)) : Type 0 where
  pub faultless : fine 0 0 0 (stated_mirrors bytes) ≡ true
  pub rising : rises_from 0 (rows (images bytes)) ≡ true
  pub agreeing : stages_ok same_mirror same_mirror-exact None stages.numbers stages.values (mirror_steps bytes) ≡ true

module _ (bytes : List ℕ) (stages : Stages (Option ℕ)) (tests : AreMirrorConstants bytes stages) where
  pub mirrors-AreStages : AreStages stages
  mirrors-AreStages = stages_ok-AreStages same_mirror same_mirror-exact None stages.numbers stages.values
      (mirror_steps bytes) tests.agreeing

  looks : (c : ℕ) → c ≤ 0x10FFFF → mirror_by stages c ≡ unwrap_or (value_by (find (holds c) (images bytes)) None) None
  unfolding mirror_by
  looks c le =
      stages_ok-stage_at same_mirror same_mirror-exact None stages.numbers stages.values
      (mirror_steps bytes) tests.agreeing c None le
      ∙ sym (ap (λ o. unwrap_or o None) (span_steps-give (images bytes) c tests.rising) ∙
      step_value-map_steps (λ (o : Option (Option ℕ)). unwrap_or o None) None (span_steps (images bytes)) c)

  abbrev stated : Stated ℕ
  stated = record { data_lines = data_of (stated_mirrors bytes); default_lines = defaults_of (stated_mirrors bytes) }

  represents : AreStatedBy (pair_line_says mirror_in) stated (lines_of bytes)
  unfolding stated_mirrors
  represents = record { finds = λ c. refl; meets = λ span. refl; counts = refl; defaults = refl }

  faultless_file : first_fault mirror_fault [] (lines_of bytes) ≡ None
  unfolding stated_mirrors
  faultless_file = fine-none (pair_line_says mirror_in) Twice (lines_of bytes) tests.faultless

  pub mirrors-StatesMirrors : StatesMirrors bytes (mirror_by stages)
  mirrors-StatesMirrors =
      states-mirrors bytes stated (images bytes) (mirror_by stages) faultless_file represents refl looks
