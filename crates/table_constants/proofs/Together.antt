-- The three tables together.
use Rattle.std.proofs.Common.{◌≡◌, ℕ, Option, List, sym, subst}
use Rattle.units.specs.declared.bracket.Bracket.{Bracket}
use Rattle.units.specs.declared.class.Class.{Class}
use Rattle.ucdfiles.specs.ClassFile.{StatesClasses}
use Rattle.ucdfiles.specs.PairFiles.{StatesBrackets, StatesMirrors}
use Rattle.ucdfiles.specs.Files.{StateTables}
use Rattle.ucdfiles.specs.Stages.{Stages}
use Rattle.ucdfiles.specs.Tables.{TablesOf, AreNeutral, class_by, bracket_by, mirror_by}

module _ (class_stages : Stages Class) (bracket_stages : Stages Bracket) where
  -- a property of the constants holds of the tables that are made from them
  pub AreNeutral-of : AreNeutral class_stages bracket_stages → (classes : Stages Class) (brackets : Stages Bracket) →
      classes ≡ class_stages → brackets ≡ bracket_stages → AreNeutral classes brackets
  AreNeutral-of neutral classes brackets of_classes of_brackets =
      subst (λ (t : Stages Class). AreNeutral t brackets) (sym of_classes) (subst (λ (t : Stages Bracket).
      AreNeutral class_stages t) (sym of_brackets) neutral)

  module _ (mirror_stages : Stages (Option ℕ)) (of_class of_bracket of_mirror : List ℕ) where
    pub StateTables-of : StateTables of_class of_bracket of_mirror (record {
      classes = class_stages;
      brackets =
          bracket_stages;
      mirrors = mirror_stages;
    })
        → (classes : Stages Class) (brackets : Stages Bracket) (mirrors : Stages (Option ℕ)) (tables : TablesOf)
        → classes ≡ class_stages → brackets ≡ bracket_stages → mirrors ≡ mirror_stages →
        tables ≡ record { classes = classes; brackets = brackets; mirrors = mirrors }
        → StateTables of_class of_bracket of_mirror tables
    StateTables-of state classes brackets mirrors tables of_classes of_brackets of_mirrors of_tables =
        subst (λ (t : TablesOf). StateTables of_class of_bracket of_mirror t) (sym of_tables) record {
          by_classes = subst (λ (t : Stages Class). StatesClasses of_class (class_by t))
              (sym of_classes) state.by_classes;
          by_brackets = subst (λ (t : Stages Bracket). StatesBrackets of_bracket (bracket_by t))
              (sym of_brackets) state.by_brackets;
          by_mirrors = subst (λ (t : Stages (Option ℕ)). StatesMirrors of_mirror (mirror_by t))
              (sym of_mirrors) state.by_mirrors;
        }
