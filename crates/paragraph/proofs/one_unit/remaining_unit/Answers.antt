use Rattle.std.proofs.Common.{ap, subst, ◌∙◌, ◌≡◌, ℕ, false, Option, MatchOption, List, [], ◌∷◌}
use Rattle.units.specs.Isolates.{para_level_of}
use Rattle.units.specs.declared.bracket.Unit.{Unit as BidiUnit}
use Rattle.units.specs.declared.class.Class.{Class}
use Rattle.units.specs.declared.level.ParaLevel.{ParaLevel}
use Rattle.explicit.specs.Uniform.{level_unless_removed_at}
use Rattle.paragraph.specs.Contents.{IsUniformLevel, keeps_own}
use Rattle.paragraph.proofs.FlatLevels.{levels_are_unchanged}
use Rattle.paragraph.proofs.one_unit.remaining_unit.Goals as goal

pub returns : goal.returns
returns c =
    let cs : List Class = c.args.unit.class ∷ [] in
    let units : List BidiUnit = c.args.unit ∷ [] in
    let P : Option ParaLevel → Type 0 =
    λ o. MatchOption o (keeps_own c.args.direction cs ≡ false) (IsUniformLevel c.args.direction cs) in
    let known : IsUniformLevel c.args.direction cs c.in_ok-para.para =
    subst P c.in_ok-para.was (c.uniform_level.ensures cs c.of_class.ensures) in
    record {
      keeps = known.keeps;
      para = known.para;
      levels = λ limits.
          ap (λ level. level ∷ []) (c.level_unless_removed_at-level.ensures ∙
          ap (λ (level : ℕ). level_unless_removed_at level c.args.unit.class) (c.level.ensures.value ∙ known.para))
          ∙ levels_are_unchanged limits units (para_level_of cs c.args.direction) known.keeps;
    }
