use Rattle.std.proofs.Common.{rules, ap, sym, ◌∙◌, ℕ, List, map}
use Rattle.std.proofs.lemmas.Bool.{false≢true}
use Rattle.units.specs.Classes.{classes_of}
use Rattle.units.specs.Isolates.{level_of_para}
use Rattle.units.specs.Layout.{resolved_levels}
use Rattle.units.specs.declared.bracket.Unit.{Unit as BidiUnit}
use Rattle.units.specs.declared.class.Class.{Class}
use Rattle.explicit.specs.Uniform.{level_unless_removed_at}
use Rattle.paragraph.proofs.FlatLevels.{unchanged_stays, levels_are_unchanged}
use Rattle.paragraph.proofs.LeftToRight.{keeping, keeping_not_level}
use Rattle.paragraph.proofs.resolver.Resolver.resolve_known.Goals as goal

pub returns-then-keeps_explicit-clause-resolved : goal.returns-then-keeps_explicit-clause-resolved
returns-then-keeps_explicit-clause-resolved g c =
    let cs : List Class = classes_of c.args.para.now in
    let para = c.resolve_left_to_right.ensures.para_level in
    let keeps = sym (c.keeps_explicit.ensures cs c.requires.contents) ∙ c.if-keeps_explicit.true in
    record {
      level = sym para;
      levels = c.resolve_left_to_right.ensures.levels ∙
          ap (resolved_levels c.args.limits c.args.para.now) (sym para);
      known = sym (keeping_not_level c.args.direction cs 0 (keeping c.args.direction cs keeps));
      uniform = λ e. absurd (false≢true e);
    }

pub returns-then-keeps-clause-resolved : goal.returns-then-keeps-clause-resolved
returns-then-keeps-clause-resolved g c =
    let level : ℕ = level_of_para c.find_level-level.result in
    let keeps = c.keeps.ensures (classes_of c.args.para.now) c.requires.contents in
    let written = c.write_level.ensures.levels ∙
    ap (λ (l : ℕ). map (λ (u : BidiUnit). level_unless_removed_at l u.class) c.args.para.now) c.level.ensures.value
    in
    record {
      level = c.find_level-level.ensures.level;
      levels =
          written
          ∙ levels_are_unchanged c.args.limits c.args.para.now level (sym keeps ∙ c.if-keeps.true)
          ∙ ap (resolved_levels c.args.limits c.args.para.now) c.find_level-level.ensures.level;
      known = sym c.if-keeps.true ∙ keeps;
      uniform = λ e. unchanged_stays c.args.para.now level c.write_level.new.levels written;
    }

pub returns-clause-resolved : goal.returns-clause-resolved
returns-clause-resolved g c = record {
  level = c.find_level-level.ensures.level;
  levels = c.resolve_at.ensures.levels ∙ ap (resolved_levels c.args.limits c.args.para.now)
      c.find_level-level.ensures.level;
  known = search rules;
  uniform = search rules;
}
