use Rattle.std.proofs.Common.{ap, subst, sym, ◌∙◌, ◌≡◌, ◌++◌, ℕ, false, true, Option, MatchOption, List, drop, length, map, take}
use Rattle.std.proofs.Math.Seq.{take-append_seam}
use Rattle.std.proofs.lemmas.List.{length-map}
use Rattle.units.specs.Classes.{classes_of}
use Rattle.units.specs.Isolates.{level_of_para}
use Rattle.units.specs.Layout.{resolved_levels}
use Rattle.units.specs.declared.bracket.Unit.{Unit as BidiUnit}
use Rattle.units.specs.declared.class.Class.{Class}
use Rattle.units.specs.declared.level.ParaLevel.{ParaLevel}
use Rattle.explicit.specs.Uniform.{level_unless_removed_at}
use Rattle.paragraph.specs.Contents.{IsUniformLevel, keeps_level, keeps_own}
use Rattle.paragraph.specs.Resolvers.{IsResolved}
use Rattle.paragraph.proofs.FlatLevels.{levels_are_unchanged, unchanged_stays}
use Rattle.paragraph.proofs.uniform.resolve_uniform.Goals as goal

-- the written front of the column
front_is : (us : List BidiUnit) (level : ℕ) (new rest : List (Option ℕ)) →
    new ≡ map (λ u. level_unless_removed_at level u.class) us → take (length us) (new ++ rest) ≡ new
front_is us level new rest written =
    let long : length new ≡ length us = ap length written ∙ length-map us (λ u. level_unless_removed_at level u.class)
    in
    ap (λ (n : ℕ). take n (new ++ rest)) (sym long) ∙ take-append_seam new rest

pub returns-clause-written : goal.returns-clause-written
returns-clause-written g c =
    let us : List BidiUnit = c.args.para.now in
    let level : ℕ = level_of_para c.in_ok-level.level in
    let written : c.write_level.new.levels ≡ map (λ (u : BidiUnit). level_unless_removed_at level u.class) us =
    c.write_level.ensures.levels ∙
    ap (λ (l : ℕ). map (λ (u : BidiUnit). level_unless_removed_at l u.class) us) c.level.ensures.value in
    front_is us level c.write_level.new.levels (drop (length us) c.args.levels.now) written ∙ written

pub returns-clause-resolved : goal.returns-clause-resolved
returns-clause-resolved g c = λ limits.
    let us : List BidiUnit = c.args.para.now in
    let cs : List Class = classes_of us in
    let new : List (Option ℕ) = c.write_level.new.levels in
    let P : Option ParaLevel → Type 0 =
    λ o. MatchOption o (keeps_own c.args.direction cs ≡ false) (IsUniformLevel c.args.direction cs) in
    let known : IsUniformLevel c.args.direction cs c.in_ok-level.level =
    subst P c.in_ok-level.was (c.uniform_level.ensures cs c.requires.contents) in
    let level : ℕ = level_of_para c.in_ok-level.level in
    let keeps = ap (λ (n : ℕ). keeps_level n cs) known.para ∙ known.keeps in
    let keep : BidiUnit → Option ℕ = λ u. level_unless_removed_at level u.class in
    let written : new ≡ map keep us =
    c.write_level.ensures.levels ∙
    ap (λ (l : ℕ). map (λ (u : BidiUnit). level_unless_removed_at l u.class) us) c.level.ensures.value in
    let front = front_is us level new (drop (length us) c.args.levels.now) written in
    subst (IsResolved limits us c.args.direction (record { level = c.in_ok-level.level; uniform = true })) (sym front)
    (record {
      level = known.para;
      levels = written ∙ levels_are_unchanged limits us level keeps ∙ ap (resolved_levels limits us) known.para;
      known = sym keeps;
      uniform = λ e. unchanged_stays us level new written;
    })
