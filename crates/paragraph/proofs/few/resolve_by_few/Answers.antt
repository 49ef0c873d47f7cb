use Rattle.std.proofs.Common.{arith, sym, subst, ap, ◌∙◌, ◌≡◌, ◌-◌, ◌++◌, ℕ, List, length, take, drop}
use Rattle.std.proofs.lemmas.List.{drop_all, length-drop, length-take-le, take_all}
use Rattle.units.specs.Classes.{classes_of}
use Rattle.units.specs.Isolates.{level_of_para}
use Rattle.units.specs.Layout.{resolved_levels}
use Rattle.units.specs.Runs.{direction_of}
use Rattle.units.specs.declared.bracket.Unit.{Unit as BidiUnit}
use Rattle.units.specs.declared.class.Class.{Class as BidiClass}
use Rattle.compress.specs.Laid.{AreFew, few_and_rest}
use Rattle.paragraph.proofs.FewLevels.{all_remain, few_levels}
use Rattle.paragraph.proofs.FlatLevels.{flat_from}
use Rattle.paragraph.proofs.few.resolve_by_few.Goals as goal

pub spread-requires-clause-all_remain : goal.spread-requires-clause-all_remain
spread-requires-clause-all_remain g c = λ remain.
    all_remain c.args.para.now.units.now
    (sym (c.all_remain.ensures (classes_of c.args.para.now.units.now) c.requires.contents) ∙ remain)

pub returns-clause-levels : goal.returns-clause-levels
returns-clause-levels g c = λ _.
    let us : List BidiUnit = c.args.para.now.units.now in
    let m : ℕ = c.squeeze-few.result.chosen in
    let end : ℕ = c.squeeze-few.result.end in
    let count : ℕ = c.in-Some.count in
    let few = c.squeeze-few.ensures.few in
    let direction = c.direction-direction.ensures ∙ ap (λ n. direction_of n) c.level.ensures.value in
    let appended : take count c.append_rest.new.chosen ≡ few_and_rest us c.squeeze-few.new.chosen m end =
    c.in-Some.ensures.appended ∙ ap (λ rest. take m c.squeeze-few.new.chosen ++ rest) (take_all (length us - end) (drop end us) (omega (arith, length-drop end us))) in
    let long = length-take-le (end - m) c.args.levels.now (omega (arith, few.laid.within, few.laid.end_within, c.requires.levels)) in
    let none = drop_all (length c.args.levels.now - (end - m)) (drop (end - m) c.args.levels.now) (omega (arith, length-drop (end - m) c.args.levels.now)) in
    c.spread.ensures.resolved c.args.para.now.limits (level_of_para c.args.level) c.squeeze-few.new.chosen (flat_from (classes_of us) c.requires.flat)
    (subst (λ (d : BidiClass). AreFew d us c.squeeze-few.new.chosen c.squeeze-few.new.starts m end) direction few)
    (few_levels (end - m) _ c.resolve_flat.new.levels _ _ long none
    (c.resolve_flat.ensures.levels ∙ ap (λ ws. resolved_levels c.args.para.now.limits ws (level_of_para c.args.level)) appended))
