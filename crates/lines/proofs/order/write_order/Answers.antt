use Rattle.std.proofs.Common.{None, refl, sym, ap, subst, take, ◌-◌, ◌∙◌}
use Rattle.std.specs.Prelude.{IfSome, slice_range}
use Rattle.std.specs.Option.{is_some}
use Rattle.std.proofs.lemmas.List.Sums.{AllPass-from_list_all}
use Rattle.units.specs.Isolates.{level_of_para}
use Rattle.lines.specs.Spans.{IsSpanAtLevel}
use Rattle.lines.proofs.Uniform.{uniform-falling, uniform-rising}
use Rattle.lines.proofs.Whole.{all_in_line, whole-order}
use Rattle.lines.proofs.order.write_order.Goals as goal

pub returns-in-Zero-clause-order : goal.returns-in-Zero-clause-order
returns-in-Zero-clause-order g c =
    let line = c.args.line in
    let at : IsSpanAtLevel line (level_of_para c.in-Some.level) =
    subst (λ o. IfSome o (λ level. IsSpanAtLevel line (level_of_para level))) c.in-Some.is c.requires.uniform in
    c.write_each_rising.ensures.order
    ∙ sym (uniform-rising line.levels.now line.start line.end 0 line.forward refl
    (subst (IsSpanAtLevel line) (ap level_of_para c.in-Zero.is) at))

pub returns-in-One-clause-order : goal.returns-in-One-clause-order
returns-in-One-clause-order g c =
    let line = c.args.line in
    let at : IsSpanAtLevel line (level_of_para c.in-Some.level) =
    subst (λ o. IfSome o (λ level. IsSpanAtLevel line (level_of_para level))) c.in-Some.is c.requires.uniform in
    c.write_each_falling.ensures.order
    ∙ sym (uniform-falling line.levels.now line.start line.end 1 line.forward refl
    (subst (IsSpanAtLevel line) (ap level_of_para c.in-One.is) at))

pub returns-then-all_remain-clause-order : goal.returns-then-all_remain-clause-order
returns-then-all_remain-clause-order g c =
    let w = c.write_all in
    let line = c.args.line in
    let at : IsSpanAtLevel line (level_of_para c.in-Some.level) =
    subst (λ o. IfSome o (λ level. IsSpanAtLevel line (level_of_para level))) c.in-Some.is c.requires.uniform in
    whole-order line.levels.now line.start line.end c.in-Some.level (take (line.end - line.start) w.new.order)
    line.forward at
    (all_in_line line.levels.now line.start line.end line.within (λ k lt.
    AllPass-from_list_all is_some (slice_range line.levels.now line.start line.end)
    (sym c.all_remain.ensures.remain ∙ c.if-all_remain.true) k None lt))
    w.ensures.even w.ensures.odd
