use Rattle.std.proofs.Common.{arith, None, subst, take, true, ◌≡◌, ◌-◌, ◌∙◌}
use Rattle.std.specs.List.{list_all}
use Rattle.std.specs.Prelude.{IfSome, slice_range}
use Rattle.std.specs.Option.{is_some}
use Rattle.std.proofs.lemmas.List.Sums.{AllPass-from_list_all}
use Rattle.units.specs.Isolates.{level_of_para}
use Rattle.lines.specs.Spans.{IsSpanAtLevel}
use Rattle.lines.proofs.LineParts.{order_of_one}
use Rattle.lines.proofs.Whole.{all_in_line, whole-order}
use Rattle.lines.proofs.order.write_known_order.Goals as goal

pub returns-in-Some-clause-order : goal.returns-in-Some-clause-order
returns-in-Some-clause-order g c =
    let w = c.write_all in
    let line = c.args.line in
    let at : IsSpanAtLevel line (level_of_para c.in-Some.level) =
    subst (λ o. IfSome o (λ level. IsSpanAtLevel line (level_of_para level))) c.in-Some.is c.requires.uniform in
    let all : list_all is_some (slice_range line.levels.now line.start line.end) ≡ true =
    subst (λ o. IfSome o (λ _. c.args.complete ≡ true →
    list_all is_some (slice_range line.levels.now line.start line.end) ≡ true)) c.in-Some.is c.requires.complete
    c.if-complete.true in
    whole-order line.levels.now line.start line.end c.in-Some.level (take (line.end - line.start) w.new.order)
    line.forward at
    (all_in_line line.levels.now line.start line.end line.within (λ k lt.
    AllPass-from_list_all is_some (slice_range line.levels.now line.start line.end) all k None lt))
    w.ensures.even w.ensures.odd

pub returns-in-Some-2-clause-order : goal.returns-in-Some-2-clause-order
returns-in-Some-2-clause-order g c =
    let line = c.args.line in
    let at : IsSpanAtLevel line (level_of_para c.in-Some-2.field-0) =
    subst (λ o. IfSome o (λ level. IsSpanAtLevel line (level_of_para level))) c.in-Some-2.is c.requires.uniform in
    c.write_each_rising.ensures.order ∙
    order_of_one line.levels.now line.start line.end c.in-Some-2.field-0 line.forward (omega arith) at
