use Rattle.std.proofs.Common.{◌≡◌, option_map, refl, sym, ap, ◌∙◌}
use Rattle.std.specs.List.{slice_get}
use Rattle.std.proofs.lemmas.Iterator.Consumers.{YieldsList-from_first, nth_from_yields_List}
use Rattle.report.specs.Comparing.{remaining_order}
use Rattle.report.specs.WrongCases.{position_item}
use Rattle.report.proofs.row_cases.position_at.Goals as goal

pub returns-in-None : goal.returns-in-None
returns-in-None c =
    let read : option_map (λ p. p) c.nth.result ≡ slice_get (remaining_order c.args.order) c.args.index =
    nth_from_yields_List c.nth.result c.nth.new.self c.args.index c.nth.ensures.ran (YieldsList-from_first (λ p.
    p) remaining_order (remaining_order c.args.order) refl) in
    ap position_item (sym (ap (option_map (λ p. p)) c.in-None.is) ∙ read)

pub returns-in-Some : goal.returns-in-Some
returns-in-Some c =
    let read : option_map (λ p. p) c.nth.result ≡ slice_get (remaining_order c.args.order) c.args.index =
    nth_from_yields_List c.nth.result c.nth.new.self c.args.index c.nth.ensures.ran (YieldsList-from_first (λ p.
    p) remaining_order (remaining_order c.args.order) refl) in
    ap position_item (sym (ap (option_map (λ p. p)) c.in-Some.is) ∙ read)
