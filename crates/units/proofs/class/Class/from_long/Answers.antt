use Rattle.std.proofs.Common.{rules, tests, ◌≡◌, sym, ◌∙◌}
use Rattle.std.specs.Option.{option_map}
use Rattle.std.proofs.lemmas.Iterator.{YieldsList-from_slice}
use Rattle.std.proofs.lemmas.Iterator.Adapters.{option_map_id}
use Rattle.std.proofs.lemmas.Iterator.Consumers.{YieldsList-from_copied}
use Rattle.std.proofs.lemmas.Iterator.Search.{find_from_yields_List}
use Rattle.units.specs.ClassNames.{is_long_name, class_of_long, classes}
use Rattle.units.proofs.class.Class.from_long.Goals as goal

pub returns : goal.returns
returns c =
    let found : option_map (λ x. x) c.find.result ≡ class_of_long c.args.name.now =
    find_from_yields_List (is_long_name c.args.name.now) _ _ c.find.result c.find.ensures.ran
    (YieldsList-from_copied (YieldsList-from_slice classes cc)) (λ x b q k. search (rules, tests)) in
    sym (option_map_id c.find.result) ∙ found
