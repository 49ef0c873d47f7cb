use Rattle.std.proofs.Common.{◌≡◌, ◌∙◌, ap, codes, refl}
use Rattle.std.proofs.lemmas.Result.{IfOk-weaker}
use Rattle.clap.specs.Simple.{app_of, app_of_fields, new_app}
use Rattle.command.proofs.Adding.{adds}
use Rattle.command.proofs.command_line.rows_command.Goals as goal

pub returns : goal.returns
returns c =
    let plain : app_of c.override_usage.result ≡ new_app (codes "rows") = ap app_of_fields c.override_usage.ensures ∙
    ap app_of_fields c.after_help.ensures
    ∙ ap app_of_fields c.long_about.ensures ∙ ap app_of_fields c.about.ensures ∙ c.new.ensures.app in
    let with_form = adds c.in_ok-arg.ensures plain c.choice_argument.ensures refl in
    let with_kind = adds c.in_ok-arg-2.ensures with_form c.choice_argument-2.ensures refl in
    let with_tables = adds c.in_ok-arg-3.ensures with_kind c.tables_argument.ensures refl in
    let with_built_in = adds c.in_ok-arg-4.ensures with_tables c.built_in_argument.ensures refl in
    let with_alphabet = adds c.in_ok-arg-5.ensures with_built_in c.option_argument.ensures refl in
    let with_length = adds c.in_ok-arg-6.ensures with_alphabet c.option_argument-2.ensures refl in
    let with_directions = adds c.in_ok-arg-7.ensures with_length c.directions_argument.ensures refl in
    let with_seed = adds c.in_ok-arg-8.ensures with_directions c.number_argument.ensures refl in
    let with_count = adds c.in_ok-arg-9.ensures with_seed c.number_argument-2.ensures refl in
    let with_of = adds c.in_ok-arg-10.ensures with_count c.option_argument-3.ensures refl in
    IfOk-weaker c.arg-11.result _ _ (λ command h. adds h with_of c.verbose_argument.ensures refl) c.arg-11.ensures
