use Rattle.std.proofs.Common.{◌≡◌, ◌∙◌, ap, codes, refl}
use Rattle.std.proofs.lemmas.Result.{IfOk-weaker}
use Rattle.clap.specs.Simple.{app_of, app_of_fields, new_app}
use Rattle.command.proofs.Adding.{adds}
use Rattle.command.proofs.command_line.report_command.Goals as goal

pub returns : goal.returns
returns c =
    let plain : app_of c.override_usage.result ≡ new_app (codes "report") = ap app_of_fields c.override_usage.ensures ∙
    ap app_of_fields c.after_help.ensures
    ∙ ap app_of_fields c.long_about.ensures ∙ ap app_of_fields c.about.ensures ∙ c.new.ensures.app in
    let with_kind = adds c.in_ok-arg.ensures plain c.kind_argument.ensures refl in
    let with_tables = adds c.in_ok-arg-2.ensures with_kind c.tables_argument.ensures refl in
    let with_built_in = adds c.in_ok-arg-3.ensures with_tables c.built_in_argument.ensures refl in
    let with_most = adds c.in_ok-arg-4.ensures with_built_in c.number_argument.ensures refl in
    let with_order = adds c.in_ok-arg-5.ensures with_most c.flag_argument.ensures refl in
    let with_shown = adds c.in_ok-arg-6.ensures with_order c.flag_argument-2.ensures refl in
    let with_file = adds c.in_ok-arg-7.ensures with_shown c.file_argument.ensures refl in
    IfOk-weaker c.arg-8.result _ _ (λ command h. adds h with_file c.verbose_argument.ensures refl) c.arg-8.ensures
