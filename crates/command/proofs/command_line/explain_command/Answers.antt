use Rattle.std.proofs.Common.{◌≡◌, ◌∙◌, ap, codes, false, refl}
use Rattle.std.proofs.lemmas.Result.{IfOk-weaker}
use Rattle.clap.specs.Simple.{app_of, app_of_fields, new_app}
use Rattle.clap.specs.Walk.{Rule, rule_of}
use Rattle.command.proofs.Adding.{adds}
use Rattle.command.proofs.command_line.explain_command.Goals as goal

pub returns : goal.returns
returns c =
    let plain : app_of c.override_usage.result ≡ new_app (codes "explain") = ap app_of_fields c.override_usage.ensures ∙
    ap app_of_fields c.after_help.ensures
    ∙ ap app_of_fields c.long_about.ensures ∙ ap app_of_fields c.about.ensures ∙ c.new.ensures.app in
    let with_tables = adds c.in_ok-arg.ensures plain c.tables_argument.ensures refl in
    let with_built_in = adds c.in_ok-arg-2.ensures with_tables c.built_in_argument.ensures refl in
    let with_classes = adds c.in_ok-arg-3.ensures with_built_in c.option_argument.ensures refl in
    let with_codes = adds c.in_ok-arg-4.ensures with_classes c.option_argument-2.ensures refl in
    let with_row = adds c.in_ok-arg-5.ensures with_codes c.row_argument.ensures refl in
    let with_kind = adds c.in_ok-arg-6.ensures with_row c.choice_argument.ensures refl in
    let with_direction = adds c.in_ok-arg-7.ensures with_kind c.choice_argument-2.ensures refl in
    let file = ap rule_of c.required.ensures ∙
    ap (λ (r : Rule). record r { required = false }) c.file_argument.ensures in
    let with_file = adds c.in_ok-arg-8.ensures with_direction file refl in
    IfOk-weaker c.arg-9.result _ _ (λ command h. adds h with_file c.verbose_argument.ensures refl) c.arg-9.ensures
