use Rattle.std.proofs.Common.{ap, map, refl}
use Rattle.std.proofs.lemmas.Result.{IfOk-weaker}
use Rattle.command.proofs.Adding.{meets}
use Rattle.command.proofs.command_line.bidi_command.Goals as goal

pub returns : goal.returns
returns c =
    let with_levels = meets c.in_ok-subcommand.ensures c.bidi_alone.ensures c.in_ok-levels_command.ensures refl in
    let with_reorder = meets c.in_ok-subcommand-2.ensures with_levels c.in_ok-reorder_command.ensures refl in
    let with_explain = meets c.in_ok-subcommand-3.ensures with_reorder c.in_ok-explain_command.ensures refl in
    let with_judge = meets c.in_ok-subcommand-4.ensures with_explain c.in_ok-judge_command.ensures refl in
    let with_report = meets c.in_ok-subcommand-5.ensures with_judge c.in_ok-report_command.ensures refl in
    IfOk-weaker c.subcommand-6.result _ _ (λ command h. record {
      choices = record {
        directions = c.as_slice-directions.result;
        kinds = c.as_slice-kinds.result;
        forms =
            c.as_slice-forms.result;
      };
      directions = ap (map (λ word. word.now)) c.as_slice-directions.ensures;
      kinds = ap (map (λ word. word.now)) c.as_slice-kinds.ensures;
      forms = ap (map (λ word. word.now)) c.as_slice-forms.ensures;
      is = meets h with_report c.in_ok-rows_command.ensures refl;
    }) c.subcommand-6.ensures
