use Rattle.std.proofs.Common.{◌≡◌, true, codes, ap, ◌∙◌}
use Rattle.clap.specs.Simple.{app_of, app_of_fields, new_app, on_top}
use Rattle.command.proofs.command_line.bidi_alone.Goals as goal

pub returns : goal.returns
returns c =
    let named : app_of c.after_help.result ≡ new_app (codes "bidi") = ap app_of_fields c.after_help.ensures
    ∙ ap app_of_fields c.long_about.ensures ∙ ap app_of_fields c.about.ensures ∙ c.new.ensures.app in
    let versioned : app_of c.version.result ≡ on_top (λ s. record s { has_version = true }) (new_app (codes "bidi")) =
    ap app_of_fields c.version.ensures ∙ ap (on_top (λ s. record s { has_version = true })) named in
    ap app_of_fields c.subcommand_required.ensures ∙
    ap (on_top (λ s. record s { subcommand_required = true })) versioned
