-- The result of adding arguments and subcommands to a command.
use Rattle.std.proofs.Common.{◌≡◌, ◌∙◌, false, true, ap, ap₂, is_some, not}
use Rattle.clap.specs.Built.{AddsArg, AddsSubcommand}
use Rattle.clap.specs.Simple.{App, app_of, with_rule, with_subcommand}
use Rattle.clap.specs.Walk.{Rule, is_empty, is_simple_arg, rule_of}
use Rattle.clap.specs.declared.builder.arg.Arg.{Arg}
use Rattle.clap.specs.declared.builder.command.Command.{Command}
use Rattle.clap.proofs.SimpleLemmas.{is_false, plain_fields}
use Rattle.clap.proofs.WalkLemmas.{both}

-- an argument that is simple is not global
local : (a : Arg) → is_simple_arg a ≡ true → a.global ≡ false
local a e =
    let p = both (is_empty a.overrides.items) _ e in
    let q = both (is_empty a.default_vals_ifs.items) _ p.1 in
    let r = both (is_empty a.groups.items) _ q.1 in
    let s = both (not (is_some a.val_delim)) _ r.1 in
    let t = both (not (is_some a.terminator)) _ s.1 in
    let u = both (not a.allow_hyphen_values) _ t.1 in
    let v = both (not a.allow_negative_numbers) _ u.1 in
    let w = both (not a.require_equals) _ v.1 in
    is_false _ (both (not a.last) _ w.1).1

-- with an argument of a simple rule
pub adds : {old new : Command} {a : Arg} {app : App} {rule : Rule} → AddsArg old a new → app_of old ≡ app →
    rule_of a ≡ rule
    → rule.is_simple ≡ true → app_of new ≡ with_rule app rule
adds {a = a} h is by simple = h.shape (local a (ap (λ (r : Rule). r.is_simple) by ∙ simple)) ∙ ap₂ with_rule is by

-- with a subcommand of plain settings
pub meets : {old made new : Command} {app sub : App} → AddsSubcommand old made new → app_of old ≡ app →
    app_of made ≡ sub
    → sub.top.is_plain ≡ true → app_of new ≡ with_subcommand app sub.top
meets {made = made} h is by plain =
    h.shape (plain_fields made (ap (λ (a : App). a.top.is_plain) by ∙ plain)).globals ∙
    ap₂ with_subcommand is (ap (λ (a : App). a.top) by)
