use Rattle.std.proofs.Common.{◌∙◌, ap, length}
use Rattle.std.specs.Prelude.{Option, ℕ}
use Rattle.std.specs.Option.{unwrap_or}
use Rattle.std.specs.Str.{error_len, valid_up_to}
use Rattle.sources.proofs.FirstChars.{fault_at_front, no_text}
use Rattle.sources.proofs.splitting.fault_width.Goals as goal

pub returns-in-Ok : goal.returns-in-Ok
returns-in-Ok c = absurd (no_text c.args.bytes.now c.requires.some c.requires.none c.in-Ok.ensures.cases.1)

pub returns-in-Err-clause-width : goal.returns-in-Err-clause-width
returns-in-Err-clause-width c =
    let bytes = c.args.bytes.now in
    let error = c.in-Err.error in
    let same = fault_at_front bytes (valid_up_to error) (error_len error) c.requires.some c.requires.none
    c.in-Err.ensures.valid_len c.in-Err.ensures.fault in
    c.unwrap_or.ensures ∙ ap (λ (o : Option ℕ). unwrap_or o (length bytes)) (c.error_len.ensures ∙ same)
