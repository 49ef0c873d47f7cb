use Rattle.std.proofs.Common.{drop}
use Rattle.sources.proofs.FirstChars.{utf16_rest}
use Rattle.sources.proofs.splitting.first_of_utf16.Goals as goal

pub returns-clause-rest : goal.returns-clause-rest
returns-clause-rest c =
    utf16_rest c.args.text.now (drop c.char_at-found.result.1 c.args.text.now) c.char_at-found.result.0
    c.char_at-found.ensures.first
