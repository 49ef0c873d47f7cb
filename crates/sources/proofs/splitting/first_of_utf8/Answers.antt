use Rattle.sources.proofs.FirstChars.{some_width, utf8_first, utf8_rest}
use Rattle.sources.proofs.splitting.first_of_utf8.Goals as goal

pub returns-clause-first : goal.returns-clause-first
returns-clause-first c =
    utf8_first c.args.bytes.now c.known_char_at.result.0 c.known_char_at.result.1 c.requires.well_formed
    c.known_char_at.ensures

pub returns-clause-rest : goal.returns-clause-rest
returns-clause-rest c =
    utf8_rest c.args.bytes.now c.known_char_at.result.0 c.known_char_at.result.1 c.requires.well_formed
    c.known_char_at.ensures

pub returns-clause-forward : goal.returns-clause-forward
returns-clause-forward c =
    some_width c.args.bytes.now c.known_char_at.result.0 c.known_char_at.result.1 c.known_char_at.ensures
