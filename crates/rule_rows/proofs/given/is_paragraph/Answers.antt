use Rattle.std.proofs.Common.{sym, ◌∙◌}
use Rattle.std.proofs.lemmas.Bool.{not-true}
use Rattle.sequences.proofs.FilledFrom.{no_separator}
use Rattle.rule_rows.proofs.given.is_paragraph.Goals as goal

pub returns : goal.returns
returns c = λ t. no_separator c.args.units.now (sym c.has_separator.ensures ∙ not-true c.has_separator.result t)
