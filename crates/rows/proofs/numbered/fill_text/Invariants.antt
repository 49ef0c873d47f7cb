use Rattle.rows.proofs.FilledText.{IsFilledBy}
use Rattle.rows.proofs.numbered.fill_text.Given as goal

abbrev pub invariant-loop-done : goal.invariant-loop-done
invariant-loop-done l = IsFilledBy l.alphabet l.text l.len l.number l.done l.rest
