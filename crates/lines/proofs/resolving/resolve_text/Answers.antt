use Rattle.std.proofs.Common.{subst, sym, ℕ, List}
use Rattle.lines.specs.ResolvedTexts.{IsResolved, one_line}
use Rattle.lines.proofs.resolving.resolve_text.Goals as goal

pub returns-then-resolve_paragraph-clause-resolved : goal.returns-then-resolve_paragraph-clause-resolved
returns-then-resolve_paragraph-clause-resolved g c =
    let unbroken = c.is_one_line.ensures c.if-is_one_line.true in
    let P : List ℕ → Type 0 =
    λ at. IsResolved c.args.options.now.limits c.args.text.now c.args.options.now.direction at one_line
    c.resolve_paragraph.new.columns c.resolve_paragraph.new.bounds in
    subst P (sym unbroken.no_break)
    (c.resolve_paragraph.ensures.resolved c.if-resolve_paragraph.true c.args.options.now.limits)
