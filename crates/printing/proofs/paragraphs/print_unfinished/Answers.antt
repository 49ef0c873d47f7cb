use Rattle.std.proofs.Common.{subst}
use Rattle.std.specs.Prelude.{OnOk}
use Rattle.std.specs.Io.KnownBytes.{Appends}
use Rattle.printing.proofs.UnderWay.{printed_after_is}
use Rattle.printing.proofs.paragraphs.print_unfinished.Goals as goal

pub returns-clause-printed : goal.returns-clause-printed
returns-clause-printed g c =
    let settings = c.args.settings.now in
    subst (λ text. OnOk c.print_as-printed.result (Appends (g.W.Write.contents c.args.w.now)
    (g.W.Write.contents c.print_as-printed.new.w) text))
    (printed_after_is settings.form _ settings.tables.now _ _ settings.direction c.requires.units)
    c.print_as-printed.ensures.printed
