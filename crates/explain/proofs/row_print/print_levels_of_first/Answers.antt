use Rattle.std.proofs.Common.{◌∙◌, ℕ, Option, Some, OnOk, ap, codes, subst}
use Rattle.std.specs.Io.KnownBytes.{Appends}
use Rattle.units.specs.Isolates.{level_of_para}
use Rattle.bidtests.specs.Verdicts.{first_of}
use Rattle.printing.proofs.Appending.{Appends-then}
use Rattle.explain.specs.RowTexts.{para_text, labelled_line}
use Rattle.explain.proofs.row_print.print_levels_of_first.Goals as goal

pub returns : goal.returns
returns g c =
    let Defined : Option ℕ → Type 0 = λ level. OnOk c.print_level_line-2.result
    (Appends (g.W.Write.contents c.print_level_line.new.w) (g.W.Write.contents c.print_level_line-2.new.w)
    (labelled_line (codes "defined paragraph level") (para_text level))) in
    let is = c.first_level-defined.ensures ∙ ap first_of c.para_levels.ensures in
    Appends-then _ _ _ _ (labelled_line (codes "claimed paragraph level")
    (para_text (Some (level_of_para c.args.claimed)))) _ c.in_ok-print_level_line.ensures
    (subst Defined is c.print_level_line-2.ensures)
