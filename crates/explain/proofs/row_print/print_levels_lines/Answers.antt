use Rattle.std.proofs.Common.{ℕ, List, Option, OnOk, codes, subst}
use Rattle.std.specs.Io.KnownBytes.{Appends}
use Rattle.printing.specs.LevelsText.{level_text}
use Rattle.printing.proofs.Appending.{Appends-then}
use Rattle.rows.specs.RowTexts.{after_blanks}
use Rattle.explain.specs.RowTexts.{labelled_line}
use Rattle.explain.proofs.row_print.print_levels_lines.Goals as goal

pub returns : goal.returns
returns g c =
    let Defined : List (Option ℕ) → Type 0 = λ levels. OnOk c.print_levels_line-2.result
    (Appends (g.W.Write.contents c.print_levels_line.new.w) (g.W.Write.contents c.print_levels_line-2.new.w)
    (labelled_line (codes "defined levels") (after_blanks level_text levels))) in
    Appends-then _ _ _ _ (labelled_line (codes "claimed levels") (after_blanks level_text c.args.claimed.now)) _
    c.in_ok-print_levels_line.ensures
    (subst Defined c.levels.ensures c.print_levels_line-2.ensures)
