use Rattle.std.proofs.Common.{Some, ap, sym, ◌∙◌}
use Rattle.lines.specs.Layouts.{view_of}
use Rattle.bidtests.specs.Readings.{expected_of}
use Rattle.report.specs.WrongCases.{level_item}
use Rattle.report.proofs.ReadLevels.{level-claimed}
use Rattle.report.proofs.row_cases.expected_item.Goals as goal

pub returns-in-Levels : goal.returns-in-Levels
returns-in-Levels c =
    rw c.in-Levels.is (c.level_at.ensures ∙
    ap level_item (sym (level-claimed c.args.leniency (view_of c.args.layout.now)
    (expected_of c.args.expected) c.in-Levels.index
    (c.requires ∙ ap (λ place. Some place) c.in-Levels.is))))
