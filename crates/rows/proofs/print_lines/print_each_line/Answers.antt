use Rattle.std.proofs.Common.{◌≡◌, ◌∙◌, ◌<◌, ap, length, refl, rules, subst, sym}
use Rattle.std.specs.Prelude.{filter}
use Rattle.std.specs.List.{All}
use Rattle.std.proofs.lemmas.List.Elements.{All-cons, All-nil}
use Rattle.units.specs.Limits.{standard}
use Rattle.printing.proofs.Appending.{Appends-to}
use Rattle.printing.proofs.Passing.{nothing_passed, one_more_passed, all_passed}
use Rattle.rows.specs.Placing.{has_some}
use Rattle.rows.specs.TextLines.{cases_of_line, kind_of, row_lines, text_lines}
use Rattle.rows.proofs.JoinedTexts.{text-joined}
use Rattle.rows.proofs.LineLists.{IsRowLine, empty-line, remaining_lines, none-longer, same-passed, short-first, some-line}
use Rattle.rows.proofs.RoomsUnchanged.{room-unchanged, room-still}
use Rattle.rows.proofs.RowTextsOf.{lines-right}
use Rattle.rows.proofs.print_lines.print_each_line.Goals as goal

pub loop-remaining-init : goal.loop-remaining-init
loop-remaining-init g c = record {
  passed = nothing_passed _ _ _;
  short = none-longer 1 (text_lines c.args.text.now) c.requires.short;
  rows = λ all. all;
  room = room-unchanged _;
  size = refl;
}

pub print_line-requires-clause-short : goal.print_line-requires-clause-short
print_line-requires-clause-short g c =
    let coming = ap remaining_lines c.in-Some.is ∙ c.cut_line.ensures.lines in
    (short-first c.cut_line.result.0.now _ _ coming c.loop-remaining.invariant.short).0

pub loop-remaining-preserved-in_ok-print_line : goal.loop-remaining-preserved-in_ok-print_line
loop-remaining-preserved-in_ok-print_line g c =
    let line = c.cut_line.result.0.now in
    let more = remaining_lines c.cut_line.result.1 in
    let coming = ap remaining_lines c.in-Some.is ∙ c.cut_line.ensures.lines in
    let some : 0 < length line = search rules in
    let next = some-line line _ more coming some in
    record {
      passed = one_more_passed _ _ _ _ _ _ _ _ next c.loop-remaining.invariant.passed
          c.in_ok-print_line.ensures.printed;
      short = (short-first line _ more coming c.loop-remaining.invariant.short).1;
      rows = λ all. c.loop-remaining.invariant.rows (subst (All (IsRowLine c.args.naming)) (sym next)
          (All-cons (IsRowLine c.args.naming) line (filter has_some more) c.print_line.ensures.right all));
      room = room-still _ _ _ c.loop-remaining.invariant.room c.print_line.ensures.room;
      size = c.print_line.ensures.row ∙ c.loop-remaining.invariant.size;
    }

pub loop-remaining-preserved : goal.loop-remaining-preserved
loop-remaining-preserved g c =
    let line = c.cut_line.result.0.now in
    let more = remaining_lines c.cut_line.result.1 in
    let coming = ap remaining_lines c.in-Some.is ∙ c.cut_line.ensures.lines in
    let none : length line ≡ 0 = search rules in
    let next = empty-line line _ more coming none in
    record {
      passed = same-passed _ _ _ _ _ _ next c.loop-remaining.invariant.passed;
      short = (short-first line _ more coming c.loop-remaining.invariant.short).1;
      rows = λ all. c.loop-remaining.invariant.rows (subst (All (IsRowLine c.args.naming)) (sym next) all);
      room = c.loop-remaining.invariant.room;
      size = c.loop-remaining.invariant.size;
    }

pub returns-clause-printed : goal.returns-clause-printed
returns-clause-printed g c =
    let naming = c.args.naming in
    let none = ap (λ remaining. filter has_some (remaining_lines remaining)) c.in_default.is in
    Appends-to _ _ _ _ (sym (text-joined standard (kind_of naming) (cases_of_line naming c.args.directions.now)
    (row_lines c.args.text.now)))
    (all_passed _ _ _ _ _ none c.loop-remaining.invariant.passed)

pub returns-clause-right : goal.returns-clause-right
returns-clause-right g c =
    let naming = c.args.naming in
    let none = ap (λ remaining. filter has_some (remaining_lines remaining)) c.in_default.is in
    lines-right naming c.args.directions.now c.args.text.now
    (c.loop-remaining.invariant.rows (subst (All (IsRowLine naming)) (sym none) (All-nil (IsRowLine naming))))
