use Rattle.std.proofs.Common.{◌≡◌, ◌∙◌, ◌<◌, ap, arith, length, subst, sym}
use Rattle.units.specs.Layout.{LineLayout, TextLayout}
use Rattle.visual.specs.declared.line.OrderedLine.{OrderedLine}
use Rattle.room.specs.RunsIn.{IsOrderedLine}
use Rattle.room.proofs.RunLists.{IsLineOf, line_of_layout}
use Rattle.for_c.proofs.LineRunLists.{all_put, none_put}
use Rattle.for_c.proofs.line_runs.write_runs.Goals as goal

pub returns-in-Some : goal.returns-in-Some
returns-in-Some c =
    let room = c.args.room.now in
    let k = c.args.k in
    let line : OrderedLine = c.ordered_line-line.result in
    let para = c.para_level_of.result in
    let same = c.layout-layout.ensures.layout in
    let lines = ap (λ (v : TextLayout). length v.lines) same in
    let inside : k < length room.layout.lines = omega (arith, c.if-line_count-k.false, c.line_count.ensures, lines) in
    let begins : c.line-start.result.start ≡ line.start =
    ap (λ (l : LineLayout). l.start) (sym c.line-start.ensures.line.shows ∙
    c.ordered_line-line.ensures.line.shows) in
    let of : IsLineOf room k line =
    line_of_layout room k c.line-start.result.start para line (subst (λ (v : TextLayout).
    IsOrderedLine v k para line) same c.ordered_line-line.ensures.line) begins c.para_level_of.ensures in
    none_put room c.args.in_units k line of inside c.in-Some.count c.args.out.now c.in-Some.ensures.1
    c.in-Some.ensures.0

pub returns : goal.returns
returns c =
    let room = c.args.room.now in
    let k = c.args.k in
    let line : OrderedLine = c.ordered_line-line.result in
    let para = c.para_level_of.result in
    let same = c.layout-layout.ensures.layout in
    let lines = ap (λ (v : TextLayout). length v.lines) same in
    let inside : k < length room.layout.lines = omega (arith, c.if-line_count-k.false, c.line_count.ensures, lines) in
    let begins : c.line-start.result.start ≡ line.start =
    ap (λ (l : LineLayout). l.start) (sym c.line-start.ensures.line.shows ∙
    c.ordered_line-line.ensures.line.shows) in
    let of : IsLineOf room k line =
    line_of_layout room k c.line-start.result.start para line (subst (λ (v : TextLayout).
    IsOrderedLine v k para line) same c.ordered_line-line.ensures.line) begins c.para_level_of.ensures in
    all_put room c.args.in_units k line of inside c.put_runs.result c.args.out.now c.put_runs.new.out
    c.put_runs.ensures.runs c.put_runs.ensures.len c.in_default.ensures
