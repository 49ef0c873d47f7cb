use Rattle.std.proofs.Common.{arith}
use Rattle.std.proofs.lemmas.List.{drop_more, nil_from_length, length-drop}
use Rattle.lines.specs.Layouts.{view_of, no_line}
use Rattle.printing.proofs.Passing.{nothing_passed, one_more_passed, all_passed}
use Rattle.printing.proofs.WaitingBytes.{written_in_the_end}
use Rattle.printing.proofs.reorder_text.print_lines.Goals as goal

pub loop-k-init : goal.loop-k-init
loop-k-init g c = rw c.new-waiting.ensures (nothing_passed _ _ _)

pub loop-k-preserved : goal.loop-k-preserved
loop-k-preserved g c =
    let lines = (view_of c.args.layout.now).lines in
    one_more_passed _ _ _ _ _ _ _ _ (drop_more lines c.loop-k.k no_line (omega arith)) c.loop-k.invariant
    c.in_ok-print_line.ensures.printed

pub returns-clause-written : goal.returns-clause-written
returns-clause-written g c =
    let lines = (view_of c.args.layout.now).lines in
    let passed = all_passed _ _ _ _ _ (nil_from_length _ (omega (arith, length-drop c.loop-k.k lines)))
    c.loop-k.invariant in
    written_in_the_end _ _ _ _ _ _ passed c.write.ensures.written
