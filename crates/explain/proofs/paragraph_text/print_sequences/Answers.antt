use Rattle.std.proofs.Common.{◌≡◌, ◌∙◌, Some, ap, sym, arith, length, slice_index_or}
use Rattle.std.specs.List.{slice_get}
use Rattle.std.proofs.lemmas.Option.{get_or_from_slice_get}
use Rattle.printing.proofs.Appending.{Appends-to}
use Rattle.printing.proofs.Printing.{one_more_printed}
use Rattle.explain.specs.Explained.{no_sequence}
use Rattle.explain.specs.Feet.{sequence_text}
use Rattle.explain.proofs.Finished.{all_printed}
use Rattle.explain.proofs.paragraph_text.print_sequences.Goals as goal

pub loop-k-preserved : goal.loop-k-preserved
loop-k-preserved g c =
    let all = c.args.columns.now.explicit.sequences in
    let found : slice_get all c.loop-k.k ≡ Some c.get.result =
    ap (λ s. slice_get s c.loop-k.k) (sym c.sequences-sequences.ensures) ∙ c.get.ensures.value in
    let same : c.get.result ≡ slice_index_or all c.loop-k.k no_sequence =
    sym (get_or_from_slice_get all c.loop-k.k _ no_sequence found) in
    let line = Appends-to _ _ _ _ (ap (sequence_text c.loop-k.k c.args.start) same) c.in_ok-print_sequence.ensures in
    one_more_printed _ _ _ _ _ _ (omega arith) c.loop-k.invariant line

pub returns : goal.returns
returns g c =
    let all : length c.sequences-sequences.result.now.all ≡ length c.args.columns.now.explicit.sequences =
    ap length c.sequences-sequences.ensures in
    all_printed _ _ _ _ _ _ (omega (arith, all, c.count-k-end.ensures)) c.loop-k.invariant
