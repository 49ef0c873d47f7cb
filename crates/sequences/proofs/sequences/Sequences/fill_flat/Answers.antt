use Rattle.std.proofs.Common.{arith, ◌≡◌, ◌≤◌, ◌∙◌, ap, sym, length}
use Rattle.std.specs.Box.{boxed_slice_items, boxed_slice_len}
use Rattle.sequences.specs.View.{SequencesView}
use Rattle.sequences.proofs.Filled.{put_back}
use Rattle.sequences.proofs.Room.{HaveLength, column_capacity}
use Rattle.sequences.proofs.sequences.Sequences.fill_flat.Goals as goal

pub invariant_of-self : goal.invariant_of-self
invariant_of-self g c =
    let f = c.fill_one_sequence-self-inside in
    let old = c.self.inside in
    let l : length f.new.links ≡ boxed_slice_len old.links = f.auto.links ∙ c.deref_mut.ensures.len in
    let d : length f.new.heads ≡ boxed_slice_len old.heads = f.auto.heads ∙ c.deref_mut-2.ensures.len in
    let n : length f.new.column ≡ boxed_slice_len old.column = f.auto.column ∙ c.deref_mut-3.ensures.len in
    let l' : length (boxed_slice_items old.links) ≡ boxed_slice_len old.links =
    sym (ap length c.deref_mut.ensures.value) ∙ c.deref_mut.ensures.len in
    let d' : length (boxed_slice_items old.heads) ≡ boxed_slice_len old.heads =
    sym (ap length c.deref_mut-2.ensures.value) ∙ c.deref_mut-2.ensures.len in
    let n' : length (boxed_slice_items old.column) ≡ boxed_slice_len old.column =
    sym (ap length c.deref_mut-3.ensures.value) ∙ c.deref_mut-3.ensures.len in
    let unchanged : HaveLength (boxed_slice_len old.links) f.new.links (boxed_slice_items old.ends)
    (boxed_slice_items old.joined) f.new.heads f.new.column = record {
      small = omega (arith, c.self.invariant.small);
      links_fit = l;
      ends_fit = omega (arith, c.self.invariant.ends_fit);
      joined_fit = omega (arith, c.self.invariant.joined_fit);
      heads_fit = omega (arith, c.self.invariant.heads_fit);
      column_fit = omega (arith, c.self.invariant.column_fit);
    } in
    let fit : length c.args.para.now ≤ boxed_slice_len old.links =
    omega (arith, c.requires.room, ap (λ (s : SequencesView). s.room) c.self.view_is) in
    rw (
      put_back _ f.new.links (boxed_slice_items old.links) l,
      put_back _ f.new.heads (boxed_slice_items old.heads) d,
      put_back _ f.new.column (boxed_slice_items old.column) n,
    ) (column_capacity (f.ensures.filled 0) (boxed_slice_len old.links) (boxed_slice_items old.ends)
    (boxed_slice_items old.joined) unchanged fit)

pub returns-clause-all : goal.returns-clause-all
returns-clause-all g c = λ depth.
    let f = c.fill_one_sequence-self-inside in
    let old = c.self.inside in
    rw (
      put_back _ f.new.heads (boxed_slice_items old.heads) (f.auto.heads ∙ c.deref_mut-2.ensures.len),
      put_back _ f.new.column (boxed_slice_items old.column) (f.auto.column ∙ c.deref_mut-3.ensures.len),
    ) (f.ensures.filled depth).views
