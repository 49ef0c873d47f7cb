use Rattle.std.proofs.Common.{arith, ◌≡◌, ◌≤◌, ◌∙◌, ap, sym, subst, length, List}
use Rattle.std.specs.Prelude.{sum_by}
use Rattle.std.specs.Box.{boxed_slice_items, boxed_slice_len}
use Rattle.units.specs.Runs.{SequenceView, size_of}
use Rattle.sequences.specs.View.{SequencesView}
use Rattle.sequences.specs.Once.{HoldsOnce}
use Rattle.sequences.proofs.Fits.{sequences_fit}
use Rattle.sequences.proofs.Once.{sequences_hold_once}
use Rattle.sequences.proofs.Filled.{put_back}
use Rattle.sequences.proofs.Room.{HaveLength, filled_room, filled_views}
use Rattle.sequences.proofs.Column.{length-column}
use Rattle.sequences.proofs.sequences.Sequences.fill_from.Goals as goal

pub invariant_of-self : goal.invariant_of-self
invariant_of-self g c =
    let t = c.args.t.now in
    let k = c.link in
    let f = c.fill_heads-self-inside in
    let old = c.self.inside in
    let l : length k.new.links ≡ boxed_slice_len old.links = k.auto.links ∙ c.deref_mut.ensures.len in
    let e : length k.new.ends ≡ boxed_slice_len old.ends = k.auto.ends ∙ c.deref_mut-2.ensures.len in
    let j : length k.new.joined ≡ boxed_slice_len old.joined = k.auto.joined ∙ c.deref_mut-3.ensures.len in
    let d : length f.new.heads ≡ boxed_slice_len old.heads = f.auto.heads ∙ c.deref_mut-4.ensures.len in
    let n : length f.new.column ≡ boxed_slice_len old.column = f.auto.column ∙ c.deref_mut-5.ensures.len in
    let l' : length (boxed_slice_items old.links) ≡ boxed_slice_len old.links =
    sym (ap length c.deref_mut.ensures.value) ∙ c.deref_mut.ensures.len in
    let e' : length (boxed_slice_items old.ends) ≡ boxed_slice_len old.ends =
    sym (ap length c.deref_mut-2.ensures.value) ∙ c.deref_mut-2.ensures.len in
    let j' : length (boxed_slice_items old.joined) ≡ boxed_slice_len old.joined =
    sym (ap length c.deref_mut-3.ensures.value) ∙ c.deref_mut-3.ensures.len in
    let d' : length (boxed_slice_items old.heads) ≡ boxed_slice_len old.heads =
    sym (ap length c.deref_mut-4.ensures.value) ∙ c.deref_mut-4.ensures.len in
    let n' : length (boxed_slice_items old.column) ≡ boxed_slice_len old.column =
    sym (ap length c.deref_mut-5.ensures.value) ∙ c.deref_mut-5.ensures.len in
    let unchanged : HaveLength (boxed_slice_len old.links) k.new.links k.new.ends k.new.joined f.new.heads f.new.column
    = record {
      small = omega (arith, c.self.invariant.small);
      links_fit = l;
      ends_fit = omega (arith, c.self.invariant.ends_fit);
      joined_fit = omega (arith, c.self.invariant.joined_fit);
      heads_fit = omega (arith, c.self.invariant.heads_fit);
      column_fit = omega (arith, c.self.invariant.column_fit);
    } in
    rw (
      put_back _ k.new.links (boxed_slice_items old.links) l,
      put_back _ k.new.ends (boxed_slice_items old.ends) e,
      put_back _ k.new.joined (boxed_slice_items old.joined) j,
      put_back _ f.new.heads (boxed_slice_items old.heads) d,
      put_back _ f.new.column (boxed_slice_items old.column) n,
      c.len-size.ensures.value,
    ) (filled_room t f.result f.new.heads f.new.column f.ensures.heads f.ensures.column c.len-size.ensures.leveled
    f.ensures.count (boxed_slice_len old.links) k.new.links k.new.ends k.new.joined k.ensures.linked unchanged (omega (
      arith,
      c.requires,
      ap (λ (s : SequencesView). s.room) c.self.view_is,
    )))

pub returns-clause-all : goal.returns-clause-all
returns-clause-all g c =
    let f = c.fill_heads-self-inside in
    let old = c.self.inside in
    rw (
      put_back _ f.new.heads (boxed_slice_items old.heads) (f.auto.heads ∙ c.deref_mut-4.ensures.len),
      put_back _ f.new.column (boxed_slice_items old.column) (f.auto.column ∙ c.deref_mut-5.ensures.len),
      c.len-size.ensures.value,
    ) (filled_views c.args.t.now f.result f.new.heads f.new.column f.ensures.heads f.ensures.column)

pub returns-clause-once : goal.returns-clause-once
returns-clause-once g c =
    let t = c.args.t.now in
    let P : List SequenceView → Type 0 = λ all. HoldsOnce t all in
    subst P (sym (returns-clause-all g c))
    (sequences_hold_once t c.len-size.ensures.leveled c.len-size.ensures.nested)

pub returns-clause-fit : goal.returns-clause-fit
returns-clause-fit g c =
    let t = c.args.t.now in
    let P : List SequenceView → Type 0 = λ all. sum_by (λ (s : SequenceView). length s.positions) all ≤ size_of t in
    subst P (sym (returns-clause-all g c))
    (sequences_fit t c.len-size.ensures.leveled c.len-size.ensures.nested)

pub returns-clause-steps : goal.returns-clause-steps
returns-clause-steps g c =
    omega (
      arith,
      length-column c.args.t.now,
      ap (λ (all : List SequenceView). sum_by (λ (s : SequenceView). length s.positions) all)
          (returns-clause-all g c),
    )
