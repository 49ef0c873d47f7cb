use Rattle.std.proofs.Common.{arith, ◌≡◌, ◌<◌, ◌∙◌, ap, sym, subst, length, take, Some, refl}
use Rattle.std.specs.Prelude.{slice_get}
use Rattle.std.specs.Option.{option_map}
use Rattle.std.specs.Box.{boxed_slice_items}
use Rattle.std.proofs.lemmas.List.{get_or-take, length-map, length-take-le}
use Rattle.std.proofs.lemmas.Option.{slice_get-map, slice_get_read}
use Rattle.sequences.specs.declared.heads.Head.{Head}
use Rattle.sequences.specs.Heads.{IsHead, sequence_of_head}
use Rattle.sequences.specs.View.{SequencesView}
use Rattle.sequences.proofs.sequences.Sequences.get.Goals as goal

pub invariant_of-result : goal.invariant_of-result
invariant_of-result c =
    let s = c.self.inside in
    let h : Head = c.index-head.result.now in
    let short : length (take s.count (boxed_slice_items s.heads)) ≡ s.count =
    length-take-le s.count (boxed_slice_items s.heads) c.self.invariant.counted in
    let few : c.args.k < s.count = omega (
      arith,
      c.requires,
      ap (λ (v : SequencesView). length v.all) c.self.view_is,
      length-map (take s.count (boxed_slice_items s.heads)) (sequence_of_head (boxed_slice_items s.column) s.size),
    ) in
    let P : Head → Type 0 = λ x. IsHead (boxed_slice_items s.column) (take s.size (boxed_slice_items s.links)) x in
    let head : P h = subst P (get_or-take s.count (boxed_slice_items s.heads) c.args.k h few ∙
    sym c.index-head.ensures) (c.self.invariant.headed c.args.k h (omega arith)) in
    rw (c.deref.ensures.value, c.deref-2.ensures.value) (head.positions, head.chain, head.level_within)

pub returns-clause-value : goal.returns-clause-value
returns-clause-value c =
    let s = c.self.inside in
    let h : Head = c.index-head.result.now in
    let short : length (take s.count (boxed_slice_items s.heads)) ≡ s.count =
    length-take-le s.count (boxed_slice_items s.heads) c.self.invariant.counted in
    let few : c.args.k < s.count = omega (
      arith,
      c.requires,
      ap (λ (v : SequencesView). length v.all) c.self.view_is,
      length-map (take s.count (boxed_slice_items s.heads)) (sequence_of_head (boxed_slice_items s.column) s.size),
    ) in
    let read : slice_get (take s.count (boxed_slice_items s.heads)) c.args.k ≡ Some h =
    slice_get_read (take s.count (boxed_slice_items s.heads)) s.count c.args.k h (sym short) few (c.index-head.ensures ∙
    sym (get_or-take s.count (boxed_slice_items s.heads) c.args.k h few)) in
    ap (λ (v : SequencesView). slice_get v.all c.args.k) (sym c.self.view_is)
    ∙ slice_get-map (sequence_of_head (boxed_slice_items s.column) s.size) (take s.count (boxed_slice_items s.heads))
    c.args.k
    ∙ ap (option_map (sequence_of_head (boxed_slice_items s.column) s.size)) read
    ∙ rw (
      c.deref.ensures.value,
      c.deref-2.ensures.value,
      length-take-le s.size (boxed_slice_items s.links) c.self.invariant.in_use,
    ) refl
