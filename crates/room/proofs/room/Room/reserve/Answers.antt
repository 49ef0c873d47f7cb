use Rattle.std.proofs.Common.{rules, ◌≡◌, ◌∙◌, ◌+◌, ℕ, Bool, [], ap, length, subst, sym, take, true≢false}
use Rattle.std.specs.Prelude.{if◌then◌else◌}
use Rattle.std.specs.Box.{boxed_slice_items}
use Rattle.units.specs.Layout.{TextLayout}
use Rattle.units.specs.Limits.{LimitsOf, standard}
use Rattle.units.specs.declared.level.Direction.TheVariants.{Auto}
use Rattle.lines.proofs.Lengths.{length-levels}
use Rattle.lines.specs.Scratches.{layout_in, room_of, HoldsText}
use Rattle.room.proofs.room.Room.reserve.Goals as goal

pub invariant_of-result : goal.invariant_of-result
invariant_of-result c =
    let room : room_of c.lay_out_empty.new.scratch ≡ c.args.n = search rules in
    let none : length (layout_in c.lay_out_empty.new.scratch).levels ≡ 0 =
    ap (λ (v : TextLayout). length v.levels) c.lay_out_empty.ensures.empty ∙ length-levels standard [] Auto [] in
    record {
      filled = c.lay_out_empty.ensures.filled;
      fits = c.in_ok-units.ensures ∙ sym room;
      holds = subst (λ (l : LimitsOf).
          HoldsText l (take (length (layout_in c.lay_out_empty.new.scratch).levels)
          (boxed_slice_items c.in_ok-units.units)) Auto c.lay_out_empty.new.scratch) (sym c.standard.ensures)
          (subst (λ (k : ℕ). HoldsText standard (take k (boxed_slice_items c.in_ok-units.units)) Auto
          c.lay_out_empty.new.scratch) (sym none) c.lay_out_empty.ensures.holds);
      in_order = c.lay_out_empty.ensures.in_order;
      columns = λ is.
          let few : c.items_if-encoded.result ≡ c.args.n = c.items_if-encoded.ensures ∙
          ap (λ (b : Bool). if b then c.args.n else 0) is in
          let offsets : c.items_if-offsets.result ≡ c.args.n + 1 = c.items_if-offsets.ensures ∙
          ap (λ (b : Bool). if b then c.args.n + 1 else 0) is in
          record {
            for_units = c.in_ok-units.ensures ∙ sym room;
            for_spare_units = c.in_ok-spare_units.ensures ∙ few ∙ sym room;
            for_starts = c.in_ok-starts.ensures ∙ offsets ∙ ap (λ (n : ℕ). n + 1) (sym room);
            for_spare = c.in_ok-spare.ensures ∙ offsets ∙ ap (λ (n : ℕ). n + 1) (sym room);
            for_indices = sym c.into_boxed_slice-indices.result.items.ok.0 ∙ c.into_boxed_slice-indices.ensures.len ∙
                c.in_ok-from_elem.ensures.len ∙ few ∙ sym room;
          };
      no_columns = λ is.
          let few : c.items_if-encoded.result ≡ 0 = c.items_if-encoded.ensures ∙
          ap (λ (b : Bool). if b then c.args.n else 0) is in
          let offsets : c.items_if-offsets.result ≡ 0 = c.items_if-offsets.ensures ∙
          ap (λ (b : Bool). if b then c.args.n + 1 else 0) is in
          record {
            of_spare_units = c.in_ok-spare_units.ensures ∙ few;
            of_starts = c.in_ok-starts.ensures ∙ offsets;
            of_spare = c.in_ok-spare.ensures ∙ offsets;
            of_indices = sym c.into_boxed_slice-indices.result.items.ok.0 ∙ c.into_boxed_slice-indices.ensures.len ∙
                c.in_ok-from_elem.ensures.len ∙ few;
          };
      spelled = λ is. absurd (true≢false (sym is));
      begun = λ is. absurd (true≢false (sym is));
      ends = λ is. absurd (true≢false (sym is));
    }
