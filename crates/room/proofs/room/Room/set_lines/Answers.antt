use Rattle.std.proofs.Common.{rules, ◌≡◌, ◌∙◌, ◌+◌, ◌-◌, ◌≤◌, ℕ, Bool, List, ap, arith, length, map, refl, subst, sym, take, true, false}
use Rattle.std.specs.Prelude.{slice_index}
use Rattle.std.specs.Box.{boxed_slice_items, boxed_slice_with_items}
use Rattle.std.proofs.lemmas.List.{length-take, length-take-le, map-id}
use Rattle.units.specs.Layout.{TextLayout, layout_of}
use Rattle.units.specs.declared.bracket.Unit.{Unit as BidiUnit}
use Rattle.lines.proofs.Lengths.{length-levels}
use Rattle.lines.specs.LineBreaks.{AreBreaks, BreaksView}
use Rattle.lines.specs.Scratches.{layout_in, HoldsText}
use Rattle.room.proofs.Refilled.{refilled}
use Rattle.room.specs.Boundaries.{RejectsBreaks}
use Rattle.room.specs.Leaving.{RejectsLines}
use Rattle.room.specs.Insides.{offsets_if, seen}
use Rattle.room.specs.Rooms.{RoomOf, TextOf, characters_in, offset_by, offset_in}
use Rattle.room.specs.Looking.{size_in}
use Rattle.room.specs.declared.room.Room.TheInside.{Inside}
use Rattle.room.proofs.Rejected.{IsAsLong, is_room_still}
use Rattle.room.proofs.Rejecting.{rejects_alike}
use Rattle.room.proofs.room.Room.set_lines.Goals as goal

-- the text of these columns, if it has so many characters
abbrev text_of : Inside → ℕ → TextOf
text_of self k =
    record {
      units = take k (boxed_slice_items self.units);
      direction = self.direction;
      limits = self.limits;
      offsets = offsets_if self.spelled (take (k + 1) (boxed_slice_items self.starts));
    }

pub invariant_of-self : goal.invariant_of-self
invariant_of-self c =
    let self = c.self.inside in
    let indices_len = c.find_indices.ensures.len ∙ ap length c.deref_mut.ensures.value in
    let other = record self { indices = boxed_slice_with_items self.indices c.find_indices.new.indices } in
    let long : IsAsLong self other =
    record {
      spare_units = refl;
      spare = refl;
      indices =
          ap length (refilled self.indices c.find_indices.new.indices indices_len) ∙ indices_len;
    } in
    is_room_still self other long c.self.invariant

pub returns-in-Err : goal.returns-in-Err
returns-in-Err c =
    let self = c.self.inside in
    let n = length (layout_in self.scratch).levels in
    let begun = c.self.invariant.begun c.if-self.true in
    let count : c.characters-count.result ≡ n = c.characters-count.ensures ∙ sym (ap characters_in c.self.view_is) in
    let starts = take (c.characters-count.result + 1) c.deref.result.now in
    let whole : length starts ≡ n + 1 =
    length-take-le (c.characters-count.result + 1) c.deref.result.now (omega (
      arith,
      begun.inside,
      count,
      ap length c.deref.ensures.value,
    )) ∙ ap (λ (k : ℕ). k + 1) count in
    let same : starts ≡ take (n + 1) (boxed_slice_items self.starts) =
    ap (λ (k : ℕ). take (k + 1) c.deref.result.now) count ∙ ap (take (n + 1)) c.deref.ensures.value in
    let at : (k : ℕ) → k ≤ n → slice_index starts k ≡ offset_in (seen self) k =
    λ k le. ap (λ (xs : List ℕ). slice_index xs k) same ∙
    ap (λ (b : Bool). offset_by (offsets_if b (take (n + 1) (boxed_slice_items self.starts))) k)
    (sym c.if-self.true) in
    let breaks = c.args.breaks.now in
    let fault = c.in-Err.fault in
    let len : length starts - 1 ≡ n = omega (arith, whole) in
    let end : slice_index starts n ≡ size_in (seen self) = at n (omega arith) in
    let why : RejectsLines (seen self) breaks fault =
    rejects_alike (slice_index starts) (offset_in (seen self)) n at (size_in (seen self)) breaks fault
    (subst (λ (k : ℕ). RejectsBreaks (slice_index starts) n k breaks fault) end
    (subst (λ (k : ℕ). RejectsBreaks (slice_index starts) k (slice_index starts k) breaks fault) len
    c.in-Err.ensures.rejected)) in
    record {
      capacity = ap (λ (r : RoomOf). r.capacity) c.self.view_is;
      encodes = ap (λ (r : RoomOf). r.encodes) c.self.view_is;
      unchanged = c.self.view_is;
      rejected = subst (λ (r : RoomOf). RejectsLines r breaks fault) c.self.view_is why;
      taken = tt;
      text = tt;
      broken = tt;
    }

pub breaks_at-found-requires : goal.breaks_at-found-requires
breaks_at-found-requires c =
    let self = c.self.inside in
    let n = length (layout_in self.scratch).levels in
    let begun = c.self.invariant.begun c.if-self.true in
    let count : c.characters-count.result ≡ n = c.characters-count.ensures ∙ sym (ap characters_in c.self.view_is) in
    let whole : length (take (c.characters-count.result + 1) c.deref.result.now) ≡ c.characters-count.result + 1 =
    length-take-le (c.characters-count.result + 1) c.deref.result.now (omega (
      arith,
      begun.inside,
      count,
      ap length c.deref.ensures.value,
    )) in
    let indices_len = c.find_indices.ensures.len ∙ ap length c.deref_mut.ensures.value in
    let found = c.deref-then-self.ensures.value ∙ refilled self.indices c.find_indices.new.indices indices_len in
    subst (λ (xs : List ℕ). AreBreaks (take (length c.args.breaks.now) xs) c.characters-count.result) (sym found)
    (subst (AreBreaks (take (length c.args.breaks.now) c.find_indices.new.indices)) {x =
    length (take (c.characters-count.result + 1) c.deref.result.now) - 1} {y =
    c.characters-count.result} (omega (arith, whole)) c.in_default.ensures.characters)

pub returns-then-self : goal.returns-then-self
returns-then-self c =
    let self = c.self.inside in
    let inv = c.self.invariant in
    let n = length (layout_in self.scratch).levels in
    let units = boxed_slice_items self.units in
    let items = boxed_slice_items self.starts in
    let begun = inv.begun c.if-self.true in
    let count : c.characters-count.result ≡ n = c.characters-count.ensures ∙ sym (ap characters_in c.self.view_is) in
    let starts = take (c.characters-count.result + 1) c.deref.result.now in
    let whole : length starts ≡ n + 1 =
    length-take-le (c.characters-count.result + 1) c.deref.result.now (omega (
      arith,
      begun.inside,
      count,
      ap length c.deref.ensures.value,
    )) ∙ ap (λ (k : ℕ). k + 1) count in
    let same : starts ≡ take (n + 1) items = ap (λ (k : ℕ). take (k + 1) c.deref.result.now) count ∙
    ap (take (n + 1)) c.deref.ensures.value in
    let spelled : self.spelled ≡ true = c.if-self.true in
    let last : slice_index starts (length starts - 1) ≡ size_in (seen self) =
    ap (slice_index starts) {x = length starts - 1} {y = n} (omega (arith, whole)) ∙
    ap (λ (xs : List ℕ). slice_index xs n) same
    ∙ ap (λ (b : Bool). offset_by (offsets_if b (take (n + 1) items)) n) (sym spelled) in
    let indices_len = c.find_indices.ensures.len ∙ ap length c.deref_mut.ensures.value in
    let indices = take (length c.args.breaks.now) c.find_indices.new.indices in
    let len_text : length (take n units) ≡ n =
    omega (
      arith,
      inv.holds.units,
      length-take n units,
      length-take self.scratch.used.units (boxed_slice_items self.scratch.text.levels),
    ) in
    let read : take n units ≡ take c.characters-count.result c.deref-then-self-2.result.now =
    ap (λ (k : ℕ). take k units) (sym count) ∙
    ap (take c.characters-count.result) (sym c.deref-then-self-2.ensures.value) in
    let holds = subst (λ (us : List BidiUnit). HoldsText self.limits us self.direction self.scratch) read inv.holds in
    let at : c.breaks_at-found.result.positions ≡ indices =
    ap (λ (b : BreaksView). b.positions) c.breaks_at-found.ensures ∙
    ap (take (length c.args.breaks.now)) (c.deref-then-self.ensures.value ∙
    refilled self.indices c.find_indices.new.indices indices_len) in
    let laid : layout_in c.set_lines_of_units.new.scratch ≡
    layout_of self.limits (take n units) self.direction indices =
    c.set_lines_of_units.ensures.laid_out self.limits self.direction holds ∙
    ap (λ (us : List BidiUnit). layout_of self.limits us self.direction c.breaks_at-found.result.positions)
    (sym read)
    ∙ ap (layout_of self.limits (take n units) self.direction) at in
    let count_new : length (layout_in c.set_lines_of_units.new.scratch).levels ≡ n =
    ap (λ (v : TextLayout). length v.levels) laid ∙ length-levels _ _ _ _ ∙ len_text in
    record {
      capacity = c.set_lines_of_units.ensures.room ∙ ap (λ (r : RoomOf). r.capacity) c.self.view_is;
      encodes = ap (λ (r : RoomOf). r.encodes) c.self.view_is;
      unchanged = tt;
      rejected = tt;
      taken = subst (λ (r : RoomOf). AreBreaks c.args.breaks.now (size_in r)) c.self.view_is
          (subst (AreBreaks c.args.breaks.now) last c.in_default.ensures.rising);
      text = ap (text_of self) count_new ∙ ap (λ (r : RoomOf). r.text) c.self.view_is;
      broken = record {
        indices = indices;
        inside = subst (AreBreaks indices) {x = length starts - 1} {y =
            length (layout_in c.set_lines_of_units.new.scratch).levels} (omega (arith, whole, count_new))
            c.in_default.ensures.characters;
        begin = ap (λ (k : ℕ). map (offset_by (offsets_if self.spelled (take (k + 1) items))) indices) count_new
            ∙ ap (λ (b : Bool). map (offset_by (offsets_if b (take (n + 1) items))) indices) spelled
            ∙ ap (λ (xs : List ℕ). map (slice_index xs) indices) (sym same) ∙ c.in_default.ensures.found.found;
        laid_out = laid ∙ ap (λ (k : ℕ). layout_of self.limits (take k units) self.direction indices) (sym count_new);
      };
    }

pub returns : goal.returns
returns c =
    let self = c.self.inside in
    let inv = c.self.invariant in
    let n = length (layout_in self.scratch).levels in
    let units = boxed_slice_items self.units in
    let items = boxed_slice_items self.starts in
    let breaks = c.args.breaks.now in
    let count : c.characters-count.result ≡ n = c.characters-count.ensures ∙ sym (ap characters_in c.self.view_is) in
    let spelled : self.spelled ≡ false = search rules in
    let len_text : length (take n units) ≡ n =
    omega (
      arith,
      inv.holds.units,
      length-take n units,
      length-take self.scratch.used.units (boxed_slice_items self.scratch.text.levels),
    ) in
    let read : take n units ≡ take c.characters-count.result c.deref-2.result.now =
    ap (λ (k : ℕ). take k units) (sym count) ∙ ap (take c.characters-count.result) (sym c.deref-2.ensures.value) in
    let holds = subst (λ (us : List BidiUnit). HoldsText self.limits us self.direction self.scratch) read inv.holds in
    let laid : layout_in c.set_lines_of_units-2.new.scratch ≡
    layout_of self.limits (take n units) self.direction breaks =
    c.set_lines_of_units-2.ensures.laid_out self.limits self.direction holds ∙
    ap (λ (us : List BidiUnit). layout_of self.limits us self.direction c.in-Ok.found.positions) (sym read)
    ∙ ap (λ (b : BreaksView). layout_of self.limits (take n units) self.direction b.positions) c.in-Ok.ensures.0 in
    let count_new : length (layout_in c.set_lines_of_units-2.new.scratch).levels ≡ n =
    ap (λ (v : TextLayout). length v.levels) laid ∙ length-levels _ _ _ _ ∙ len_text in
    let size : c.characters-count.result ≡ size_in (seen self) =
    count ∙ ap (λ (b : Bool). offset_by (offsets_if b (take (n + 1) items)) n) (sym spelled) in
    record {
      capacity = c.set_lines_of_units-2.ensures.room ∙ ap (λ (r : RoomOf). r.capacity) c.self.view_is;
      encodes = ap (λ (r : RoomOf). r.encodes) c.self.view_is;
      unchanged = tt;
      rejected = tt;
      taken = subst (λ (r : RoomOf). AreBreaks breaks (size_in r)) c.self.view_is
          (subst (AreBreaks breaks) size c.in-Ok.ensures.1);
      text = ap (text_of self) count_new ∙ ap (λ (r : RoomOf). r.text) c.self.view_is;
      broken = record {
        indices = breaks;
        inside = subst (AreBreaks breaks) (count ∙ sym count_new) c.in-Ok.ensures.1;
        begin = ap (λ (k : ℕ). map (offset_by (offsets_if self.spelled (take (k + 1) items))) breaks) count_new
            ∙ ap (λ (b : Bool). map (offset_by (offsets_if b (take (n + 1) items))) breaks) spelled ∙ map-id breaks;
        laid_out = laid ∙ ap (λ (k : ℕ). layout_of self.limits (take k units) self.direction breaks) (sym count_new);
      };
    }
