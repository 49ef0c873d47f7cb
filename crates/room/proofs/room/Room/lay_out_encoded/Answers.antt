use Rattle.std.proofs.Common.{rules, ◌≡◌, ◌∙◌, ◌+◌, ◌-◌, ℕ, List, ap, arith, length, refl, subst, sym, take, true, true≢false, IfSome}
use Rattle.std.specs.Prelude.{slice_index}
use Rattle.std.specs.Box.{boxed_slice_items, boxed_slice_with_items}
use Rattle.units.specs.Classes.{classes_of}
use Rattle.paragraph.specs.ClassSets.{IsSetOf}
use Rattle.units.specs.Layout.{TextLayout, layout_of}
use Rattle.units.specs.declared.bracket.Unit.{Unit as BidiUnit}
use Rattle.lines.proofs.Lengths.{length-levels}
use Rattle.lines.specs.LineBreaks.{AreBreaks, BreaksView}
use Rattle.lines.specs.Scratches.{layout_in, room_of, HoldsText}
use Rattle.decoding.specs.Starts.{AreOffsets}
use Rattle.room.proofs.Refilled.{refilled}
use Rattle.sources.specs.Asks.{AskOf}
use Rattle.room.specs.Boundaries.{RejectsBreaks}
use Rattle.room.specs.Leaving.{Fits}
use Rattle.room.specs.Rooms.{RoomOf}
use Rattle.sources.specs.Seen.{source_seen}
use Rattle.sources.specs.Sources.{size_of, source_offset}
use Rattle.room.proofs.Columns.{fronts_of}
use Rattle.room.proofs.Rejected.{IsAsLong, is_room_still}
use Rattle.room.proofs.Rejecting.{rejects_alike, rejects_text}
use Rattle.room.proofs.Showing.{shows_spelled, starts_shown}
use Rattle.room.proofs.room.Room.lay_out_encoded.Goals as goal

pub find_indices-requires-clause-some : goal.find_indices-requires-clause-some
find_indices-requires-clause-some c =
    let self = c.self.inside in
    let encodes : self.encodes ≡ true = search rules in
    let columns = c.self.invariant.columns encodes in
    let units_len = c.decode.ensures.units_len ∙ ap length c.deref_mut.ensures.value in
    let starts_len = c.decode.ensures.starts_len ∙ ap length c.deref_mut-2.ensures.value in
    let f = fronts_of c.args.tables.now (source_seen c.args.source) c.in-Ok.decoded.characters
    (room_of self.scratch) c.decode.new.units c.decode.new.starts
    c.requires c.in-Ok.ensures.decoded c.in-Ok.ensures.whole (omega (
      arith,
      c.if-room-size.false,
      c.room.ensures,
      c.size.ensures,
    )) (units_len ∙ columns.for_spare_units) (starts_len ∙ columns.for_spare)
    c.decode.new.units c.deref.result.now refl (c.deref.ensures.value ∙
    refilled self.spare c.decode.new.starts starts_len) in
    omega (arith, f.len_starts)

pub find_indices-requires-clause-starts : goal.find_indices-requires-clause-starts
find_indices-requires-clause-starts c =
    let self = c.self.inside in
    let encodes : self.encodes ≡ true = search rules in
    let columns = c.self.invariant.columns encodes in
    let units_len = c.decode.ensures.units_len ∙ ap length c.deref_mut.ensures.value in
    let starts_len = c.decode.ensures.starts_len ∙ ap length c.deref_mut-2.ensures.value in
    let f = fronts_of c.args.tables.now (source_seen c.args.source) c.in-Ok.decoded.characters
    (room_of self.scratch) c.decode.new.units c.decode.new.starts
    c.requires c.in-Ok.ensures.decoded c.in-Ok.ensures.whole (omega (
      arith,
      c.if-room-size.false,
      c.room.ensures,
      c.size.ensures,
    )) (units_len ∙ columns.for_spare_units) (starts_len ∙ columns.for_spare)
    c.decode.new.units c.deref.result.now refl (c.deref.ensures.value ∙
    refilled self.spare c.decode.new.starts starts_len) in
    let starts = take (c.in-Ok.decoded.characters + 1) c.deref.result.now in
    subst (λ (k : ℕ). AreOffsets k starts) {x = length (take c.in-Ok.decoded.characters c.decode.new.units)} {y =
    length starts - 1} (omega (arith, f.len_starts, f.len_units)) f.front

pub find_indices-requires-clause-fits : goal.find_indices-requires-clause-fits
find_indices-requires-clause-fits c =
    let self = c.self.inside in
    let encodes : self.encodes ≡ true = search rules in
    let columns = c.self.invariant.columns encodes in
    let units_len = c.decode.ensures.units_len ∙ ap length c.deref_mut.ensures.value in
    let starts_len = c.decode.ensures.starts_len ∙ ap length c.deref_mut-2.ensures.value in
    let f = fronts_of c.args.tables.now (source_seen c.args.source) c.in-Ok.decoded.characters
    (room_of self.scratch) c.decode.new.units c.decode.new.starts
    c.requires c.in-Ok.ensures.decoded c.in-Ok.ensures.whole (omega (
      arith,
      c.if-room-size.false,
      c.room.ensures,
      c.size.ensures,
    )) (units_len ∙ columns.for_spare_units) (starts_len ∙ columns.for_spare)
    c.decode.new.units c.deref.result.now refl (c.deref.ensures.value ∙
    refilled self.spare c.decode.new.starts starts_len) in
    let starts = take (c.in-Ok.decoded.characters + 1) c.deref.result.now in
    let last : slice_index starts (length starts - 1) ≡ size_of (source_seen c.args.source) =
    ap (slice_index starts) {x = length starts - 1} {y =
    length (take c.in-Ok.decoded.characters c.decode.new.units)} (omega (arith, f.len_starts, f.len_units)) ∙ f.front_last in
    omega (
      arith,
      last,
      c.if-room-size.false,
      c.room.ensures,
      c.size.ensures,
      columns.for_indices,
      ap length c.deref_mut-3.ensures.value,
    )

pub invariant_of-self-in-Err-find_indices : goal.invariant_of-self-in-Err-find_indices
invariant_of-self-in-Err-find_indices c =
    let self = c.self.inside in
    let units_len = c.decode.ensures.units_len ∙ ap length c.deref_mut.ensures.value in
    let starts_len = c.decode.ensures.starts_len ∙ ap length c.deref_mut-2.ensures.value in
    let indices_len = c.find_indices.ensures.len ∙ ap length c.deref_mut-3.ensures.value in
    let other = record self {
      spare_units = boxed_slice_with_items self.spare_units c.decode.new.units;
      spare = boxed_slice_with_items self.spare c.decode.new.starts;
      indices = boxed_slice_with_items self.indices c.find_indices.new.indices;
    } in
    let long : IsAsLong self other = record {
      spare_units = ap length (refilled self.spare_units c.decode.new.units units_len) ∙ units_len;
      spare = ap length (refilled self.spare c.decode.new.starts starts_len) ∙ starts_len;
      indices = ap length (refilled self.indices c.find_indices.new.indices indices_len) ∙ indices_len;
    } in
    is_room_still self other long c.self.invariant

pub returns-in-Err-find_indices : goal.returns-in-Err-find_indices
returns-in-Err-find_indices c =
    let self = c.self.inside in
    let encodes : self.encodes ≡ true = search rules in
    let columns = c.self.invariant.columns encodes in
    let units_len = c.decode.ensures.units_len ∙ ap length c.deref_mut.ensures.value in
    let starts_len = c.decode.ensures.starts_len ∙ ap length c.deref_mut-2.ensures.value in
    let f = fronts_of c.args.tables.now (source_seen c.args.source) c.in-Ok.decoded.characters
    (room_of self.scratch) c.decode.new.units c.decode.new.starts
    c.requires c.in-Ok.ensures.decoded c.in-Ok.ensures.whole (omega (
      arith,
      c.if-room-size.false,
      c.room.ensures,
      c.size.ensures,
    )) (units_len ∙ columns.for_spare_units) (starts_len ∙ columns.for_spare)
    c.decode.new.units c.deref.result.now refl (c.deref.ensures.value ∙
    refilled self.spare c.decode.new.starts starts_len) in
    let source = source_seen c.args.source in
    let breaks = c.args.breaks.now in
    let n = c.in-Ok.decoded.characters in
    let fault = c.in-Err-find_indices.fault in
    let capacity = ap (λ (r : RoomOf). r.capacity) c.self.view_is in
    let fits : Fits source c.args.self.now = record {
      kind = λ _. sym (ap (λ (r : RoomOf). r.encodes) c.self.view_is) ∙ encodes;
      size = omega (arith, c.if-room-size.false, c.room.ensures, c.size.ensures, capacity);
    } in
    let starts = take (n + 1) c.deref.result.now in
    let len : length starts - 1 ≡ n = omega (arith, f.len_starts) in
    let end : slice_index starts n ≡ size_of source = ap (slice_index starts) (sym f.len_units) ∙ f.front_last in
    let ask : AskOf = record {
      source = source;
      direction = c.args.direction;
      breaks = breaks;
      limits =
          c.args.limits;
    } in
    let why : RejectsBreaks (source_offset source) n (size_of source) breaks fault =
    rejects_alike (slice_index starts) (source_offset source) n f.begin (size_of source) breaks fault
    (subst (λ (k : ℕ). RejectsBreaks (slice_index starts) n k breaks fault) end
    (subst (λ (k : ℕ). RejectsBreaks (slice_index starts) k (slice_index starts k) breaks fault) len
    c.in-Err-find_indices.ensures.rejected)) in
    record {
      capacity = capacity;
      encodes = ap (λ (r : RoomOf). r.encodes) c.self.view_is;
      unchanged = c.self.view_is;
      rejected = rejects_text ask c.args.self.now fault fits c.in-Ok.ensures.well_formed
          (subst (λ (k : ℕ). RejectsBreaks (source_offset source) k (size_of source) breaks fault) f.count why);
      taken = tt;
      text = tt;
      broken = tt;
    }

pub breaks_at-found-requires : goal.breaks_at-found-requires
breaks_at-found-requires c =
    let self = c.self.inside in
    let encodes : self.encodes ≡ true = search rules in
    let columns = c.self.invariant.columns encodes in
    let units_len = c.decode.ensures.units_len ∙ ap length c.deref_mut.ensures.value in
    let starts_len = c.decode.ensures.starts_len ∙ ap length c.deref_mut-2.ensures.value in
    let f = fronts_of c.args.tables.now (source_seen c.args.source) c.in-Ok.decoded.characters
    (room_of self.scratch) c.decode.new.units c.decode.new.starts
    c.requires c.in-Ok.ensures.decoded c.in-Ok.ensures.whole (omega (
      arith,
      c.if-room-size.false,
      c.room.ensures,
      c.size.ensures,
    )) (units_len ∙ columns.for_spare_units) (starts_len ∙ columns.for_spare)
    c.decode.new.units c.deref.result.now refl (c.deref.ensures.value ∙
    refilled self.spare c.decode.new.starts starts_len) in
    let starts = take (c.in-Ok.decoded.characters + 1) c.deref.result.now in
    let indices_len = c.find_indices.ensures.len ∙ ap length c.deref_mut-3.ensures.value in
    let found = c.deref-2.ensures.value ∙ refilled self.indices c.find_indices.new.indices indices_len in
    subst (λ (xs : List ℕ). AreBreaks (take (length c.args.breaks.now) xs) c.in-Ok.decoded.characters) (sym found)
    (subst (AreBreaks (take (length c.args.breaks.now) c.find_indices.new.indices)) {x = length starts - 1} {y =
    c.in-Ok.decoded.characters} (omega (arith, f.len_starts)) c.in_default.ensures.characters)

pub lay_out_units-requires-clause-classes : goal.lay_out_units-requires-clause-classes
lay_out_units-requires-clause-classes c =
    let self = c.self.inside in
    let units_len = c.decode.ensures.units_len ∙ ap length c.deref_mut.ensures.value in
    let text = c.deref-3.ensures.value ∙ refilled self.spare_units c.decode.new.units units_len in
    subst (λ (us : List BidiUnit). IfSome c.in-Ok.decoded.classes
    (λ set. IsSetOf set (classes_of (take c.in-Ok.decoded.characters us)))) (sym text) c.in-Ok.ensures.classes

pub lay_out_units-requires-clause-len : goal.lay_out_units-requires-clause-len
lay_out_units-requires-clause-len c =
    let self = c.self.inside in
    let encodes : self.encodes ≡ true = search rules in
    let columns = c.self.invariant.columns encodes in
    let units_len = c.decode.ensures.units_len ∙ ap length c.deref_mut.ensures.value in
    let starts_len = c.decode.ensures.starts_len ∙ ap length c.deref_mut-2.ensures.value in
    let f = fronts_of c.args.tables.now (source_seen c.args.source) c.in-Ok.decoded.characters
    (room_of self.scratch) c.decode.new.units c.decode.new.starts
    c.requires c.in-Ok.ensures.decoded c.in-Ok.ensures.whole (omega (
      arith,
      c.if-room-size.false,
      c.room.ensures,
      c.size.ensures,
    )) (units_len ∙ columns.for_spare_units) (starts_len ∙ columns.for_spare)
    c.deref-3.result.now c.deref.result.now (c.deref-3.ensures.value ∙
    refilled self.spare_units c.decode.new.units units_len) (c.deref.ensures.value ∙
    refilled self.spare c.decode.new.starts starts_len) in
    ap (λ (b : BreaksView). b.len) c.breaks_at-found.ensures ∙ sym f.len_units

pub lay_out_units-requires-clause-fits : goal.lay_out_units-requires-clause-fits
lay_out_units-requires-clause-fits c =
    let self = c.self.inside in
    let encodes : self.encodes ≡ true = search rules in
    let columns = c.self.invariant.columns encodes in
    let units_len = c.decode.ensures.units_len ∙ ap length c.deref_mut.ensures.value in
    let starts_len = c.decode.ensures.starts_len ∙ ap length c.deref_mut-2.ensures.value in
    let f = fronts_of c.args.tables.now (source_seen c.args.source) c.in-Ok.decoded.characters
    (room_of self.scratch) c.decode.new.units c.decode.new.starts
    c.requires c.in-Ok.ensures.decoded c.in-Ok.ensures.whole (omega (
      arith,
      c.if-room-size.false,
      c.room.ensures,
      c.size.ensures,
    )) (units_len ∙ columns.for_spare_units) (starts_len ∙ columns.for_spare)
    c.deref-3.result.now c.deref.result.now (c.deref-3.ensures.value ∙
    refilled self.spare_units c.decode.new.units units_len) (c.deref.ensures.value ∙
    refilled self.spare c.decode.new.starts starts_len) in
    omega (arith, f.len_units, f.few)

pub invariant_of-self-2 : goal.invariant_of-self-2
invariant_of-self-2 c =
    let self = c.self.inside in
    let source = source_seen c.args.source in
    let n = c.in-Ok.decoded.characters in
    let encodes : self.encodes ≡ true = search rules in
    let columns = c.self.invariant.columns encodes in
    let units_len = c.decode.ensures.units_len ∙ ap length c.deref_mut.ensures.value in
    let starts_len = c.decode.ensures.starts_len ∙ ap length c.deref_mut-2.ensures.value in
    let indices_len = c.find_indices.ensures.len ∙ ap length c.deref_mut-3.ensures.value in
    let units_are = refilled self.spare_units c.decode.new.units units_len in
    let starts_are = refilled self.spare c.decode.new.starts starts_len in
    let un : c.deref-3.result.now ≡ c.decode.new.units = c.deref-3.ensures.value ∙ units_are in
    let f = fronts_of c.args.tables.now source n (room_of self.scratch) c.decode.new.units c.decode.new.starts
    c.requires c.in-Ok.ensures.decoded c.in-Ok.ensures.whole (omega (
      arith,
      c.if-room-size.false,
      c.room.ensures,
      c.size.ensures,
    )) (units_len ∙ columns.for_spare_units) (starts_len ∙ columns.for_spare)
    c.deref-3.result.now c.deref.result.now un (c.deref.ensures.value ∙ starts_are) in
    let l = c.lay_out_units.ensures in
    let scratch = c.lay_out_units.new.scratch in
    let room = c.lay_out_units.ensures.room in
    let here : boxed_slice_items c.swap.new.x ≡ c.decode.new.starts = ap boxed_slice_items c.swap.ensures.x_after ∙
    starts_are in
    let units_here : boxed_slice_items c.swap-2.new.x ≡ c.decode.new.units =
    ap boxed_slice_items c.swap-2.ensures.x_after ∙ units_are in
    let count : length (layout_in scratch).levels ≡ n = ap (λ (v : TextLayout). length v.levels) l.laid_out ∙
    length-levels _ _ _ _ ∙ f.len_units in
    let text : take n c.deref-3.result.now ≡
    take (length (layout_in scratch).levels) (boxed_slice_items c.swap-2.new.x) =
    ap (take n) (un ∙ sym units_here) ∙ ap (λ (k : ℕ). take k (boxed_slice_items c.swap-2.new.x)) (sym count) in
    let there : boxed_slice_items c.swap.new.y ≡ boxed_slice_items self.starts =
    ap boxed_slice_items c.swap.ensures.y_after in
    let units_there : boxed_slice_items c.swap-2.new.y ≡ boxed_slice_items self.units =
    ap boxed_slice_items c.swap-2.ensures.y_after in
    let more : room_of self.scratch + 1 ≡ room_of scratch + 1 = ap (λ (k : ℕ). k + 1) (sym room) in
    let begun : AreOffsets (length (layout_in scratch).levels) (boxed_slice_items c.swap.new.x) =
    subst (λ (k : ℕ). AreOffsets k (boxed_slice_items c.swap.new.x)) (sym count)
    (subst (AreOffsets n) (sym here) f.offsets) in
    let last : slice_index (boxed_slice_items c.swap.new.x) (length (layout_in scratch).levels) ≡ size_of source =
    ap (slice_index (boxed_slice_items c.swap.new.x)) count ∙ ap (λ (xs : List ℕ). slice_index xs n) here ∙ f.last in
    let long = ap length units_here ∙ units_len ∙ columns.for_spare_units ∙ sym room in
    record {
      filled = l.filled;
      fits = long;
      holds = subst (λ (us : List BidiUnit). HoldsText c.args.limits us c.args.direction scratch) text l.holds;
      in_order = l.in_order;
      columns = λ _. record {
        for_units = long;
        for_spare_units = ap length units_there ∙ columns.for_units ∙ sym room;
        for_starts = ap length here ∙ starts_len ∙ columns.for_spare ∙ more;
        for_spare = ap length there ∙ columns.for_starts ∙ more;
        for_indices = ap length (refilled self.indices c.find_indices.new.indices indices_len) ∙ indices_len ∙
            columns.for_indices ∙ sym room;
      };
      no_columns = λ plain. absurd (true≢false (sym encodes ∙ plain));
      spelled = λ _. encodes;
      begun = λ _. begun;
      ends = λ _. omega (arith, last, c.if-room-size.false, c.room.ensures, c.size.ensures, room);
    }

pub returns : goal.returns
returns c =
    let self = c.self.inside in
    let source = source_seen c.args.source in
    let n = c.in-Ok.decoded.characters in
    let encodes : self.encodes ≡ true = search rules in
    let columns = c.self.invariant.columns encodes in
    let units_len = c.decode.ensures.units_len ∙ ap length c.deref_mut.ensures.value in
    let starts_len = c.decode.ensures.starts_len ∙ ap length c.deref_mut-2.ensures.value in
    let units_are = refilled self.spare_units c.decode.new.units units_len in
    let starts_are = refilled self.spare c.decode.new.starts starts_len in
    let un : c.deref-3.result.now ≡ c.decode.new.units = c.deref-3.ensures.value ∙ units_are in
    let st : c.deref.result.now ≡ c.decode.new.starts = c.deref.ensures.value ∙ starts_are in
    let f = fronts_of c.args.tables.now source n (room_of self.scratch) c.decode.new.units c.decode.new.starts
    c.requires c.in-Ok.ensures.decoded c.in-Ok.ensures.whole (omega (
      arith,
      c.if-room-size.false,
      c.room.ensures,
      c.size.ensures,
    )) (units_len ∙ columns.for_spare_units) (starts_len ∙ columns.for_spare)
    c.deref-3.result.now c.deref.result.now un st in
    let capacity = ap (λ (r : RoomOf). r.capacity) c.self.view_is in
    let us : List BidiUnit = take n c.deref-3.result.now in
    let indices = take (length c.args.breaks.now) c.find_indices.new.indices in
    let indices_len = c.find_indices.ensures.len ∙ ap length c.deref_mut-3.ensures.value in
    let at : c.breaks_at-found.result.positions ≡ indices =
    ap (λ (b : BreaksView). b.positions) c.breaks_at-found.ensures ∙
    ap (take (length c.args.breaks.now)) (c.deref-2.ensures.value ∙
    refilled self.indices c.find_indices.new.indices indices_len) in
    let laid : layout_in c.lay_out_units.new.scratch ≡ layout_of c.args.limits us c.args.direction indices =
    c.lay_out_units.ensures.laid_out ∙ ap (layout_of c.args.limits us c.args.direction) at in
    let last : slice_index (take (n + 1) c.deref.result.now) (length (take (n + 1) c.deref.result.now) - 1) ≡
    size_of source =
    ap (slice_index (take (n + 1) c.deref.result.now)) {x = length (take (n + 1) c.deref.result.now) - 1} {y =
    length us} (omega (arith, f.len_starts, f.len_units)) ∙ f.front_last in
    let ss : List ℕ = take (n + 1) c.deref.result.now in
    let here : boxed_slice_items c.swap.new.x ≡ c.deref.result.now = ap boxed_slice_items c.swap.ensures.x_after ∙
    starts_are ∙ sym st in
    let units_here : boxed_slice_items c.swap-2.new.x ≡ c.deref-3.result.now =
    ap boxed_slice_items c.swap-2.ensures.x_after ∙ units_are ∙ sym un in
    let new = record self {
      scratch = c.lay_out_units.new.scratch;
      units = c.swap-2.new.x;
      spare_units = c.swap-2.new.y;
      starts = c.swap.new.x;
      spare = c.swap.new.y;
      spelled = true;
      direction = c.args.direction;
      limits = c.args.limits;
    } in
    let front : take (length us) (boxed_slice_items c.swap-2.new.x) ≡ us =
    ap (λ (k : ℕ). take k (boxed_slice_items c.swap-2.new.x)) f.len_units ∙ ap (take n) units_here in
    let begin : take (length us + 1) (boxed_slice_items c.swap.new.x) ≡ ss =
    ap (λ (k : ℕ). take (k + 1) (boxed_slice_items c.swap.new.x)) f.len_units ∙ ap (take (n + 1)) here in
    let are : AreBreaks indices (length us) =
    subst (AreBreaks indices) {x = length ss - 1} {y = length us} (omega (arith, f.len_starts, f.len_units))
    c.in_default.ensures.characters in
    let shows = shows_spelled new us indices laid front are ss c.args.breaks.now refl begin
    c.in_default.ensures.found.found in
    let starts = starts_shown new us indices laid front ss begin in
    record {
      capacity = c.lay_out_units.ensures.room ∙ capacity;
      encodes = ap (λ (r : RoomOf). r.encodes) c.self.view_is;
      unchanged = tt;
      rejected = tt;
      taken = record {
        fits = record {
          kind = λ _. sym (ap (λ (r : RoomOf). r.encodes) c.self.view_is) ∙ encodes;
          size = omega (arith, c.if-room-size.false, c.room.ensures, c.size.ensures, capacity);
        };
        well_formed = c.in-Ok.ensures.well_formed;
        inside = subst (AreBreaks c.args.breaks.now) last c.in_default.ensures.rising;
      };
      text = record {
        units = shows.units ∙ f.units;
        direction = refl;
        limits = refl;
        offsets = λ k le. ap (λ (xs : List ℕ). slice_index xs k) starts ∙ f.begin k (omega (arith, le, f.count));
      };
      broken = shows.broken;
    }
