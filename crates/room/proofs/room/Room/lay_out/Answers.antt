use Rattle.std.proofs.Common.{rules, Ok, ◌≡◌, ◌∙◌, ℕ, List, ap, arith, length, refl, subst, sym, take, false, IfSome}
use Rattle.std.specs.Box.{boxed_slice_items, boxed_slice_with_items}
use Rattle.units.specs.Classes.{classes_of}
use Rattle.units.specs.Layout.{layout_of}
use Rattle.units.specs.declared.bracket.Unit.{Unit as BidiUnit}
use Rattle.paragraph.specs.ClassSets.{IsSetOf}
use Rattle.lines.specs.LineBreaks.{AreBreaks, BreaksView}
use Rattle.lines.specs.Scratches.{layout_in}
use Rattle.sources.specs.Asks.{AskOf}
use Rattle.sources.specs.Seen.{source_seen}
use Rattle.sources.specs.Sources.{IsEncoded, size_of, units_of}
use Rattle.room.specs.Insides.{seen}
use Rattle.room.specs.Leaving.{Leaves}
use Rattle.room.specs.Rooms.{RoomOf}
use Rattle.room.proofs.Plain.{length_plain, offset_plain}
use Rattle.room.proofs.Refilled.{refilled}
use Rattle.room.proofs.Showing.{shows_plain}
use Rattle.room.proofs.room.Room.lay_out.Goals as goal

pub lay_out_units-requires-clause-classes : goal.lay_out_units-requires-clause-classes
lay_out_units-requires-clause-classes c =
    let source = source_seen c.ask.inside.source in
    let self = c.self.inside in
    let new = c.look_up-classes.new.units in
    let column = boxed_slice_with_items self.units new in
    let same : boxed_slice_items column ≡ new
    = refilled self.units new (c.look_up-classes.ensures.len ∙ ap length c.deref_mut.ensures.value) in
    let text : take c.size-len.result c.deref.result.now ≡ take (size_of source) new =
    ap (take c.size-len.result) c.deref.ensures.value ∙
    ap (λ (n : ℕ). take n (boxed_slice_items column)) c.size-len.ensures ∙ ap (take (size_of source)) same in
    subst (λ (us : List BidiUnit). IfSome c.look_up-classes.result (λ set. IsSetOf set (classes_of us))) (sym text)
    c.look_up-classes.ensures.classes

pub returns : goal.returns
returns c =
    let ask = c.ask.inside in
    let source = source_seen ask.source in
    let breaks = ask.breaks.now in
    let self = c.self.inside in
    let capacity = ap (λ (r : RoomOf). r.capacity) c.self.view_is in
    let plain : IsEncoded source → ⊥ = λ is. search rules in
    let us : List BidiUnit = units_of c.args.tables.now source in
    let size = size_of source in
    let len : length us ≡ size = length_plain c.args.tables.now source plain in
    let column = boxed_slice_with_items self.units c.look_up-classes.new.units in
    let same : boxed_slice_items column ≡ c.look_up-classes.new.units
    = refilled self.units c.look_up-classes.new.units (c.look_up-classes.ensures.len ∙ ap length c.deref_mut.ensures.value) in
    let front : take size (boxed_slice_items column) ≡ us = ap (take size) same ∙ c.look_up-classes.ensures.units in
    let text : take c.size-len.result c.deref.result.now ≡ us =
    ap (take c.size-len.result) c.deref.ensures.value ∙
    ap (λ (n : ℕ). take n (boxed_slice_items column)) c.size-len.ensures ∙ front in
    let laid : layout_in c.lay_out_units.new.scratch ≡ layout_of ask.limits us ask.direction breaks =
    c.lay_out_units.ensures.laid_out ∙
    ap (λ (xs : List BidiUnit). layout_of ask.limits xs ask.direction c.in-Ok.breaks.positions) text
    ∙ ap (λ (b : BreaksView). layout_of ask.limits us ask.direction b.positions) c.in-Ok.ensures.0 in
    let new = record self {
      scratch = c.lay_out_units.new.scratch;
      units = column;
      spelled = false;
      direction = ask.direction;
      limits = ask.limits;
    } in
    let are : AreBreaks breaks (length us) = subst (AreBreaks breaks) (c.size-len.ensures ∙ sym len) c.in-Ok.ensures.1 in
    let shows = shows_plain new us breaks laid
    (ap (λ (k : ℕ). take k (boxed_slice_items column)) len ∙ front) are refl in
    subst (λ (a : AskOf). Leaves a c.args.tables.now c.args.self.now (seen new) (Ok tt)) c.ask.view_is (record {
      capacity = c.lay_out_units.ensures.room ∙ capacity;
      encodes = ap (λ (r : RoomOf). r.encodes) c.self.view_is;
      unchanged = tt;
      rejected = tt;
      taken = record {
        fits = record {
          kind = λ is. absurd (plain is);
          size = omega (arith, c.if-room-len.false, c.room.ensures, capacity, c.size-len.ensures);
        };
        well_formed = c.in_default.ensures.well_formed;
        inside = subst (AreBreaks breaks) c.size-len.ensures c.in-Ok.ensures.1;
      };
      text = record { units = shows.units; direction = refl; limits = refl; offsets = λ k le. offset_plain source plain k };
      broken = shows.broken;
    })
