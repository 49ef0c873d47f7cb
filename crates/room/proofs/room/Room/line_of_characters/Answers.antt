use Rattle.std.proofs.Common.{◌≡◌, ◌∙◌, ◌<◌, ◌≤◌, ℕ, List, ap, arith, length, subst, sym, take}
use Rattle.std.specs.Prelude.{Result, Option, IfOk, MatchResult, Ok, Err}
use Rattle.std.specs.List.{All}
use Rattle.std.specs.Box.{boxed_slice_items}
use Rattle.std.proofs.lemmas.List.{length-map, length-take}
use Rattle.units.specs.Layout.{layout_of}
use Rattle.units.specs.Reordering.{line_order}
use Rattle.units.specs.declared.bracket.Unit.{Unit as BidiUnit}
use Rattle.lines.proofs.Theorem.{line_order-places}
use Rattle.lines.proofs.Lengths.{length-levels}
use Rattle.lines.specs.LinesAlone.{RejectsSpan, breaks_around}
use Rattle.lines.specs.Scratches.{layout_in, HoldsText}
use Rattle.lines.specs.declared.alone.SpanFault.{SpanFault}
use Rattle.room.specs.Rooms.{characters_in}
use Rattle.room.proofs.room.Room.line_of_characters.Goals as goal

-- what holds of a line that is written
of_written : {P Q : ℕ → Type 0} (R : SpanFault → Type 0) (shown : Result ℕ SpanFault) → MatchResult shown P R →
    ((n : ℕ) → P n → Q n) → IfOk shown Q
of_written R (Ok n) h f = f n h
of_written R (Err fault) h f = tt

pub returns-clause-inside : goal.returns-clause-inside
returns-clause-inside c =
    let self = c.self.inside in
    let first = c.args.first in
    let last = c.args.last in
    let count : c.characters-count.result ≡ length (layout_in self.scratch).levels = c.characters-count.ensures ∙
    sym (ap characters_in c.self.view_is) in
    let text : List BidiUnit = take c.characters-count.result c.deref.result.now in
    let same : take (length (layout_in self.scratch).levels) (boxed_slice_items self.units) ≡ text =
    ap (λ (k : ℕ). take k (boxed_slice_items self.units)) (sym count) ∙
    ap (take c.characters-count.result) (sym c.deref.ensures.value) in
    let stored = subst (λ (us : List BidiUnit).
    HoldsText self.limits us self.direction self.scratch) same c.self.invariant.holds in
    let levels : List (Option ℕ) = (layout_of self.limits text self.direction (breaks_around first last)).levels in
    let long : length levels ≡ length text = length-levels self.limits text self.direction (breaks_around first last) in
    let few : length text ≤ characters_in c.args.self.now =
    omega (arith, length-take c.characters-count.result c.deref.result.now, c.characters-count.ensures) in
    of_written (RejectsSpan text first last) c.line_of_into.result c.line_of_into.ensures.line
    (λ shown w.
    let laid = w.line self.limits self.direction (breaks_around first last) stored w.taken in
    let within : last ≤ length levels = omega (
      arith,
      w.taken.within,
      length-map text (λ (u : BidiUnit). u.class),
      long,
    ) in
    let places : All (λ p. p < length levels) (line_order levels first last) =
    line_order-places levels first last (omega (arith, w.taken.above)) within in
    subst (λ (xs : List ℕ). All (λ k. k < characters_in c.args.self.now) xs) (sym laid.ordered)
    (λ i d lt. let low = places i d lt in omega (arith, low, long, few)))
