use Rattle.std.proofs.Common.{◌≡◌, ◌<◌, ◌≤◌, ap, length, false, get_or, arith}
use Rattle.std.specs.List.{list_any, AllWithin}
use Rattle.ucdfiles.specs.declared.span.Span.{Span}
use Rattle.ucdfiles.specs.Spans.{overlaps}
use Rattle.ucdfiles.proofs.Rising.{overlaps-none, begins_above, rising-insert, data_fault-none, Adds-insert}
use Rattle.ucdfiles.proofs.spans.add_span.Goals.{else-ended-len-via-then-ended-len+else-index-span, else-ended-len-via-else-ended-len}
use Rattle.ucdfiles.proofs.spans.add_span.Goals as goal

pub returns-in-Ok-clause-rising : goal.returns-in-Ok-clause-rising
returns-in-Ok-clause-rising g c =
    let ss = c.args.spans.now.items in
    let n = c.ended_before-ended.result in
    let within : n ≤ length ss = omega (arith, ap length c.deref.ensures.value, c.ended_before-ended.ensures.bound) in
    let below : AllWithin (λ (s : Span g.row.V.Denot). s.last < c.args.span.first) ss 0 n =
    rw c.deref.ensures.value at c.ended_before-ended.ensures.below in
    let above = λ (lt : n < length ss) (d : Span g.row.V.Denot). (let e : c.args.span.last < (get_or ss n d).first =
    elim c.else-ended-len.branch [
      | else-ended-len-via-then-ended-len+else-index-span w ↦
          let over : c.args.span.last < (get_or ss n w.index.result.now).first =
          omega (arith, ap (λ (s : Span g.row.V.Denot). s.first) w.index.ensures, w.if-index-span.false) in
          begins_above ss n c.args.span.last w.index.result.now over lt d
      | else-ended-len-via-else-ended-len w ↦ absurd (omega arith)
    ] in e) in
    rw c.in-Ok.ensures.items (rising-insert ss n c.args.span c.requires.span c.requires.rising within below above)

pub returns-in-Ok-clause-ok : goal.returns-in-Ok-clause-ok
returns-in-Ok-clause-ok g c =
    let rs = c.args.spans.now.items in
    let within : c.ended_before-ended.result ≤ length rs =
    omega (arith, ap length c.deref.ensures.value, c.ended_before-ended.ensures.bound) in
    let below : AllWithin (λ (s : Span g.row.V.Denot). s.last < c.args.span.first) rs 0 c.ended_before-ended.result =
    rw c.deref.ensures.value at c.ended_before-ended.ensures.below in
    let none : list_any (overlaps c.args.span) rs ≡ false =
    overlaps-none rs c.ended_before-ended.result c.args.span c.requires.rising within below (λ lt d.
    elim c.else-ended-len.branch [
      | else-ended-len-via-then-ended-len+else-index-span w ↦
          let above : c.args.span.last < (get_or rs c.ended_before-ended.result w.index.result.now).first =
          omega (arith, ap (λ (s : Span g.row.V.Denot). s.first) w.index.ensures, w.if-index-span.false) in
          begins_above rs c.ended_before-ended.result c.args.span.last w.index.result.now above lt d
      | else-ended-len-via-else-ended-len w ↦ absurd (omega arith)
    ]) in (
      rw c.in-Ok.ensures.items (Adds-insert rs c.ended_before-ended.result c.args.span within none),
      data_fault-none c.args.taken rs c.args.span (omega arith) none,
    )
