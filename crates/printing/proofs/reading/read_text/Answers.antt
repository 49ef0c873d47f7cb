use Rattle.std.proofs.Common.{rules, [], ◌≡◌, ℕ, ◌+◌, ◌-◌, ◌≤◌, List, ◌++◌, ap, append-nil, arith, length, length-append, refl, subst, sym, take, ◌∙◌}
use Rattle.std.proofs.lemmas.List.{length-take}
use borrow.Rule.Slice.PartMut.{put_mid}
use Rattle.units.specs.Layout.{longest_text}
use Rattle.printing.specs.UnfinishedParagraphs.{chars_so_far}
use Rattle.printing.proofs.FailedWrites.{stop_reports}
use Rattle.printing.proofs.ReadBytesLemmas.{filled_is}
use Rattle.printing.proofs.ReadSources.{HasRead, cut_of, ended_read, last_ends, more_fits, nothing_read, read_more, stop_ends, whole_read}
use Rattle.printing.proofs.ReadingOn.{cut_broken, cut_whole, up_to}
use Rattle.printing.proofs.TextPlaces.{passed_is}
use Rattle.printing.proofs.UnderWay.{chars_le}
use Rattle.printing.proofs.reading.read_text.Goals as goal

pub loop-n-init : goal.loop-n-init
loop-n-init g c =
    record {
      read = subst (HasRead g.S.ByteSource.gives g.S.ByteSource.most_remaining c.args.source.now c.args.source.now
          (g.W.Write.contents c.args.w.now) (g.W.Write.contents c.args.w.now) c.args.begun.now c.args.begun.now [])
          (sym c.start-place.ensures)
          (nothing_read _ _ _ _ _ (g.met.S.ByteSource.gives_nothing _) c.requires.bound c.requires.new);
      few = omega arith;
      long = refl;
    }

pub returns-in-Err-clause-fault : goal.returns-in-Err-clause-fault
returns-in-Err-clause-fault g c =
    let read = c.loop-n.invariant.read in
    let failed : g.S.ByteSource.failures c.read.new.self ≡ 1 = search rules in (
      read.bytes,
      subst (λ xs. g.S.ByteSource.gives c.args.source.now xs c.read.new.self) (append-nil read.bytes)
          (g.met.S.ByteSource.gives_joined _ _ _ _ _ read.given c.in-Err.ensures.none_given),
      (failed, ended_read _ _ _ _ _ _ _ _ _ _ read c.requires.new),
    )

pub take_front-requires : goal.take_front-requires
take_front-requires g c =
    let l = c.loop-n in
    let buf = c.read.new.buf in
    let n = c.in-Ok.n in
    let filled = filled_is l.buffer buf l.stored n (4096 - l.stored) (omega (
      arith,
      l.invariant.few,
      l.invariant.long,
    )) c.in-Ok.ensures.bound in
    let falls : g.S.ByteSource.most_remaining c.read.new.self + length (take n buf) ≤
    g.S.ByteSource.most_remaining l.source =
    omega (arith, c.in-Ok.ensures.most_remaining, length-take n buf) in
    subst (λ (bs : List ℕ). chars_so_far l.begun.paragraph + length bs ≤ longest_text) (sym filled)
    (more_fits _ _ _ _ _ l.source c.read.new.self (g.W.Write.contents l.w)
    (g.W.Write.contents l.w) l.begun l.begun (take l.stored l.buffer) (take n buf) l.place l.invariant.read falls)

pub returns-in-Err-take_front-clause-fault : goal.returns-in-Err-take_front-clause-fault
returns-in-Err-take_front-clause-fault g c =
    let l = c.loop-n in
    let read = l.invariant.read in
    let buf = c.read.new.buf in
    let n = c.in-Ok.n in
    let joined = g.met.S.ByteSource.gives_joined in
    let filled = filled_is l.buffer buf l.stored n (4096 - l.stored) (omega (
      arith,
      l.invariant.few,
      l.invariant.long,
    )) c.in-Ok.ensures.bound in
    let given = joined _ _ _ _ _ read.given c.in-Ok.ensures.given in
    let cut = cut_of _ _ _ _ _ _ _ _ _ _ read c.requires.new in
    stop_ends _ _ _ _ _ _ _ g.S.ByteSource.gives _ c.read.new.self _ _ given c.in-Err-take_front.stop
    c.end_unwritten.result
    c.end_unwritten.ensures.unread c.end_unwritten.ensures.memory
    (λ is. c.end_unwritten.ensures.write is c.args.source.now
    (up_to g.S.ByteSource.gives joined c.args.source.now l.source c.read.new.self l.place (take l.stored l.buffer)
    (take n buf) _ cut c.in-Ok.ensures.given filled))

pub returns-in-Err-take_front-clause-reported : goal.returns-in-Err-take_front-clause-reported
returns-in-Err-take_front-clause-reported g c =
    let l = c.loop-n in
    let buf = c.read.new.buf in
    let n = c.in-Ok.n in
    let joined = g.met.S.ByteSource.gives_joined in
    let filled = filled_is l.buffer buf l.stored n (4096 - l.stored) (omega (
      arith,
      l.invariant.few,
      l.invariant.long,
    )) c.in-Ok.ensures.bound in
    let cut = cut_of _ _ _ _ _ _ _ _ _ _ l.invariant.read c.requires.new in
    stop_reports (g.W.Output.failed_with c.take_front.new.w) g.S.ByteSource.gives _ _ c.args.source.now c.read.new.self _ c.in-Err-take_front.stop
    c.end_unwritten.result c.in-Err-take_front.ensures.stopped
    c.end_unwritten.ensures.unread c.end_unwritten.ensures.memory
    (λ is. c.end_unwritten.ensures.write is c.args.source.now
    (up_to g.S.ByteSource.gives joined c.args.source.now l.source c.read.new.self l.place (take l.stored l.buffer)
    (take n buf) _ cut c.in-Ok.ensures.given filled))

pub loop-n-preserved : goal.loop-n-preserved
loop-n-preserved g c =
    let l = c.loop-n in
    let buf = c.read.new.buf in
    let n = c.in-Ok.n in
    let taken = c.in-Ok-take_front.ensures in
    let filled = filled_is l.buffer buf l.stored n (4096 - l.stored) (omega (
      arith,
      l.invariant.few,
      l.invariant.long,
    )) c.in-Ok.ensures.bound in
    let falls : g.S.ByteSource.most_remaining c.read.new.self + length (take n buf) ≤
    g.S.ByteSource.most_remaining l.source =
    omega (arith, c.in-Ok.ensures.most_remaining, length-take n buf) in
    let given = g.met.S.ByteSource.gives_joined _ _ _ _ _ l.invariant.read.given c.in-Ok.ensures.given in
    let long : length c.hold-stored.new.buffer ≡ 4096 = search rules in
    let whole = put_mid l.stored (4096 - l.stored) l.buffer buf in
    let within : l.stored + n ≤ length whole =
    omega (
      arith,
      ap length filled,
      length-take (l.stored + n) whole,
      length-append (take l.stored l.buffer) (take n buf),
      length-take l.stored l.buffer,
      length-take n buf,
      c.in-Ok.ensures.bound,
      l.invariant.few,
      l.invariant.long,
    ) in
    record {
      read =
          read_more _ _ _ _ _ l.source c.read.new.self (g.W.Write.contents l.w) _ l.begun _
          (take l.stored l.buffer) (take n buf) l.place l.invariant.read falls
          _ _ _ filled taken.taken c.hold-stored.ensures.stored given taken.passed_in taken.printed _
          (passed_is l.place c.after-place.result whole (l.stored + n) _ within taken.taken c.after-place.ensures.line
          c.after-place.ensures.offset);
      few = c.hold-stored.ensures.few;
      long = long;
    }

pub returns-then-stored-gt0-clause-fault : goal.returns-then-stored-gt0-clause-fault
returns-then-stored-gt0-clause-fault g c =
    let l = c.loop-n in
    let read = l.invariant.read in
    let none : read.bytes ++ take c.in-Ok-eq0.field-0 c.read.new.buf ≡ read.bytes =
    ap (λ k. read.bytes ++ take k c.read.new.buf) c.in-Ok-eq0.field-0-test ∙ append-nil read.bytes in
    let ended : g.S.ByteSource.ended c.read.new.self = search rules in
    let some = c.if-stored-gt0.true in (
      read.bytes,
      subst (λ xs. g.S.ByteSource.gives c.args.source.now xs c.read.new.self) none
          (g.met.S.ByteSource.gives_joined _ _ _ _ _ read.given c.in-Ok-eq0.ensures.given),
      (
        ended,
        cut_broken read.bytes read.front (take l.stored l.buffer) l.place read.cut read.place_is (omega (
          arith,
          some,
          l.invariant.few,
          l.invariant.long,
          length-take l.stored l.buffer,
        )),
        ended_read _ _ _ _ _ _ _ _ _ _ read c.requires.new,
      ),
    )

pub print_last-requires : goal.print_last-requires
print_last-requires g c =
    let read = c.loop-n.invariant.read in
    omega (
      arith,
      read.passed_in,
      read.bound,
      chars_le read.front read.cut.utf8,
      ap length read.cut.joined,
      length-append read.front read.cut.remaining,
    )

pub returns-in_err-print_last-clause-fault : goal.returns-in_err-print_last-clause-fault
returns-in_err-print_last-clause-fault g c =
    let l = c.loop-n in
    let read = l.invariant.read in
    let none : read.bytes ++ take c.in-Ok-eq0.field-0 c.read.new.buf ≡ read.bytes =
    ap (λ k. read.bytes ++ take k c.read.new.buf) c.in-Ok-eq0.field-0-test ∙ append-nil read.bytes in
    let given = subst (λ xs. g.S.ByteSource.gives c.args.source.now xs c.read.new.self) none
    (g.met.S.ByteSource.gives_joined _ _ _ _ _ read.given c.in-Ok-eq0.ensures.given) in
    let ended : g.S.ByteSource.ended c.read.new.self = search rules in
    let utf8 = cut_whole read.bytes read.front (take l.stored l.buffer) read.cut (omega (
      arith,
      c.if-stored-gt0.false,
      length-take l.stored l.buffer,
    )) in
    last_ends _ _ _ _ _ _ _ (λ xs. g.S.ByteSource.gives c.args.source.now xs c.read.new.self) _ given ended utf8 _ _
    c.from_residual.ensures.1

pub returns-clause-printed : goal.returns-clause-printed
returns-clause-printed g c =
    let l = c.loop-n in
    let read = l.invariant.read in
    let none : read.bytes ++ take c.in-Ok-eq0.field-0 c.read.new.buf ≡ read.bytes =
    ap (λ k. read.bytes ++ take k c.read.new.buf) c.in-Ok-eq0.field-0-test ∙ append-nil read.bytes in
    let all = c.if-stored-gt0.false in (
      read.bytes,
      subst (λ xs. g.S.ByteSource.gives c.args.source.now xs c.read.new.self) none
          (g.met.S.ByteSource.gives_joined _ _ _ _ _ read.given c.in-Ok-eq0.ensures.given),
      whole_read _ _ _ _ _ _ _ _ _ _ read c.requires.new (omega (
        arith,
        all,
        length-take l.stored l.buffer,
      )) _ c.in_ok-print_last.ensures.printed,
    )
