use Rattle.std.proofs.Common.{rules, ◌≡◌, ◌-◌, ◌≤◌, ◌<◌, ap, arith, length, length-drop, take, drop}
use Rattle.std.proofs.lemmas.List.{length-take}
use Rattle.std.proofs.lemmas.List.Sums.{count_by-le-length}
use Rattle.std.proofs.lemmas.Str.{utf8_valid_len_le}
use Rattle.printing.specs.TextPlaces.{ends_line}
use Rattle.printing.proofs.ReadBytesLemmas.{filled_is, length_front}
use Rattle.printing.proofs.ReadingOn.{cut_broken, cut_whole, nothing_more, taken_on, up_to}
use Rattle.printing.proofs.reading.read_on.Goals as goal

pub returns-in-Err : goal.returns-in-Err
returns-in-Err g c = λ start begun.
    let l = c.loop-n in
    let gives = g.S.ByteSource.gives in
    let joined = g.met.S.ByteSource.gives_joined in
    let cut = taken_on gives joined start _ _ _ _ _ _ _ _ _ _ l.invariant.on l.invariant.within
    (ap length c.utf8_front-taken.ensures)
    c.after-place.ensures.line c.after-place.ensures.offset c.hold-stored.ensures.stored begun in
    let last = nothing_more gives joined start _ _ _ _ cut c.in-Err.ensures.none_given in
    let failed : g.S.ByteSource.failures c.read.new.self ≡ 1 = search rules in
    (last.bytes, last.given, failed)

pub returns-in-Ok-eq0 : goal.returns-in-Ok-eq0
returns-in-Ok-eq0 g c = λ start begun.
    let l = c.loop-n in
    let gives = g.S.ByteSource.gives in
    let joined = g.met.S.ByteSource.gives_joined in
    let cut = taken_on gives joined start _ _ _ _ _ _ _ _ _ _ l.invariant.on l.invariant.within
    (ap length c.utf8_front-taken.ensures)
    c.after-place.ensures.line c.after-place.ensures.offset c.hold-stored.ensures.stored begun in
    let none = rw c.in-Ok-eq0.field-0-test at c.in-Ok-eq0.ensures.given in
    let last = nothing_more gives joined start _ _ _ _ cut none in
    let ended : g.S.ByteSource.ended c.read.new.self = search rules in
    let some : 0 < length (take c.hold-stored.result c.hold-stored.new.buffer) =
    omega (
      arith,
      c.if-stored-gt0.true,
      c.hold-stored.ensures.few,
      c.hold-stored.ensures.len,
      l.invariant.long,
      length-take c.hold-stored.result c.hold-stored.new.buffer,
    ) in
    (last.bytes, last.given, (ended, cut_broken last.bytes last.front _ _ last.cut last.place_is some))

pub returns-in-Ok-eq0-2 : goal.returns-in-Ok-eq0-2
returns-in-Ok-eq0-2 g c = λ start begun.
    let l = c.loop-n in
    let gives = g.S.ByteSource.gives in
    let joined = g.met.S.ByteSource.gives_joined in
    let cut = taken_on gives joined start _ _ _ _ _ _ _ _ _ _ l.invariant.on l.invariant.within
    (ap length c.utf8_front-taken.ensures)
    c.after-place.ensures.line c.after-place.ensures.offset c.hold-stored.ensures.stored begun in
    let none = rw c.in-Ok-eq0.field-0-test at c.in-Ok-eq0.ensures.given in
    let last = nothing_more gives joined start _ _ _ _ cut none in
    let ended : g.S.ByteSource.ended c.read.new.self = search rules in
    let all : length (take c.hold-stored.result c.hold-stored.new.buffer) ≡ 0 =
    omega (arith, c.if-stored-gt0.false, length-take c.hold-stored.result c.hold-stored.new.buffer) in
    (last.bytes, last.given, (ended, cut_whole last.bytes last.front _ last.cut all))

pub loop-n-preserved : goal.loop-n-preserved
loop-n-preserved g c =
    let l = c.loop-n in
    let gives = g.S.ByteSource.gives in
    let joined = g.met.S.ByteSource.gives_joined in
    let buffer = c.hold-stored.new.buffer in
    let stored = c.hold-stored.result in
    let n = c.in-Ok.n in
    let taken = length c.utf8_front-taken.result.now in
    let front = ap length c.utf8_front-taken.ensures in
    let first : taken ≤ l.filled =
    omega (
      arith,
      front,
      length_front (take l.filled l.buffer),
      utf8_valid_len_le (take l.filled l.buffer),
      length-take l.filled l.buffer,
    ) in
    let filled = filled_is buffer c.read.new.buf stored n (length buffer - stored) (omega (
      arith,
      c.hold-stored.ensures.few,
      c.hold-stored.ensures.len,
      l.invariant.long,
    )) c.in-Ok.ensures.bound in
    record {
      on = record {
        reads = λ start begun. up_to gives joined start l.source c.read.new.self c.after-place.result
            (take stored buffer) (take n c.read.new.buf) _
            (taken_on gives joined start _ _ _ _ _ _ _ _ _ _ l.invariant.on l.invariant.within front
            c.after-place.ensures.line c.after-place.ensures.offset c.hold-stored.ensures.stored begun)
            c.in-Ok.ensures.given filled;
      };
      long = search rules;
      within = search rules;
      line = omega (
        arith,
        c.after-place.ensures.line,
        c.after-place.ensures.offset,
        l.invariant.line,
        count_by-le-length ends_line (take taken l.buffer),
      );
      bound = omega (
        arith,
        first,
        l.invariant.bound,
        l.invariant.long,
        l.invariant.within,
        c.in-Ok.ensures.most_remaining,
        c.after-place.ensures.offset,
        c.hold-stored.ensures.few,
        c.hold-stored.ensures.len,
        ap length c.hold-stored.ensures.stored,
        length-take taken l.buffer,
        length-take stored buffer,
        length-take 4 (drop taken (take l.filled l.buffer)),
        length-drop taken (take l.filled l.buffer),
        length-take l.filled l.buffer,
      );
    }
