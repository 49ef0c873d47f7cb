use Rattle.std.proofs.Common.{◌+◌, ◌<◌, ◌≤◌, length, take}
use Rattle.units.specs.Layout.{longest_text}
use Rattle.printing.proofs.ReadingOn.{ReadsOn}
use Rattle.printing.proofs.reading.read_on.Given as goal

abbrev pub invariant-loop-n : goal.invariant-loop-n
invariant-loop-n g l = record {
  on : ReadsOn g.S.ByteSource.gives l.initial.source l.source l.initial.place l.place
      (take l.initial.filled l.initial.buffer) (take l.filled l.buffer);
  long : 4 < length l.buffer;
  within : l.filled ≤ length l.buffer;
  line : l.place.line ≤ l.place.offset + 1;
  bound : l.place.offset + l.filled + g.S.ByteSource.most_remaining l.source ≤ longest_text;
}

abbrev pub decreases-loop-n : goal.decreases-loop-n
decreases-loop-n g l = g.S.ByteSource.most_remaining l.source
