use Rattle.std.proofs.Common.{◌≡◌, ◌≤◌, length, take}
use Rattle.printing.proofs.ReadSources.{HasRead}
use Rattle.printing.proofs.reading.read_text.Given as goal

abbrev pub invariant-loop-n : goal.invariant-loop-n
invariant-loop-n g l = record {
  read : HasRead g.S.ByteSource.gives g.S.ByteSource.most_remaining l.initial.source l.source
      (g.W.Write.contents l.initial.w) (g.W.Write.contents l.w) l.initial.begun l.begun (take l.stored l.buffer)
      l.place;
  few : l.stored ≤ 4;
  long : length l.buffer ≡ 4096;
}

abbrev pub decreases-loop-n : goal.decreases-loop-n
decreases-loop-n g l = g.S.ByteSource.most_remaining l.source
