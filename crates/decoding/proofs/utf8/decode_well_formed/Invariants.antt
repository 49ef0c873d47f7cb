use Rattle.std.proofs.Common.{◌≤◌, ◌-◌, length, take}
use Rattle.std.specs.Str.{IsUtf8}
use Rattle.decoding.specs.Decoded.{IsWritten}
use Rattle.decoding.specs.Encodings.{utf8_text}
use Rattle.decoding.proofs.utf8.decode_well_formed.Given as goal

abbrev pub invariant-loop-at : goal.invariant-loop-at
invariant-loop-at l =
    record {
      few : l.count ≤ l.at;
      inside : l.at ≤ length l.bytes;
      front : IsUtf8 (take l.at l.bytes);
      written : IsWritten l.tables (utf8_text (take l.at l.bytes)) (record {
        characters = l.count;
        code_units =
            l.at;
      }) l.units l.starts;
    }

abbrev pub decreases-loop-at : goal.decreases-loop-at
decreases-loop-at l = length l.bytes - l.at
