use Rattle.std.proofs.Common.{◌≡◌, ◌+◌, ◌++◌, List, length, take}
use Rattle.decoding.specs.Decoded.{IsWritten}
use Rattle.decoding.specs.Encodings.{utf8_text}
use Rattle.decoding.specs.Offsets.{Spelled, offset_of}
use Rattle.decoding.proofs.utf8.fill_str.Given as goal

abbrev pub invariant-loop-c : goal.invariant-loop-c
invariant-loop-c l =
    record {
      characters : l.characters ≡ l.fn.before.characters + length l.yielded;
      code_units : l.code_units ≡ l.fn.before.code_units + offset_of (utf8_text l.text) (length l.yielded);
      written : (front : List Spelled) → IsWritten l.tables front l.fn.before l.fn.units l.fn.starts
          → IsWritten l.tables (front ++ take (length l.yielded) (utf8_text l.text)) (record {
            characters =
                l.characters;
            code_units = l.code_units;
          }) l.units l.starts;
    }
