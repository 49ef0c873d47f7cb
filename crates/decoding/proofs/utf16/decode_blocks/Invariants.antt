use Rattle.std.proofs.Common.{◌≤◌, ◌<◌, ◌-◌, ℕ, length, take}
use Rattle.units.specs.Classes.{classes_of}
use Rattle.paragraph.specs.ClassSets.{IsSetOf}
use Rattle.decoding.specs.Decoded.{IsWritten}
use Rattle.decoding.specs.Encodings.{utf16_text, IsAt, IsPaired}
use Rattle.decoding.proofs.utf16.decode_blocks.Given as goal

abbrev pub invariant-scalars : goal.invariant-scalars
invariant-scalars l =
    record {
      from : l.fn.before.reached.code_units ≤ l.at;
      reached : IsAt l.text l.count l.at;
      written : IsWritten l.tables (take l.count (utf16_text l.text)) (record {
        characters = l.count;
        code_units = l.at;
      }) l.units l.starts;
      paired : (k : ℕ) → l.fn.before.reached.characters ≤ k → k < l.count → IsPaired l.text k;
      classes : IsSetOf l.classes (classes_of (take l.count l.units));
    }

abbrev pub decreases-scalars : goal.decreases-scalars
decreases-scalars l = length l.text - l.at
