use Rattle.std.proofs.Common.{◌≡◌, ◌<◌, ◌+◌, ◌*◌, ◌-◌, ℕ, length, take}
use Rattle.units.specs.Classes.{classes_of}
use Rattle.paragraph.specs.ClassSets.{IsSetOf}
use Rattle.decoding.specs.Decoded.{IsWritten}
use Rattle.decoding.specs.Encodings.{utf16_text, IsAt, IsPaired}
use Rattle.decoding.specs.declared.fault.Faults.TheVariants.{Rejected}
use Rattle.decoding.proofs.utf16.decode_units.Given as goal

abbrev pub invariant-loop-at : goal.invariant-loop-at
invariant-loop-at l =
    record {
      reached : IsAt l.text l.count l.at;
      written : IsWritten l.tables (take l.count (utf16_text l.text)) (record {
        characters = l.count;
        code_units =
            l.at;
      }) l.units l.starts;
      paired : l.fn.faults ≡ Rejected → (k : ℕ) → k < l.count → IsPaired l.text k;
      classes : IsSetOf l.classes (classes_of (take l.count l.units));
    }

-- fewer code units are left, or the next test is later
abbrev pub decreases-loop-at : goal.decreases-loop-at
decreases-loop-at l = (length l.text - l.at) * 2 + (l.at + 16 - l.tested)
