use Rattle.std.proofs.Common.{◌-◌, length, take}
use Rattle.units.specs.Classes.{classes_of}
use Rattle.paragraph.specs.ClassSets.{IsSetOf}
use Rattle.decoding.specs.Decoded.{IsReadUpTo}
use Rattle.decoding.proofs.utf8.decode_blocks.Given as goal

-- the characters before the offset are written, and the set has their classes
abbrev pub invariant-loop-passed : goal.invariant-loop-passed
invariant-loop-passed l =
    record {
      read : IsReadUpTo l.borrowed l.bytes l.passed.reached l.units l.starts;
      classes : IsSetOf l.passed.classes (classes_of (take l.passed.reached.characters l.units));
    }

abbrev pub decreases-loop-passed : goal.decreases-loop-passed
decreases-loop-passed l = length l.bytes - l.passed.reached.code_units
