use Rattle.std.proofs.Common.{◌≡◌, ◌*◌, map, take}
use Rattle.units.specs.Classes.{classes_of}
use Rattle.ucdfiles.specs.UnitStages.{unit_by_stages}
use Rattle.paragraph.specs.ClassSets.{IsSetOf}
use Rattle.sources.proofs.codes.write_blocks.Given as goal

-- the units of the code points of the blocks before this one are there, and the set has their classes
abbrev pub invariant-loop-block : goal.invariant-loop-block
invariant-loop-block l =
    record {
      written : take (l.block * 4) l.units ≡ map (unit_by_stages l.borrowed) (take (l.block * 4) l.codes);
      classes : IsSetOf l.classes (classes_of (take (l.block * 4) l.units));
    }
