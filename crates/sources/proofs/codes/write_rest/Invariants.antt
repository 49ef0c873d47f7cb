use Rattle.std.proofs.Common.{◌≡◌, map, take}
use Rattle.units.specs.Classes.{classes_of}
use Rattle.ucdfiles.specs.UnitStages.{unit_by_stages}
use Rattle.paragraph.specs.ClassSets.{IsSetOf}
use Rattle.sources.proofs.codes.write_rest.Given as goal

-- the units of the code points before k are there, and the set has their classes
abbrev pub invariant-loop-k : goal.invariant-loop-k
invariant-loop-k l =
    record {
      written : take l.k l.units ≡ map (unit_by_stages l.borrowed) (take l.k l.codes);
      classes : IsSetOf l.classes (classes_of (take l.k l.units));
    }
