use Rattle.std.proofs.Common.{◌≡◌, take}
use Rattle.rows.specs.Letters.{units_of}
use Rattle.rows.proofs.letters.fill_units.Given as goal

abbrev pub invariant-loop-place : goal.invariant-loop-place
invariant-loop-place l = record { units : take l.place l.units ≡ units_of (take l.place l.text) }
