use Rattle.std.proofs.Common.{◌≤◌, ◌-◌, List, length}
use Rattle.decoding.specs.Decoded.{IsReadTo}
use Rattle.decoding.specs.Offsets.{Spelled}
use Rattle.decoding.proofs.lossy.decode_utf8_lossy.Given as goal

abbrev pub invariant-loop-reached : goal.invariant-loop-reached
invariant-loop-reached l =
    record {
      few : l.reached.characters ≤ l.reached.code_units;
      inside : l.reached.code_units ≤ length l.bytes;
      read : (front : List Spelled) × IsReadTo l.tables l.bytes front l.reached l.units l.starts;
    }

abbrev pub decreases-loop-reached : goal.decreases-loop-reached
decreases-loop-reached l = length l.bytes - l.reached.code_units
