use Rattle.std.proofs.Common.{◌≡◌, ◌*◌, ◌≤◌, length, take}
use Rattle.std.specs.Char.Escape.{encode_utf16}
use Rattle.std.specs.List.{flat_map}
use Rattle.room.specs.ShownUnits.{ArePut, shown_units_of, utf16_code_at}
use Rattle.room.proofs.room.Room.put_shown_utf16.Given as goal

-- the characters before i are put
abbrev pub invariant-loop-i : goal.invariant-loop-i
invariant-loop-i l = record {
  len : length l.out ≡ length l.fn.out;
  few : l.count ≤ 4 * l.i;
  put : ArePut (flat_map (shown_units_of encode_utf16 (utf16_code_at l.text) l.tables l.self) (take l.i l.order))
      l.count l.out;
}
