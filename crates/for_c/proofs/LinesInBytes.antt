-- One line alone, with its levels as bytes.
use Rattle.std.proofs.Common.{◌≡◌, ◌∙◌, ◌≤◌, ℕ, List, Option, ap, arith, drop, length, map, sym, take}
use Rattle.std.specs.Prelude.{◌-◌, ◌++◌}
use Rattle.std.proofs.lemmas.List.{length-map, length-take-le}
use Rattle.std.proofs.Math.Seq.{take-append_seam}
use Rattle.room.specs.LineOf.{WritesLineOf}
use Rattle.room.specs.Rooms.{RoomOf}
use Rattle.room.specs.Written.{WritesWhole}
use Rattle.for_c.specs.LevelBytes.{level_byte}
use Rattle.for_c.specs.RoomCalls.{WritesLineBytes}

-- a column that is put back unchanged
pub put_back : {A : Type 0} (column rest put : List A) (n : ℕ) → length column ≡ n → put ≡ take n (column ++ rest) →
    put ≡ column
put_back column rest put n len is = is ∙ ap (λ (m : ℕ). take m (column ++ rest)) (sym len) ∙
    take-append_seam column rest

-- the levels of the line are written as bytes
pub written_bytes : (room : RoomOf) (start end count counted : ℕ) (column column2 : List (Option ℕ))
    (levels levels2 order order2 : List ℕ) (shown : ℕ)
    → count ≡ end - start → count ≤ length column2 → count ≤ length levels →
    WritesLineOf room start end column column2 order order2 shown
    → WritesWhole (map level_byte (take count column2)) counted levels levels2 →
    WritesLineBytes room start end levels levels2 order order2 shown
written_bytes room start end count counted column column2 levels levels2 order order2 shown is inside fits line writes =
    let n : length (map level_byte (take count column2)) ≡ count = length-map (take count column2) level_byte ∙
    length-take-le count column2 inside in
    let all : length (map level_byte (take count column2)) ≡ end - start = n ∙ is in
    record {
      column = column;
      column2 = column2;
      line = line;
      bytes = ap (λ (m : ℕ). take m levels2) (sym all) ∙ writes.written (omega (arith, n, fits)) ∙
          ap (λ (m : ℕ). map level_byte (take m column2)) is;
      following = ap (λ (m : ℕ). drop m levels2) (sym all) ∙ writes.following ∙ ap (λ (m : ℕ). drop m levels) all;
    }
