-- Known bytes, and bytes that wait to be written after them.
use Rattle.std.specs.Prelude.{Option, ℕ, List, ◌++◌, Some, None}

-- the known bytes once the waiting bytes are written
abbrev pub with_waiting : Option (List ℕ) → List ℕ → Option (List ℕ)
with_waiting None waiting = None
with_waiting (Some known) waiting = Some (known ++ waiting)
