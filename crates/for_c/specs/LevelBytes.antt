-- Levels as bytes.
use Rattle.std.specs.Prelude.{ℕ, Option}
use Rattle.std.specs.Option.{unwrap_or}

-- a level as a byte, 255 if there is none
abbrev pub level_byte : Option ℕ → ℕ
level_byte level = unwrap_or level 255
