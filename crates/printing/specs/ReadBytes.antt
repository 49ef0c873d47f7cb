-- Bytes that are read piece by piece, and cut after the last complete character.
use Rattle.std.specs.Prelude.{◌≡◌, ℕ, List, ◌++◌, take}
use Rattle.std.specs.Str.{IsUtf8, StartsWithNoChar}

-- the bytes so far are a text and the rest after it, where no character begins; the buffer has the first four bytes of
-- the rest, or all of it: with further bytes, fewer than four can become a character, but four that begin none cannot
pub record IsReadTo (bytes front stored : List ℕ) : Type 0 where
  pub remaining : List ℕ
  pub joined : front ++ remaining ≡ bytes
  pub utf8 : IsUtf8 front
  pub none : StartsWithNoChar remaining
  pub first : stored ≡ take 4 remaining
