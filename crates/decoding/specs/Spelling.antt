-- One character of a text in UTF-8, as its bytes.
use Rattle.std.specs.Prelude.{ℕ, ◌≡◌, ◌+◌, ◌<◌, ◌≤◌, ◌*◌, List, ◌++◌, length, take, slice_index}
use Rattle.std.specs.Char.{encode_utf8, IsScalar}
use Rattle.std.specs.Str.{StartsWithNoChar}
use Rattle.decoding.specs.declared.known.InBlock.{InBlock}

-- the byte is a continuation byte
pub record Continues (byte : ℕ) : Type 0 where
  pub least : 0x80 ≤ byte
  pub most : byte < 0xC0

-- the bytes are those of the character
pub record IsOfBytes (bytes : List ℕ) (c : ℕ) : Type 0 where
  pub scalar : IsScalar c
  pub bytes_of : encode_utf8 c ≡ bytes

-- no character begins with these bytes, whatever follows them
abbrev pub BeginNoChar : List ℕ → Type 0
BeginNoChar bytes = (rest : List ℕ) → StartsWithNoChar (bytes ++ rest)

-- a character begins at the offset: `found` is the character and the offset after it
pub record IsSpelled (bytes : List ℕ) (at : ℕ) (found : ℕ × ℕ) : Type 0 where
  pub scalar : IsScalar found.0
  pub following : found.1 ≡ at + length (encode_utf8 found.0)
  pub inside : found.1 ≤ length bytes
  pub spelled : take found.1 bytes ≡ take at bytes ++ encode_utf8 found.0

-- a character begins at the offset: `found` has its block of 128 code points, its index there, and the offset after it
pub record IsInBlock (bytes : List ℕ) (at : ℕ) (found : InBlock) : Type 0 where
  pub block : found.block < 8704
  pub index : found.index < 128
  pub spelled : IsSpelled bytes at (found.block * 128 + found.index, found.following)

-- each byte `above` is followed by one that is at least `limit`, and each byte `below` by a smaller one; nothing
-- follows the last byte
pub record AreFollowed (bytes : List ℕ) (above below limit : ℕ) : Type 0 where
  pub least : (k : ℕ) → k + 1 < length bytes → slice_index bytes k ≡ above → limit ≤ slice_index bytes (k + 1)
  pub most : (k : ℕ) → k + 1 < length bytes → slice_index bytes k ≡ below → slice_index bytes (k + 1) < limit
