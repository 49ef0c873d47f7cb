-- The text of bytes that may be ill-formed: each maximal subpart that is ill-formed becomes U+FFFD.
use Rattle.std.specs.Prelude.{ℕ, zero, suc, List, [], ◌∷◌, ◌++◌, length, take, drop}
use Rattle.std.specs.Str.Lossy.{after_first_chunk, utf8_invalid_len, utf8_valid_len}
use Rattle.decoding.specs.Encodings.{utf8_text}
use Rattle.decoding.specs.Offsets.{Spelled}

-- U+FFFD, spelled by n bytes; nothing if n is 0
abbrev pub replaced : ℕ → List Spelled
replaced zero = []
replaced (suc n) = record { code = 0xFFFD; width = suc n } ∷ []

-- the longest well-formed front, and U+FFFD for the maximal subpart after it: the bytes that could begin a character,
-- or else one byte; there is no U+FFFD if the front is all of the bytes
abbrev pub first_chunk : List ℕ → List Spelled
first_chunk bytes = utf8_text (take (utf8_valid_len bytes) bytes) ++
    replaced (utf8_invalid_len (drop (utf8_valid_len bytes) bytes))

-- n of these chunks, one after another
unfoldable pub chunks : ℕ → List ℕ → List Spelled
chunks zero bytes = []
chunks (suc n) bytes = first_chunk bytes ++ chunks n (after_first_chunk bytes)

-- the text that the bytes spell, with U+FFFD for each maximal subpart; each chunk has a byte, so `length bytes` chunks
-- are enough
abbrev pub utf8_lossy_text : List ℕ → List Spelled
utf8_lossy_text bytes = chunks (length bytes) bytes
