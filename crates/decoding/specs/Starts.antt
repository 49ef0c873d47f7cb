-- The offsets at which the characters of a text begin, and the offset of its end.
use Rattle.std.specs.Prelude.{ℕ, ◌≡◌, ◌≢◌, ◌<◌, ◌≤◌, ◌+◌, List, length, map, slice_index}
use Rattle.std.specs.List.{All}

-- the offsets rise
abbrev pub Rises : List ℕ → Type 0
Rises starts = (j k : ℕ) → j < k → k < length starts → slice_index starts j < slice_index starts k

-- the offset is one of these offsets
pub record BeginsAt (starts : List ℕ) (at : ℕ) : Type 0 where
  pub index : ℕ
  pub inside : index < length starts
  pub begins : slice_index starts index ≡ at

-- the break with the index is the first one that is none of these offsets, so it is inside a character
pub record IsFirstBetween (starts breaks : List ℕ) (index : ℕ) : Type 0 where
  pub inside : index < length breaks
  pub between : (k : ℕ) → k < length starts → slice_index starts k ≢ slice_index breaks index
  pub earlier : (i : ℕ) → i < index → BeginsAt starts (slice_index breaks i)

-- the list begins with rising offsets, from 0 on, one for each of `count` characters and one for the end
pub record AreOffsets (count : ℕ) (starts : List ℕ) : Type 0 where
  pub inside : count < length starts
  pub first : slice_index starts 0 ≡ 0
  pub rising : (j k : ℕ) → j < k → k ≤ count → slice_index starts j < slice_index starts k

-- the breaks are the offsets with these indices
pub record AreIndicesOf (starts breaks indices : List ℕ) : Type 0 where
  pub found : map (slice_index starts) indices ≡ breaks
  pub inside : All (λ k. k < length starts) indices

-- the offset is from that of the character with the index k on, and before that of the next one or of the end
pub record IsBetween (starts : List ℕ) (at k : ℕ) : Type 0 where
  pub inside : k + 1 < length starts
  pub from : slice_index starts k ≤ at
  pub before : at < slice_index starts (k + 1)

-- the offsets before the index `first` are at most the offset `at`, and those from the index `last` on are greater
pub record IsNarrowed (starts : List ℕ) (at first last : ℕ) : Type 0 where
  pub inside : last ≤ length starts
  pub below : (k : ℕ) → k < first → slice_index starts k ≤ at
  pub above : (k : ℕ) → last ≤ k → k < length starts → at < slice_index starts k

-- of the offsets from the index `first` up to `last`, those before the index `count` are at most the offset `at`, and
-- the others are greater
pub record IsCountedBetween (starts : List ℕ) (at first last count : ℕ) : Type 0 where
  pub from : first ≤ count
  pub to : count ≤ last
  pub below : (k : ℕ) → first ≤ k → k < count → slice_index starts k ≤ at
  pub above : (k : ℕ) → count ≤ k → k < last → at < slice_index starts k
