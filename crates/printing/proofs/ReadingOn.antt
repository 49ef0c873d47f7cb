-- A source that is read to its end without printing.
use Rattle.std.proofs.Common.{◌≡◌, ℕ, ◌+◌, ◌<◌, ◌≤◌, List, [], ◌++◌, length, take, drop, sym, ap, subst, ◌∙◌, append-nil}
use Rattle.std.specs.List.{count_by}
use Rattle.std.specs.Str.{IsUtf8}
use Rattle.std.specs.Str.Lossy.{utf8_valid_len}
use Rattle.printing.specs.ReadBytes.{IsReadTo}
use Rattle.printing.specs.ReadTexts.{IsNotUtf8, IsReadUpTo, utf8_front}
use Rattle.printing.specs.TextPlaces.{ends_line, place_after}
use Rattle.printing.specs.declared.place.TextPlace.{TextPlace}
use Rattle.printing.proofs.ReadBytesLemmas.{broken_cut, front_cut, length_front, more_cut, whole_cut}
use Rattle.printing.proofs.TextPlaces.{IsAfter, after_more, passed_is}

-- a source gave bytes, these are the stored ones, and this is the place after the text before them
pub record HasCut {S : Type 0} (gives : S → List ℕ → S →
    Type 0) (start now : S) (place : TextPlace) (stored : List ℕ) : Type 0 where
  pub bytes : List ℕ
  pub front : List ℕ
  pub given : gives start bytes now
  pub cut : IsReadTo bytes front stored
  pub place_is : place ≡ place_after front

-- a source was read from one state to another, with its buffer and the place before the buffer
pub record ReadsOn {S : Type 0} (gives : S → List ℕ → S →
    Type 0) (old now : S) (before after : TextPlace) (first buffer : List ℕ) : Type 0 where
  pub reads : (start : S) → IsReadUpTo gives start old before first → IsReadUpTo gives start now after buffer

module _ {S : Type 0} (gives : S → List ℕ → S → Type 0) (joined : (s t u : S) (xs ys : List ℕ) → gives s xs t →
    gives t ys u → gives s (xs ++ ys) u) (start : S) where
  -- more bytes come after the stored ones
  pub up_to : (now next : S) (place : TextPlace) (stored more buffer : List ℕ) → HasCut gives start now place stored →
      gives now more next → buffer ≡ stored ++ more
      → IsReadUpTo gives start next place buffer
  up_to now next place stored more buffer cut given same = record {
    bytes = cut.bytes;
    front = cut.front;
    stored = stored;
    more = more;
    cut = cut.cut;
    buffer_is = same;
    given = joined start now next cut.bytes more cut.given given;
    place_is = cut.place_is;
  }

  -- the longest front of the buffer that is UTF-8 is taken
  pub taken_from : (now : S) (place at : TextPlace) (buffer unchanged : List ℕ) (taken : ℕ) →
      IsReadUpTo gives start now place buffer
      → taken ≡ length (utf8_front buffer) → IsAfter place at (utf8_front buffer) →
      unchanged ≡ take 4 (drop taken buffer) → HasCut gives start now at unchanged
  taken_from now place at buffer unchanged taken read front passed remaining =
      let both = read.stored ++ read.more in
      let same : unchanged ≡ take 4 (drop (utf8_valid_len both) both) =
      remaining ∙ ap (λ n. take 4 (drop n buffer)) (front ∙ length_front buffer) ∙
      ap (λ xs. take 4 (drop (utf8_valid_len xs) xs)) read.buffer_is in
      record {
        bytes = read.bytes ++ read.more;
        front = read.front ++ utf8_front both;
        given = read.given;
        cut = subst (IsReadTo (read.bytes ++ read.more) (read.front ++ utf8_front both)) (sym same)
            (more_cut read.bytes read.front read.stored read.more read.cut);
        place_is = after_more place at read.front (utf8_front both) read.place_is
            (subst (λ xs. IsAfter place at (utf8_front xs)) read.buffer_is passed);
      }

  -- the same for a source that was read further
  pub taken_on : (old now : S) (before place at : TextPlace) (first buffer unchanged : List ℕ) (filled taken : ℕ)
      → ReadsOn gives old now before place first (take filled buffer) → filled ≤ length buffer →
      taken ≡ length (utf8_front (take filled buffer))
      → at.line ≡ place.line + count_by ends_line (take taken buffer) →
      at.offset ≡ place.offset + length (take taken buffer)
      → unchanged ≡ take 4 (drop taken (take filled buffer)) → IsReadUpTo gives start old before first →
      HasCut gives start now at unchanged
  taken_on old now before place at first buffer unchanged filled taken on within front line offset remaining begun =
      taken_from now place at (take filled buffer) unchanged taken (on.reads start begun) front
      (passed_is place at buffer filled taken within front line offset) remaining

  -- the source gave nothing more
  pub nothing_more : (now next : S) (place : TextPlace) (stored : List ℕ) → HasCut gives start now place stored →
      gives now [] next → HasCut gives start next place stored
  nothing_more now next place stored cut given = record {
    bytes = cut.bytes;
    front = cut.front;
    given = subst (λ xs. gives start xs next) (append-nil cut.bytes)
        (joined start now next cut.bytes [] cut.given given);
    cut = cut.cut;
    place_is = cut.place_is;
  }

-- if bytes are stored after all were read, the bytes are not UTF-8; otherwise they are
pub cut_broken : (bytes front stored : List ℕ) (place : TextPlace) → IsReadTo bytes front stored →
    place ≡ place_after front → 0 < length stored → IsNotUtf8 bytes place
cut_broken bytes front stored place cut at some = record {
  broken = broken_cut bytes front stored cut some;
  place_is = at ∙ ap place_after (sym (front_cut bytes front stored cut));
}

pub cut_whole : (bytes front stored : List ℕ) → IsReadTo bytes front stored → length stored ≡ 0 → IsUtf8 bytes
cut_whole bytes front stored cut none = subst IsUtf8 (whole_cut bytes front stored cut none) cut.utf8
