-- Files and standard input in memory: which of them an origin names, and which bytes a source over it gives.
use Rattle.std.specs.Prelude.{◌≡◌, ◌+◌, ◌<◌, ◌≤◌, ℕ, min, List, ◌++◌, Option, None, Some, length, find}
use Rattle.std.specs.Borrow.{Bor}
use Rattle.std.specs.Io.KnownBytes.{Consumes, IsAtEnd}
use Rattle.std.specs.Str.{bytes_eq}
use Rattle.std.proofs.Common.{append-nil, arith, length-append, sym, ap, subst, ◌∙◌}
use Rattle.units.specs.Provides.{GivesTooMany, Reading, ReaderHasEnded, failures_of, unread_of}
use Rattle.units.specs.declared.reader_source.State.{State}
use Rattle.units.specs.declared.reader_source.State.TheVariants.{Open, Ended, Failed}
use Rattle.units.specs.declared.unread.Unread.{Unread}
use Rattle.units.specs.declared.unread.Unread.TheVariants.{Missing, TooLarge}
use Rattle.requests.specs.ReadFiles.{FileFacts, FileNamed, Gives, Origin, StandardInput}

-- a file: its name, its bytes, and how many of them can be read
pub record StoredFile : Type 0 where
  pub name : List ℕ
  pub bytes : List ℕ
  pub readable : ℕ

abbrev pub stored_file : Bor (List ℕ) → Bor (List ℕ) → ℕ → StoredFile
stored_file name bytes readable = record { name = name.now; bytes = bytes.now; readable = readable }

-- files, and perhaps standard input
pub record Stored : Type 0 where
  pub files : List StoredFile
  pub input : Option StoredFile

-- standard input, or the first file with the name
abbrev pub stored_at : Stored → Origin → Option StoredFile
stored_at stored StandardInput = stored.input
stored_at stored (FileNamed name) = find (λ file. bytes_eq file.name name) stored.files

-- the file begins with these bytes
abbrev pub FileBeginsWith : Option StoredFile → List ℕ → Type 0
FileBeginsWith None bytes = ⊥
FileBeginsWith (Some file) bytes = (rest : List ℕ) × (file.bytes ≡ bytes ++ rest)

-- these are the file's bytes, and they are not more than may be read
abbrev pub IsWhole : Option StoredFile → ℕ → List ℕ → Type 0
IsWhole None most bytes = ⊥
IsWhole (Some file) most bytes = (bytes ≡ file.bytes) × (length bytes ≤ min most file.readable)

-- the file has more bytes than may be read
abbrev pub IsTooLarge : Option StoredFile → ℕ → Type 0
IsTooLarge None most = ⊥
IsTooLarge (Some file) most = min most file.readable < length file.bytes

-- a read fails after these bytes, for this reason; if the reason is that the file is too large, the file is
abbrev pub FailsAfter : Option StoredFile → ℕ → List ℕ → Unread → Type 0
FailsAfter file most bytes unread = FileBeginsWith file bytes × (unread ≡ TooLarge → IsTooLarge file most)

-- the facts about files and standard input in memory
abbrev pub memory_facts : Stored → FileFacts
memory_facts stored = record {
  Rejects = λ origin most unread. (stored_at stored origin ≡ None) × (unread ≡ Missing);
  Begins = λ origin most bytes. FileBeginsWith (stored_at stored origin) bytes;
  Holds = λ origin most bytes. IsWhole (stored_at stored origin) most bytes;
  Fails = λ origin most bytes unread. FailsAfter (stored_at stored origin) most bytes unread;
}

-- the source is over the file, with its limit, and wasn't read yet
abbrev pub IsOpenedOver : Option StoredFile → ℕ → Reading → Type 0
IsOpenedOver None most source = ⊥
IsOpenedOver (Some file) most source = (source.remaining ≡ Some file.bytes) ×
    (source.limit ≡ min most file.readable) × (source.state ≡ Open)

first_rest : (known : Option (List ℕ)) (xs bytes : List ℕ) (rest : Option (List ℕ)) → known ≡ Some xs →
    Consumes known rest bytes
    → (more : List ℕ) × (xs ≡ bytes ++ more)
first_rest known xs bytes None e h = absurd (subst (λ k. Consumes k None bytes) e h)
first_rest known xs bytes (Some more) e h = (more, subst (λ k. Consumes k (Some more) bytes) e h)

pub begins-gave : (file : Option StoredFile) (most : ℕ) (opened now : Reading) (bytes : List ℕ)
    → IsOpenedOver file most opened → Gives opened bytes now → FileBeginsWith file bytes
begins-gave None most opened now bytes represents given = absurd represents
begins-gave (Some file) most opened now bytes represents given =
    first_rest opened.remaining file.bytes bytes given.first.0 represents.0 given.first.1

all_of : (known after : Option (List ℕ)) (xs bytes : List ℕ) → known ≡ Some xs → Consumes known after bytes →
    IsAtEnd after → bytes ≡ xs
all_of known None xs bytes e h at_end = absurd (subst (λ k. Consumes k None bytes) e h)
all_of known (Some ys) xs bytes e h at_end =
    let taken : xs ≡ bytes ++ ys = subst (λ k. Consumes k (Some ys) bytes) e h in
    sym (append-nil bytes) ∙ ap (λ zs. bytes ++ zs) (sym at_end) ∙ sym taken

pub whole-gave : (file : Option StoredFile) (most : ℕ) (opened now : Reading) (bytes : List ℕ)
    → IsOpenedOver file most opened → Gives opened bytes now → ReaderHasEnded now → IsWhole file most bytes
whole-gave None most opened now bytes represents given ended = absurd represents
whole-gave (Some file) most opened now bytes represents given ended = (
  all_of opened.remaining now.remaining file.bytes bytes represents.0 (given.consumed (ap failures_of ended.state_is))
      ended.no_more,
  omega (arith, given.falls, represents.1),
)

-- a source whose error is that there were too many bytes has failed with that state
too_large : (state : State) → failures_of state ≡ 1 → unread_of state ≡ TooLarge → state ≡ Failed TooLarge
too_large Open failed why = absurd (let bad : ⊥ = omega (arith, failed) in bad)
too_large Ended failed why = absurd (let bad : ⊥ = omega (arith, failed) in bad)
too_large (Failed unread) failed why = ap Failed why

longer : (xs bytes more rest : List ℕ) (allowed now : ℕ) → xs ≡ (bytes ++ more) ++ rest → now < length more →
    now + length bytes ≡ allowed
    → allowed < length xs
longer xs bytes more rest allowed now e f g =
    omega (arith, ap length e, length-append (bytes ++ more) rest, length-append bytes more, f, g)

passed : (xs bytes : List ℕ) (known : Option (List ℕ)) (allowed now most : ℕ) → known ≡ Some xs → allowed ≡ most →
    now + length bytes ≡ allowed
    → GivesTooMany known bytes now → most < length xs
passed xs bytes known allowed now most e limit falls h =
    let first = first_rest known xs (bytes ++ h.0) h.1.0 e h.1.1 in
    longer xs bytes h.0 first.0 most now first.1 h.2 (falls ∙ limit)

pub fails-gave : (file : Option StoredFile) (most : ℕ) (opened now : Reading) (bytes : List ℕ)
    → IsOpenedOver file most opened → Gives opened bytes now → failures_of now.state ≡ 1
    → FailsAfter file most bytes (unread_of now.state)
fails-gave None most opened now bytes represents given failed = absurd represents
fails-gave (Some file) most opened now bytes represents given failed = (
  begins-gave (Some file) most opened now bytes represents given,
  λ why. passed file.bytes bytes opened.remaining opened.limit now.limit
      (min most file.readable) represents.0 represents.1 given.falls
      (given.passes (ap failures_of represents.2) (too_large now.state failed why)),
)
