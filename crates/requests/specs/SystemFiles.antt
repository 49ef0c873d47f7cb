-- What reading a file of the system or its standard input gives, with the limit that it was opened with. Nothing is
-- known from its name.
use Rattle.std.specs.Prelude.{◌≡◌, ℕ, List}
use Rattle.units.specs.Provides.{Reading, ReaderHasEnded, failures_of, unread_of}
use Rattle.units.specs.declared.reader_source.State.TheVariants.{Open}
use Rattle.units.specs.declared.unread.Unread.{Unread}
use Rattle.requests.specs.ReadFiles.{FileFacts, Gives}

-- a source with this limit that was not read so far
pub record IsOpened (most : ℕ) (source : Reading) : Type 0 where
  pub limit : source.limit ≡ most
  pub state : source.state ≡ Open

-- a source was opened with this limit and returned these bytes
pub record HasBegun (most : ℕ) (bytes : List ℕ) : Type 0 where
  pub opened : Reading
  pub now : Reading
  pub as_named : IsOpened most opened
  pub given : Gives opened bytes now

-- it then ended
pub record WasReadWhole (most : ℕ) (bytes : List ℕ) : Type 0 where
  pub opened : Reading
  pub now : Reading
  pub as_named : IsOpened most opened
  pub given : Gives opened bytes now
  pub whole : ReaderHasEnded now

-- it then failed, for this reason
pub record GaveUp (most : ℕ) (bytes : List ℕ) (unread : Unread) : Type 0 where
  pub opened : Reading
  pub now : Reading
  pub as_named : IsOpened most opened
  pub given : Gives opened bytes now
  pub failed : failures_of now.state ≡ 1
  pub why : unread_of now.state ≡ unread

-- the statements about files of the system and its standard input: none about whether one can be opened
abbrev pub system_facts : FileFacts
system_facts = record {
  Rejects = λ _ _ _. Unit {0};
  Begins = λ _ most bytes. HasBegun most bytes;
  Holds = λ _ most bytes. WasReadWhole most bytes;
  Fails = λ _ most bytes unread. GaveUp most bytes unread;
}
