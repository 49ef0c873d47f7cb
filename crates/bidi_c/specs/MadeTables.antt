-- Tables made from the bytes of their files.
use Rattle.std.specs.Prelude.{ℕ, ◌≡◌, Option, Some, None, List, MatchOption}
use Rattle.std.specs.Option.{unwrap_or}
use Rattle.ucdfiles.specs.Files.{StateTables}
use Rattle.ucdfiles.specs.Tables.{TablesOf, mirror_by}
use Rattle.for_c.specs.ReadTables.{RejectsTables}
use Rattle.for_c.specs.Statuses.{Outcome, Puts}
use Rattle.bidi_c.specs.ContentsIn.{tables_in}
use Rattle.bidi_c.specs.declared.contents.Contents.{Contents}

-- a handle contains tables, and they are what the bytes state
abbrev pub HaveTables : Option Contents → List ℕ → List ℕ → List ℕ → Type 0
HaveTables contents classes brackets mirrors = MatchOption (tables_in contents) ⊥ (StateTables classes brackets mirrors)

-- the contents of a handle after a call that makes tables from files with these bytes
abbrev pub MakesTables : List ℕ → List ℕ → List ℕ → Option Contents → Option Contents → Outcome → Type 0
MakesTables classes brackets mirrors old new outcome =
    Puts (λ contents. HaveTables contents classes brackets mirrors) (RejectsTables classes brackets mirrors) old new
    outcome

-- the mirrored character of a character, or the character itself if it has none
abbrev pub image_by : Option TablesOf → ℕ → ℕ
image_by (Some tables) c = unwrap_or (mirror_by tables.mirrors c) c
image_by None c = c
