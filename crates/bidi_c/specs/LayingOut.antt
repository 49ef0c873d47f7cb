-- Calls that lay out texts.
use Rattle.std.specs.Prelude.{ℕ, false, ⊤, Option, List, MatchOption}
use Rattle.units.specs.Limits.{LimitsOf}
use Rattle.ucdfiles.specs.Tables.{TablesOf}
use Rattle.sources.specs.Sources.{SourceOf, Classes, Units, is_encoded}
use Rattle.room.specs.Rooms.{RoomOf}
use Rattle.for_c.specs.RoomCalls.{LaysOut, PutsLineOf}
use Rattle.for_c.specs.Statuses.{Outcome}
use Rattle.for_c.specs.declared.call_error.CallError.TheVariants.{NoRoom}
use Rattle.bidi_c.specs.AtHandles.{AtBoth, AtRoom, Fails, UnderDirection}
use Rattle.bidi_c.specs.declared.contents.Contents.{Contents}

-- P1 to L2: a room lays out a text with tables, under the direction with this number
abbrev pub LaysOutUnder : SourceOf → LimitsOf → ℕ → List ℕ → TablesOf → RoomOf → RoomOf → Outcome → Type 0
LaysOutUnder source limits number breaks tables =
    UnderDirection number (λ direction. LaysOut (record {
      source = source;
      direction = direction;
      breaks = breaks;
      limits = limits;
    }) tables)

-- P1 to L2: the contents of the handle of a room before and after a call that lays out a text
abbrev pub LaysOutText : SourceOf → LimitsOf → ℕ → List ℕ → Option Contents → Option Contents → Option Contents →
    Outcome → Type 0
LaysOutText source limits number breaks tables old new outcome =
    AtBoth (is_encoded source) tables (LaysOutUnder source limits number breaks) old new outcome

-- classes and units are given as numbers, so a text of them needs no tables
abbrev pub NeedsNoTables : SourceOf → Type 0
NeedsNoTables (Classes numbers) = ⊤
NeedsNoTables (Units numbered) = ⊤
NeedsNoTables _ = ⊥

-- P1 to L2: of a call that lays out a text that needs no tables; it does the same with any
abbrev pub LaysOutWithoutTables : SourceOf → LimitsOf → ℕ → List ℕ → Option Contents → Option Contents → Outcome →
    Type 0
LaysOutWithoutTables source limits number breaks old new outcome =
    AtRoom false (λ room last outcome. (tables : TablesOf) →
    LaysOutUnder source limits number breaks tables room last outcome)
    old new outcome

-- L1, L2: one line alone of the text of a room is written; without a room the call fails, and nothing is written
pub record AtLineOf (room : Option RoomOf) (start end : ℕ) (levels levels2 order order2 : List ℕ) (shown shown2 : ℕ)
    (outcome : Outcome) : Type 0 where
  pub so : MatchOption room (Fails {A = List ℕ × List ℕ × ℕ} NoRoom (levels, order, shown) (
    levels2,
    order2,
    shown2,
  ) outcome)
      (λ room. PutsLineOf room start end levels levels2 order order2 shown shown2 outcome)
