-- A call without the contents that it needs in its handle.
use Rattle.std.specs.Prelude.{ℕ, Bool, ◌≡◌, Option, Some, None, Err, List, MatchOption}
use Rattle.std.proofs.Common.{◌∙◌, refl, sym, subst}
use Rattle.ucdfiles.specs.Tables.{TablesOf}
use Rattle.sources.specs.Sources.{SourceOf}
use Rattle.room.specs.Rooms.{RoomOf}
use Rattle.for_c.specs.Base.{PutsBaseLevels}
use Rattle.for_c.specs.RoomCalls.{PutsLineOf}
use Rattle.for_c.specs.Statuses.{ReturnsStatus, ReturnsStatusNaming, Outcome, place_named}
use Rattle.for_c.specs.declared.call_error.CallError.{CallError}
use Rattle.for_c.specs.declared.call_error.CallError.TheVariants.{NoJudge, NoReport, NoRoom, NoTables}
use Rattle.bidi_c.specs.AtHandles.{AtRoom, Fails, Needs}
use Rattle.bidi_c.specs.BaseAt.{PutsBaseLevelsAt}
use Rattle.bidi_c.specs.ContentsIn.{room_for}
use Rattle.bidi_c.specs.LayingOut.{AtLineOf}
use Rattle.bidi_c.specs.declared.contents.Contents.{Contents}
use Rattle.bidi_c.specs.declared.contents.Contents.TheVariants.{Room}

module _ {IsSo : Outcome → Type 0} {number : ℕ} where
  pub no_room : number ≡ 9 → IsSo (Err NoRoom) → ReturnsStatus IsSo number
  no_room coded so = record { outcome = Err NoRoom; coded = coded; so = so }

  pub no_tables : number ≡ 10 → IsSo (Err NoTables) → ReturnsStatus IsSo number
  no_tables coded so = record { outcome = Err NoTables; coded = coded; so = so }

  pub no_judge : number ≡ 16 → IsSo (Err NoJudge) → ReturnsStatus IsSo number
  no_judge coded so = record { outcome = Err NoJudge; coded = coded; so = so }

  pub no_report : number ≡ 26 → IsSo (Err NoReport) → ReturnsStatus IsSo number
  no_report coded so = record { outcome = Err NoReport; coded = coded; so = so }

  pub no_tables_named : {before after : ℕ} → number ≡ 10 → after ≡ 0 → IsSo (Err NoTables) →
      ReturnsStatusNaming place_named IsSo number before after
  no_tables_named coded named so = record { outcome = Err NoTables; coded = coded; place = named; so = so }

-- it fails with that error
pub not_contained : {V A : Type 0} {error : CallError} {value : Option V} {IsSo : V → A → A → Outcome →
    Type 0} {old : A} → value ≡ None → Needs error value IsSo old old (Err error)
not_contained {V} {A} {error} {value} {IsSo} {old} none =
    record {
      so = subst (λ (v : Option V). MatchOption v (Fails error old old (Err error)) (λ w.
          IsSo w old old (Err error))) (sym none) (refl, refl);
    }

-- the same for a room that the call changes
pub no_room_of_kind : {encodes : Bool} {IsSo : RoomOf → RoomOf → Outcome → Type 0} {old new : Option Contents} →
    old ≡ None → new ≡ old → AtRoom encodes IsSo old new (Err NoRoom)
no_room_of_kind {encodes} {IsSo} {old} {new} none same =
    record {
      so = subst (λ (h : Option Contents). MatchOption (room_for encodes h) (Fails NoRoom h new (Err NoRoom))
          (λ room. (last : RoomOf) × (new ≡ Some (Room last)) × IsSo room last (Err NoRoom))) (sym none) (
            same ∙ none,
            refl,
          );
    }

-- the same for a line
pub no_room_for_line : {room : Option RoomOf} {start end shown : ℕ} {levels order : List ℕ} → room ≡ None →
    AtLineOf room start end levels levels order order shown shown (Err NoRoom)
no_room_for_line {room} {start} {end} {shown} {levels} {order} none =
    record {
      so = subst (λ (r : Option RoomOf). MatchOption r (Fails {A = List ℕ × List ℕ × ℕ} NoRoom (
        levels,
        order,
        shown,
      ) (levels, order, shown) (Err NoRoom)) (λ contents.
          PutsLineOf contents start end levels levels order order shown shown (Err NoRoom))) (sym none) (refl, refl);
    }

-- the same for the levels of paragraphs
pub no_tables_no_levels : {tables : Option TablesOf} {source : SourceOf} {number count : ℕ} {levels : List ℕ} →
    tables ≡ None → PutsBaseLevelsAt tables source number levels levels count count (Err NoTables)
no_tables_no_levels {tables} {source} {number} {count} {levels} none =
    record {
      so = subst (λ (t : Option TablesOf).
          MatchOption t (Fails {A = List ℕ × ℕ} NoTables (levels, count) (levels, count) (Err NoTables)) (λ by.
          PutsBaseLevels by source number levels levels count count (Err NoTables))) (sym none) (refl, refl);
    }
