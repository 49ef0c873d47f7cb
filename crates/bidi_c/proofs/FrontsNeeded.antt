-- A call for properties of whole arrays, without tables.
use Rattle.std.specs.Prelude.{ℕ, ◌≡◌, Option, None, Err, List, MatchOption}
use Rattle.std.proofs.Common.{refl, sym, subst}
use Rattle.ucdfiles.specs.Tables.{TablesOf}
use Rattle.for_c.specs.Fronts.{PutsProperties}
use Rattle.for_c.specs.declared.call_error.CallError.TheVariants.{NoTables}
use Rattle.bidi_c.specs.AtHandles.{Fails}
use Rattle.bidi_c.specs.Fronts.{PutsPropertiesAt}

pub no_tables_no_properties : {tables : Option TablesOf} {codes classes brackets : List ℕ} → tables ≡ None →
    PutsPropertiesAt tables codes classes classes brackets brackets (Err NoTables)
no_tables_no_properties {tables} {codes} {classes} {brackets} none =
    record {
      so = subst (λ (t : Option TablesOf).
          MatchOption t (Fails {A = List ℕ × List ℕ} NoTables (classes, brackets) (classes, brackets) (Err NoTables))
          (λ by. PutsProperties by codes classes classes brackets brackets (Err NoTables))) (sym none) (refl, refl);
    }
