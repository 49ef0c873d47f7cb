-- Tables that are shared.
use Rattle.std.specs.Prelude.{◌≡◌, ◌⊎◌, Option, None, IsSome}
use Rattle.for_c.specs.Statuses.{Outcome, Puts}
use Rattle.for_c.specs.declared.call_error.CallError.{CallError}
use Rattle.for_c.specs.declared.call_error.CallError.TheVariants.{Memory, NoTables}
use Rattle.bidi_c.specs.ContentsIn.{tables_in}
use Rattle.bidi_c.specs.declared.contents.Contents.{Contents}

-- the tables that a handle contains are not shared for this reason
abbrev pub RejectsSharing : Option Contents → CallError → Type 0
RejectsSharing contents error =
    ((error ≡ Memory) × IsSome (tables_in contents)) ⊎ ((error ≡ NoTables) × (tables_in contents ≡ None))

-- the contents of a handle after a call that gives it the tables of another one
abbrev pub SharesTables : Option Contents → Option Contents → Option Contents → Outcome → Type 0
SharesTables tables old new outcome =
    Puts (λ contents. IsSome (tables_in tables) ×
    (tables_in contents ≡ tables_in tables)) (RejectsSharing tables) old new outcome
