-- How known bytes grow if bytes wait to be written after them.
use Rattle.std.proofs.Common.{ℕ, List, [], ◌++◌, Option, Some, None, Result, OnOk, ap, ◌∙◌, append-nil}
use Rattle.std.proofs.lemmas.Result.{IfOk-weaker}
use Rattle.std.specs.Io.KnownBytes.{Appends}
use Rattle.printing.specs.WaitingBytes.{with_waiting}

-- no bytes waited, and all bytes that wait at the end are written
joined : (a c d : Option (List ℕ)) (waiting text : List ℕ) → Appends (with_waiting a []) (with_waiting c waiting) text →
    Appends c d waiting → Appends a d text
joined None c d waiting text h g = tt
joined (Some a) None d waiting text h g = absurd h
joined (Some a) (Some c) None waiting text h g = absurd g
joined (Some a) (Some c) (Some d) waiting text h g = g ∙ h ∙ ap (λ v. v ++ text) (append-nil a)

pub written_in_the_end : {T E : Type 0} (r : Result T E) (a c d : Option (List ℕ)) (waiting text : List ℕ) →
    Appends (with_waiting a []) (with_waiting c waiting) text
    → OnOk r (Appends c d waiting) → OnOk r (Appends a d text)
written_in_the_end r a c d waiting text h =
    IfOk-weaker r (λ _. Appends c d waiting) (λ _. Appends a d text) (λ _ g. joined a c d waiting text h g)
