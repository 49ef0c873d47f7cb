-- What a cut of bytes returns.
use Rattle.std.specs.Prelude.{Option, ℕ, ◌≡◌, ◌==◌, List, [], Some, None, MatchOption}
use Rattle.std.specs.List.{before_first, after_first}
use Rattle.std.specs.Borrow.{Bor}
use Rattle.units.specs.Text.{cut_at, fields_of}

-- the pieces of the bytes after a separator
abbrev pub pieces_after : ℕ → Option (Bor (List ℕ)) → List (List ℕ)
pieces_after separator None = []
pieces_after separator (Some rest) = cut_at separator rest.now

-- the fields of the bytes after a `;`
abbrev pub fields_after : Option (Bor (List ℕ)) → List (List ℕ)
fields_after None = []
fields_after (Some rest) = fields_of rest.now

-- the bytes after the first separator; none if there is no separator
abbrev pub IsAfterFirst : ℕ → List ℕ → Option (Bor (List ℕ)) → Type 0
IsAfterFirst separator bytes following =
    MatchOption following (before_first (λ b. b == separator) bytes ≡ bytes) (λ rest.
    rest.now ≡ after_first (λ b. b == separator) bytes)
