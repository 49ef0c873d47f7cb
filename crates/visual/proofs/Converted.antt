-- An item for a run, written after the items for earlier runs.
use Rattle.std.proofs.Common.{◌≡◌, ℕ, ◌+◌, ◌<◌, List, [], ◌∷◌, ◌++◌, length, take, drop, ap, ◌∙◌, arith}
use Rattle.std.specs.Prelude.{slice_set}
use Rattle.std.proofs.lemmas.Grind.{drop_more_same}
use Rattle.std.proofs.lemmas.List.{drop-set-lt, length-set, take_more_set}

pub converted-len : {T : Type 0} (old new : List T) (count : ℕ) (converted : T) → new ≡ slice_set old count converted →
    length new ≡ length old
converted-len old new count converted is = ap length is ∙ length-set old count converted

pub converted-following : {T : Type 0} (old new : List T) (count : ℕ) (converted : T) →
    new ≡ slice_set old count converted
    → count < length old → take (count + 1) new ≡ take count old ++ converted ∷ []
converted-following old new count converted is some = ap (take (count + 1)) is ∙ take_more_set old count converted some

-- the items after it are unchanged
pub converted-rest : {T : Type 0} (first old new : List T) (count : ℕ) (converted : T) →
    new ≡ slice_set old count converted
    → drop count old ≡ drop count first → drop (count + 1) new ≡ drop (count + 1) first
converted-rest first old new count converted is same =
    ap (drop (count + 1)) is ∙ drop-set-lt (count + 1) old count converted (omega arith) ∙
    drop_more_same old first count same
