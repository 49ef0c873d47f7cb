-- The innermost isolate around a position, and how it changes from one position to the next.
use Rattle.std.proofs.Common.{◌≡◌, ℕ, ◌<◌, List, Some, None}
use Rattle.std.proofs.lemmas.Bool.{false_from_ne_true}
use Rattle.units.specs.Isolates.{isolate_around}
use Rattle.units.specs.declared.class.Class.{Class}
use Rattle.units.proofs.Positions.{last_below_some, last_below_is, last_below_nowhere}
use Rattle.explicit.proofs.Matched.Nesting.{IsContained, contained, holds_from}

-- the isolate is around the position
pub around_holds : (cs : List Class) (p i : ℕ) → isolate_around cs p ≡ Some i → IsContained cs i p
unfolding isolate_around
around_holds cs p i e = contained cs i p (last_below_some _ p i e).passes

-- an isolate around the position is the innermost one if none that begins later is around it
pub around_is : (cs : List Class) (p i : ℕ) → IsContained cs i p → ((j : ℕ) → i < j → IsContained cs j p → ⊥) →
    isolate_around cs p ≡ Some i
unfolding isolate_around
around_is cs p i h inner =
    last_below_is _ p i h.after (holds_from cs i p h) (λ q lt b.
    false_from_ne_true _ (λ t. absurd (inner q lt (contained cs q p t))))

pub around_nowhere : (cs : List Class) (p : ℕ) → ((j : ℕ) → IsContained cs j p → ⊥) → isolate_around cs p ≡ None
unfolding isolate_around
around_nowhere cs p none =
    last_below_nowhere _ p (λ q b. false_from_ne_true _ (λ t. absurd (none q (contained cs q p t))))
