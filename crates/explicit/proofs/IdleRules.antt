-- A list of classes that is written index by index and is unchanged.
use Rattle.std.proofs.Common.{◌≡◌, ℕ, ◌<◌, List, length, ◌∙◌}
use Rattle.std.proofs.lemmas.List.{map-id}
use Rattle.units.specs.Classes.{class_at}
use Rattle.units.specs.Weak.{at_each}
use Rattle.units.specs.declared.class.Class.{Class}
use Rattle.units.specs.declared.class.Class.TheVariants.{L}
use Rattle.explicit.proofs.Listed.{map-positions_of}

pub at_each_same : (f : ℕ → Class) (cs : List Class) → ((k : ℕ) → k < length cs → f k ≡ class_at cs k) →
    at_each f cs ≡ cs
at_each_same f cs h = map-positions_of f (λ c. c) L cs h ∙ map-id cs
