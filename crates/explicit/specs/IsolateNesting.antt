-- BD9: how two isolates lie relative to each other.
use Rattle.std.specs.Prelude.{ℕ, List, IsTrue}
use Rattle.units.specs.Isolates.{isolate_holds}
use Rattle.units.specs.declared.class.Class.{Class}

-- BD9: each position in the isolate that begins at inner is also in the one that begins at outer
abbrev pub IsWithin : List Class → ℕ → ℕ → Type 0
IsWithin cs inner outer = (p : ℕ) → IsTrue (isolate_holds cs inner p) → IsTrue (isolate_holds cs outer p)

-- BD9: no position lies in both isolates
abbrev pub AreApart : List Class → ℕ → ℕ → Type 0
AreApart cs inner outer = (p : ℕ) → IsTrue (isolate_holds cs inner p) → IsTrue (isolate_holds cs outer p) → ⊥
