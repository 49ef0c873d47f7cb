-- The classes and the code points in the value of an option, and its first item that can't be read.
use Rattle.std.specs.Prelude.{◌≡◌, ◌⊎◌, ℕ, List, Option, Some, is_some, not, find}
use Rattle.std.specs.Borrow.{Bor}
use Rattle.units.specs.ClassNames.{class_of_short}
use Rattle.units.specs.Text.{each_read, items_of}
use Rattle.units.specs.declared.class.Class.{Class}
use Rattle.ucdfiles.specs.PairFiles.{char_of}
use Rattle.requests.specs.declared.fault.Fault.{Fault}
use Rattle.requests.specs.declared.fault.Fault.TheVariants.{OutOfMemory}

-- the first of these items that can't be read
abbrev pub first_unread : {A : Type 0} → (List ℕ → Option A) → List (List ℕ) → Option (List ℕ)
first_unread read items = find (λ item. not (is_some (read item))) items

-- when a fault ends the reading of a value's items: an allocation failed, or it is the fault of the first item that
-- can't be read
abbrev pub EndsItems : {A : Type 0} → (List ℕ → Option A) → (Bor (List ℕ) → Bor (List ℕ) → Fault) → List ℕ → Fault →
    Type 0
EndsItems read noted word fault = (fault ≡ OutOfMemory) ⊎ ((whole : Bor (List ℕ)) × (item : Bor (List ℕ))
    × (fault ≡ noted whole item) × (whole.now ≡ word) × (first_unread read (items_of word) ≡ Some item.now))

-- the classes of the short names that blanks separate, or none if an item is not such a name
abbrev pub classes_named : List ℕ → Option (List Class)
classes_named word = each_read class_of_short (items_of word)

-- the code points that blanks separate, each 4 to 6 upper-case hex digits, at most 10FFFF and no surrogate, or none if
-- an item is not such a code point
abbrev pub codes_named : List ℕ → Option (List ℕ)
codes_named word = each_read char_of (items_of word)
