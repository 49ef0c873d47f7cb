-- Spans of code points: which contain one, which overlap, and the value that they give.
use Rattle.std.specs.Prelude.{Option, ℕ, Bool, ◌&&◌, nat_le, ◌<◌, ◌≤◌, ◌≡◌, ◌+◌, if◌then◌else◌, List, [], ◌∷◌, ◌++◌, length, reverse, Some, None, slice_index_or, All}
use Rattle.std.specs.List.{find, list_any}
use Rattle.ucdfiles.specs.declared.fault.Fault.{Fault}
use Rattle.ucdfiles.specs.declared.fault.Fault.TheVariants.{TooMany}
use Rattle.ucdfiles.specs.declared.span.Span.{Span}

-- the code point is one of these
abbrev pub holds : {V : Type 0} → ℕ → Span V → Bool
holds c span = nat_le span.first c && nat_le c span.last

-- some code point is in both
abbrev pub overlaps : {V : Type 0} → Span V → Span V → Bool
overlaps a b = nat_le a.first b.last && nat_le b.first a.last

-- the greatest number of data lines of a file
abbrev pub most_data : ℕ
most_data = 65536

-- the greatest number of default lines of a file
abbrev pub most_defaults : ℕ
most_defaults = 1024

-- the fault of a data line after these: there are too many, or an earlier one has one of its code points (`Overlap` or
-- `Twice`)
abbrev pub data_fault : {V : Type 0} → Fault → List (Span V) → Span V → Option Fault
data_fault taken earlier span =
    if nat_le most_data (length earlier) then Some TooMany else if list_any (overlaps span) earlier then Some taken else
    None

-- the fault of a default line after these, which may overlap
abbrev pub default_fault : {V : Type 0} → List (Span V) → Option Fault
default_fault earlier = if nat_le most_defaults (length earlier) then Some TooMany else None

-- the value of the first, or else of the second
abbrev pub value_by : {V : Type 0} → Option (Span V) → Option (Span V) → Option V
value_by (Some span) default = Some span.value
value_by None (Some span) = Some span.value
value_by None None = None

-- the value of the one data line that contains c, else of the last default line that contains it
abbrev pub value_in : {V : Type 0} → List (Span V) → List (Span V) → ℕ → Option V
value_in spans defaults c = value_by (find (holds c) spans) (find (holds c) (reverse defaults))

-- each span's first code point is at most its last, and each span is wholly before the later ones
pub record IsRising {V : Type 0} (spans : List (Span V)) : Type 0 where
  pub each : All (λ (s : Span V). s.first ≤ s.last) spans
  pub apart : (i j : ℕ) (d : Span V) → i < j → j < length spans →
      (slice_index_or spans i d).last < (slice_index_or spans j d).first

-- the new spans contain what the old ones and one more contain, in any order
pub record Adds {V : Type 0} (old : List (Span V)) (span : Span V) (new : List (Span V)) : Type 0 where
  pub finds : (c : ℕ) → find (holds c) new ≡ find (holds c) (old ++ span ∷ [])
  pub meets : (other : Span V) → list_any (overlaps other) new ≡ list_any (overlaps other) (old ++ span ∷ [])
  pub counts : length new ≡ length old + 1

-- the same code points with another value
abbrev pub revalued : {V W : Type 0} → (V → W) → Span V → Span W
revalued value span = record { first = span.first; last = span.last; value = value span.value }
