-- What a line splitter stores, and the byte lists that it represents.
use Rattle.std.specs.Prelude.{◌≡◌, ℕ, ◌+◌, List, [], ◌∷◌, ◌++◌, length}
use Rattle.units.specs.Lines.{HasNoFeed, EndsAtFeed, CutsInto, IsTooLongAfter, saturated}
use Rattle.units.specs.declared.line_cut.Phase.{Phase}
use Rattle.units.specs.declared.line_cut.Phase.TheVariants.{Within, Ended, Failed}

-- how many lines have ended, the bytes of the current line, and the splitter's phase in this line
pub record Cutting : Type 0 where
  pub phase : Phase
  pub done : ℕ
  pub stored : List ℕ

-- what a line splitter in this phase stores after these lines
abbrev pub HoldsAfter : Phase → ℕ → List ℕ → List ℕ → List (List ℕ) → Type 0
HoldsAfter Within done stored bytes lines = CutsInto bytes lines stored × (done ≡ saturated (length lines))
HoldsAfter Ended done stored bytes lines = CutsInto bytes (lines ++ stored ∷ []) [] ×
    (done ≡ saturated (length lines + 1))
HoldsAfter Failed done stored bytes lines = IsTooLongAfter bytes lines × (done ≡ saturated (length lines))

-- a line splitter that was given these bytes, in any pieces
pub record Represents (splitter : Cutting) (bytes : List ℕ) : Type 0 where
  pub lines : List (List ℕ)
  pub holds : HoldsAfter splitter.phase splitter.done splitter.stored bytes lines

-- if the first line splitter represents a byte list, the second represents that list and then these bytes
abbrev pub GoesOn : Cutting → List ℕ → Cutting → Type 0
GoesOn before piece after = (b : List ℕ) → Represents before b → Represents after (b ++ piece)

-- a property of a line splitter that was given no over-long line
abbrev pub IfCut : Cutting → Type 0 → Type 0
IfCut splitter fact =
    (b : List ℕ) (lines : List (List ℕ)) (rest : List ℕ) → Represents splitter b → CutsInto b lines rest → fact

-- a property of a line splitter that was given an over-long line
abbrev pub IfTooLong : Cutting → Type 0 → Type 0
IfTooLong splitter fact = (b : List ℕ) (lines : List (List ℕ)) → Represents splitter b → IsTooLongAfter b lines → fact

-- the phase of a line splitter after a piece of which this number of bytes was used
abbrev pub Reaches : Phase → ℕ → List ℕ → Type 0
Reaches Within used piece = HasNoFeed piece × (used ≡ length piece)
Reaches Ended used piece = EndsAtFeed used piece
Reaches Failed used piece = Unit {0}
