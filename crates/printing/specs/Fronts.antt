-- How much of a text is printed if a fault occurs.
use Rattle.std.specs.Prelude.{◌≡◌, ◌++◌, ℕ, List, Option}
use Rattle.std.specs.Io.KnownBytes.{Appends}
use Rattle.printing.specs.declared.fault.PrintFault.{PrintFault}
use Rattle.printing.specs.declared.fault.PrintFault.TheVariants.{Memory, Write}

-- known bytes grew by a front of this text, which may be empty
pub record AppendsFront (text : List ℕ) (before after : Option (List ℕ)) : Type 0 where
  pub front : List ℕ
  pub rest : List ℕ
  pub joined : front ++ rest ≡ text
  pub grown : Appends before after front

-- if memory is refused, known bytes grew by a front of this text; after a failed write nothing is known
abbrev pub FaultLeavesFront : List ℕ → Option (List ℕ) → Option (List ℕ) → PrintFault → Type 0
FaultLeavesFront text before after Memory = AppendsFront text before after
FaultLeavesFront text before after Write = Unit {0}
