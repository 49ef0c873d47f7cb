-- Each fault of a file of bytes is a lack of memory, or a fault of a line.
use Rattle.std.proofs.Common.{◌≡◌, ◌≢◌, ◌⊎◌, ℕ, List, IsSome, inl, inr, refl}
use Rattle.ucdfiles.specs.Faults.{line_of_fault}
use Rattle.ucdfiles.specs.Files.{IsFirstFaulty}
use Rattle.ucdfiles.specs.declared.fault.TableFault.{TableFault}
use Rattle.ucdfiles.specs.declared.fault.TableFault.TheVariants.{CodePoint, Backwards, ClassName, Fields, Overlap, Twice, BracketKind, LineTooLong, TooMany, Read, Memory}
use Rattle.ucdfiles.specs.declared.files.FileFault.{FileFault}
use Rattle.ucdfiles.specs.declared.files.FileFault.TheVariants.{Classes, Brackets, Mirrors}
use Rattle.for_c.specs.ReadTables.{RejectsTables, error_of_file}

memory_or_line : (e : TableFault) → e ≢ Read → (e ≡ Memory) ⊎ IsSome (line_of_fault e)
memory_or_line (CodePoint line) h = inr refl
memory_or_line (Backwards line) h = inr refl
memory_or_line (ClassName line) h = inr refl
memory_or_line (Fields line) h = inr refl
memory_or_line (Overlap line) h = inr refl
memory_or_line (Twice line) h = inr refl
memory_or_line (BracketKind line) h = inr refl
memory_or_line (LineTooLong line) h = inr refl
memory_or_line (TooMany line) h = inr refl
memory_or_line Read h = absurd (h refl)
memory_or_line Memory h = inl refl

-- the error for the fault of the first bad file is a reason why no tables are read
pub first_rejected : (classes brackets mirrors : List ℕ) (fault : FileFault) →
    IsFirstFaulty classes brackets mirrors fault
    → RejectsTables classes brackets mirrors (error_of_file fault)
first_rejected classes brackets mirrors (Classes e) h = elim (memory_or_line e h.unfailing) [
  | inl memory ↦ inl (rw memory refl)
  | inr line ↦ inr (Classes e, refl, line, h)
]
first_rejected classes brackets mirrors (Brackets e) h = elim (memory_or_line e h.1.unfailing) [
  | inl memory ↦ inl (rw memory refl)
  | inr line ↦ inr (Brackets e, refl, line, h)
]
first_rejected classes brackets mirrors (Mirrors e) h = elim (memory_or_line e h.2.unfailing) [
  | inl memory ↦ inl (rw memory refl)
  | inr line ↦ inr (Mirrors e, refl, line, h)
]
