-- The fault of a reader ends the reading of its table.
use Rattle.std.proofs.Common.{◌≡◌, ◌⊎◌, ℕ, List, [], Option, Some, inl, inr, refl}
use Rattle.std.specs.Borrow.{Bor}
use Rattle.units.specs.Text.{lines_of}
use Rattle.units.specs.declared.unread.Unread.{Unread}
use Rattle.ucdfiles.specs.Faults.{first_fault}
use Rattle.ucdfiles.specs.Reading.{IsFault, RejectsBytes}
use Rattle.ucdfiles.specs.declared.fault.Fault.{Fault as LineFault}
use Rattle.ucdfiles.specs.declared.fault.TableFault.{TableFault}
use Rattle.ucdfiles.specs.declared.fault.TableFault.TheVariants.{CodePoint, Backwards, ClassName, Fields, Overlap, Twice, BracketKind, LineTooLong, TooMany, Read, Memory}
use Rattle.requests.specs.ReadFiles.{FileFacts, FileNamed, most_file_bytes, named_file}
use Rattle.requests.specs.TableFaults.{EndsReading, HasFault, table_fault}

module _ (files : FileFacts) (fault : List (List ℕ) → List ℕ →
    Option LineFault) (path : List ℕ) (ended : Type 0) (bytes : List ℕ)
    (unread : Unread) (begins : files.Begins (FileNamed path) most_file_bytes bytes) (whole : ended →
    files.Holds (FileNamed path) most_file_bytes bytes) where
  of_line : (e : TableFault) → (e ≡ Memory → ⊥) → RejectsBytes fault bytes e ⊎
      (ended × (first_fault fault [] (lines_of bytes) ≡ Some e))
      → HasFault files fault path e
  of_line e other (inl (inl memory)) = absurd (other memory)
  of_line e other (inl (inr decided)) = (bytes, inl (begins, decided))
  of_line e other (inr last) = (bytes, inr (whole last.0, last.1))

  pub table_ends : (name folder : Bor (List ℕ)) (e : TableFault) →
      (e ≡ Read → files.Fails (FileNamed path) most_file_bytes bytes unread)
      → IsFault fault ended bytes e →
      EndsReading files fault path (named_file name (Some folder) most_file_bytes)
      (table_fault name folder e unread)
  table_ends name folder (CodePoint line) failed h = (refl, refl, of_line _ (λ m. cc) (h.other (λ r. cc)))
  table_ends name folder (Backwards line) failed h = (refl, refl, of_line _ (λ m. cc) (h.other (λ r. cc)))
  table_ends name folder (ClassName line) failed h = (refl, refl, of_line _ (λ m. cc) (h.other (λ r. cc)))
  table_ends name folder (Fields line) failed h = (refl, refl, of_line _ (λ m. cc) (h.other (λ r. cc)))
  table_ends name folder (Overlap line) failed h = (refl, refl, of_line _ (λ m. cc) (h.other (λ r. cc)))
  table_ends name folder (Twice line) failed h = (refl, refl, of_line _ (λ m. cc) (h.other (λ r. cc)))
  table_ends name folder (BracketKind line) failed h = (refl, refl, of_line _ (λ m. cc) (h.other (λ r. cc)))
  table_ends name folder (LineTooLong line) failed h = (refl, refl, of_line _ (λ m. cc) (h.other (λ r. cc)))
  table_ends name folder (TooMany line) failed h = (refl, refl, of_line _ (λ m. cc) (h.other (λ r. cc)))
  table_ends name folder Read failed h = (refl, (bytes, failed refl, h.read refl))
  table_ends name folder Memory failed h = tt
