-- Faults of printing after a failed write.
use Rattle.std.proofs.Common.{◌≡◌, ℕ, List, refl, sym, subst}
use Rattle.std.specs.declared.io.Error.{Error}
use Rattle.printing.specs.FailedWrites.{HasFailed, ReportsFailure, StopsAfter}
use Rattle.printing.specs.ReadTexts.{EndsUnwritten}
use Rattle.printing.specs.declared.fault.PrintStop.{PrintStop}
use Rattle.printing.specs.declared.fault.PrintStop.TheVariants as stop
use Rattle.printing.specs.declared.reading.TextFault.{TextFault}
use Rattle.printing.specs.declared.reading.TextFault.TheVariants.{Read, NotUtf8, Write, NobodyReads, Memory}
use Rattle.printing.specs.declared.written.Written.TheVariants.{Whole, CutOff}

module _ (failed : Error → Type 0) where
  unwritten_reports : (Failed Ended : Type 0) (bytes : List ℕ) (fault : TextFault) → HasFailed failed →
      EndsUnwritten Failed Ended bytes fault → ReportsFailure failed fault
  unwritten_reports Failed Ended bytes (Read Whole) so h = absurd h
  unwritten_reports Failed Ended bytes (Read CutOff) so h = so
  unwritten_reports Failed Ended bytes (NotUtf8 place Whole) so h = absurd h
  unwritten_reports Failed Ended bytes (NotUtf8 place CutOff) so h = so
  unwritten_reports Failed Ended bytes Write so h = so
  unwritten_reports Failed Ended bytes NobodyReads so h = absurd h
  unwritten_reports Failed Ended bytes Memory so h = absurd h

  -- the fault of a text whose printing stopped while it was read
  pub stop_reports : {S : Type 0} (gives : S → List ℕ → S → Type 0) (Failed Ended : Type 0) (start now next : S)
      (why : PrintStop) (fault : TextFault) → StopsAfter failed why
      → (why ≡ stop.NobodyReads → (fault ≡ NobodyReads) × (next ≡ now))
      → (why ≡ stop.Memory → (fault ≡ Memory) × (next ≡ now))
      → (why ≡ stop.Write → (given : List ℕ) × gives start given next × EndsUnwritten Failed Ended given fault)
      → ReportsFailure failed fault
  stop_reports gives Failed Ended start now next stop.NobodyReads fault so unread memory write =
      subst (ReportsFailure failed) (sym (unread refl).0) so
  stop_reports gives Failed Ended start now next stop.Memory fault so unread memory write =
      subst (ReportsFailure failed) (sym (memory refl).0) tt
  stop_reports gives Failed Ended start now next stop.Write fault so unread memory write =
      let is = write refl in unwritten_reports Failed Ended is.0 fault so is.2
