-- What a reader returns at each of its exits.
use Rattle.std.proofs.Common.{◌≡◌, ◌≢◌, ◌<◌, ◌≤◌, ℕ, ◌⊎◌, inl, inr, List, [], ◌++◌, length, length-append, take, arith, Option, None, Some, Result, Ok, Err}
use Rattle.std.proofs.lemmas.List.{length-take-le}
use Rattle.std.specs.Prelude.{IfErr, OnOk}
use Rattle.units.specs.LineCutting.{Cutting}
use Rattle.units.specs.Text.{lines_of}
use Rattle.ucdfiles.specs.declared.fault.Fault.{Fault}
use Rattle.ucdfiles.specs.declared.fault.TableFault.{TableFault}
use Rattle.ucdfiles.specs.declared.fault.TableFault.TheVariants.{Read, Memory}
use Rattle.ucdfiles.specs.Faults.{first_fault}
use Rattle.ucdfiles.specs.Reading.{Reads, RejectsBytes, IsFault, IsOutcome}
use Rattle.ucdfiles.proofs.Decided.{decided-whole}

module _ (before after : List (List ℕ) → Type 0) (fault : List (List ℕ) → List ℕ →
    Option Fault) (splitter : Cutting) (ended : Type 0) (b : List ℕ) (r : Reads before fault splitter b) where
  pub failed : IsFault fault ended b Read
  failed = grind (arith, decided-whole)

  pub ends-outcome : (result : Result (Unit {0}) TableFault) → ended
      → OnOk result ((b : List ℕ) → Reads before fault splitter b → (first_fault fault [] (lines_of b) ≡ None) ×
      after (lines_of b))
      → IfErr result (λ e. (b : List ℕ) → Reads before fault splitter b →
      (e ≡ Memory) ⊎ (first_fault fault [] (lines_of b) ≡ Some e))
      → IfErr result (λ e. e ≢ Read) → IsOutcome after fault ended result b
  ends-outcome (Ok done) end ok err not_read = (end, (ok b r).0, (ok b r).1)
  ends-outcome (Err e) end ok err not_read = grind arith

pub rejected : (fault : List (List ℕ) → List ℕ → Option Fault) (ended : Type 0) (b : List ℕ) (e : TableFault) →
    0 < length b → RejectsBytes fault b e → e ≢ Read → IsFault fault ended b e
rejected fault ended b e some rejects not_read = record {
  read = λ is. absurd (not_read is);
  memory = λ _. inr some;
  other = λ _. inl rejects;
}

pub some-given : (b xs : List ℕ) (n : ℕ) → n ≢ 0 → n ≤ length xs → 0 < length (b ++ take n xs)
some-given b xs n some bound = omega (arith, length-append b (take n xs), length-take-le n xs bound, some)
