-- The output after a failed allocation, if the fault is returned unchanged.
use Rattle.std.proofs.Common.{◌≡◌, ℕ, List, Option, Result, Ok, Err, IfErr, IsErrAnd, false}
use Rattle.printing.specs.declared.fault.PrintFault.{PrintFault}
use Rattle.printing.specs.declared.fault.PrintFault.TheVariants.{Write, Memory}
use Rattle.rows.specs.Rooms.{FaultLeaves}
use Rattle.requests.specs.FaultText.{print_fault}
use Rattle.requests.specs.Outcomes.{RequestLeaves, takes_memory_first}
use Rattle.requests.specs.Parts.{MemoryLeaves}
use Rattle.requests.specs.declared.fault.Fault.{Fault}
use Rattle.requests.specs.declared.fault.Fault.TheVariants.{CannotWrite}
use Rattle.requests.specs.declared.request.Request.{Request}
use Rattle.requests.proofs.FirstFaults.{passed_on}

module _ (before after : Option (List ℕ)) where
  -- of the printing of rows
  pub rows_leave : {T : Type 0} (r : Result T Fault) (f : PrintFault) → FaultLeaves before after f →
      IsErrAnd r (λ given. given ≡ print_fault f)
      → IfErr r (MemoryLeaves before after)
  rows_leave (Ok x) f h same = tt
  rows_leave (Err given) Write h same = λ rejected. absurd cc
  rows_leave (Err given) Memory h same = λ rejected. h

  module _ (request : Request) where
    -- of a request
    pub leaves_all : {T : Type 0} (r : Result T Fault) → IfErr r (MemoryLeaves before after) →
        IfErr r (RequestLeaves before after request)
    leaves_all (Ok x) h = h
    leaves_all (Err given) h = λ first. h

    pub leaves_on : {T : Type 0} (r : Result T Fault) (e : Fault) → IsErrAnd r (λ given. given ≡ e) →
        MemoryLeaves before after e
        → IfErr r (RequestLeaves before after request)
    leaves_on r e same h = passed_on (RequestLeaves before after request) r e same (λ first. h)

    -- nothing is promised for a request that allocates after its first write
    pub leaves_open : takes_memory_first request ≡ false → {T : Type 0} (r : Result T Fault) →
        IfErr r (RequestLeaves before after request)
    leaves_open later (Ok x) = tt
    leaves_open later (Err given) = λ first. absurd cc

    -- nothing is promised after a failed write
    pub leaves_written : {T : Type 0} (r : Result T Fault) (e : Fault) → IsErrAnd r (λ given. given ≡ e) →
        e ≡ CannotWrite
        → IfErr r (RequestLeaves before after request)
    leaves_written (Ok x) e same is = tt
    leaves_written (Err given) e same is = λ first rejected. absurd cc
