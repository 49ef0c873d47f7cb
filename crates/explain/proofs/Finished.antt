-- What is printed when a loop over positions ends, and the same text in other terms.
use Rattle.std.proofs.Common.{◌≡◌, ℕ, List, Ok, Err, IfErr, IsOk, OnErr, OnOk, Option, Result, ap, false, true}
use Rattle.std.proofs.lemmas.Result.{IfOk-weaker}
use Rattle.std.specs.Io.KnownBytes.{Appends}
use Rattle.printing.specs.Fronts.{FaultLeavesFront}
use Rattle.printing.specs.LevelsText.{printed}
use Rattle.printing.specs.declared.fault.PrintFault.{PrintFault}
use Rattle.printing.specs.declared.fault.PrintFault.TheVariants.{Write}
use Rattle.printing.proofs.Appending.{Appends-to}
use Rattle.printing.proofs.Printing.{HasPrinted}

pub all_printed : (a b : Option (List ℕ)) (text : ℕ → List ℕ) (start p end : ℕ) → p ≡ end →
    HasPrinted a b text start p → Appends a b (printed text start end)
all_printed a b text start p end e h = Appends-to a b _ _ (ap (printed text start) e) h.grown

pub OnOk-to : {T E : Type 0} (r : Result T E) (a b : Option (List ℕ)) (xs ys : List ℕ) → xs ≡ ys →
    OnOk r (Appends a b xs) → OnOk r (Appends a b ys)
OnOk-to r a b xs ys e = IfOk-weaker r (λ _. Appends a b xs) (λ _. Appends a b ys) (λ _ h. Appends-to a b xs ys e h)

-- if only a write can fail, the fault promises nothing about the output
pub OnErr-leaves : {S T E : Type 0} (outcome : Result S E) (r : Result T PrintFault) (text : List ℕ)
    (a b : Option (List ℕ)) → OnOk outcome (IsOk r) → OnErr outcome (r ≡ Err Write) →
    IfErr r (FaultLeavesFront text a b)
OnErr-leaves (Ok x) (Ok y) text a b done fault = tt
OnErr-leaves (Ok x) (Err e) text a b done fault = let h : false ≡ true = done in absurd cc
OnErr-leaves (Err x) r text a b done fault = rw fault tt
