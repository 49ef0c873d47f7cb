-- A front of a text, written after known bytes.
use Rattle.std.proofs.Common.{◌≡◌, ◌<◌, ◌≤◌, ◌+◌, ◌-◌, ℕ, zero, suc, List, [], ◌∷◌, ◌++◌, Option, Result, Ok, Err, IfErr, IsErrAnd, refl, subst, sym, ap, ◌∙◌, arith, append_assoc}
use Rattle.std.specs.List.{flat_map}
use Rattle.std.specs.Io.KnownBytes.{Appends}
use Rattle.std.proofs.lemmas.Grind.{flat_map-append}
use Rattle.printing.specs.Fronts.{AppendsFront, FaultLeavesFront}
use Rattle.printing.specs.LevelsText.{printed}
use Rattle.printing.specs.declared.fault.PrintFault.{PrintFault}
use Rattle.printing.specs.declared.fault.PrintFault.TheVariants.{Memory, Write}
use Rattle.printing.proofs.Appending.{Appends-joined, Appends-nothing}
use Rattle.printing.proofs.Passing.{HasPrintedUpTo}
use Rattle.printing.proofs.Printing.{HasPrinted, printed_more}

-- if nothing was written, an empty front was
pub front_nothing : (text : List ℕ) (a : Option (List ℕ)) → AppendsFront text a a
front_nothing text a = record { front = []; rest = text; joined = refl; grown = Appends-nothing a }

-- a front of an equal text
pub front_to : (xs ys : List ℕ) (a b : Option (List ℕ)) → xs ≡ ys → AppendsFront xs a b → AppendsFront ys a b
front_to xs ys a b e h = record { front = h.front; rest = h.rest; joined = h.joined ∙ e; grown = h.grown }

-- a front of a longer text
pub front_more : (xs ys : List ℕ) (a b : Option (List ℕ)) → AppendsFront xs a b → AppendsFront (xs ++ ys) a b
front_more xs ys a b h = record {
  front = h.front;
  rest = h.rest ++ ys;
  joined = sym (append_assoc h.front h.rest ys) ∙ ap (λ v. v ++ ys) h.joined;
  grown = h.grown;
}

-- a front of the text after one that was written completely
pub front_after : (xs ys : List ℕ) (a b c : Option (List ℕ)) → Appends a b xs → AppendsFront ys b c
    → AppendsFront (xs ++ ys) a c
front_after xs ys a b c f h = record {
  front = xs ++ h.front;
  rest = h.rest;
  joined = append_assoc xs h.front h.rest ∙ ap (λ v. xs ++ v) h.joined;
  grown = Appends-joined a b c xs h.front f h.grown;
}

module _ (text : ℕ → List ℕ) (s : ℕ) where
  further : (k d : ℕ) (a b : Option (List ℕ)) → s ≤ k → AppendsFront (printed text s k) a b
      → AppendsFront (printed text s (k + d)) a b
  further k zero a b h f = let same : k ≡ k + 0 = omega arith in front_to _ _ a b (ap (printed text s) same) f
  further k (suc d) a b h f =
      let more = front_more _ (text (k + d)) a b (further k d a b h f) in
      let longer = front_to _ _ a b (printed_more text s (k + d) (omega arith)) more in
      let same : k + d + 1 ≡ k + suc d = omega arith in
      front_to _ _ a b (ap (printed text s) same) longer

  -- a front of the text of position k, after the positions before it
  pub front_of_printed : (k n : ℕ) (a b c : Option (List ℕ)) → s ≤ k → k < n
      → HasPrinted a b text s k → AppendsFront (text k) b c → AppendsFront (printed text s n) a c
  front_of_printed k n a b c h within p f =
      let here = front_to _ _ a c (printed_more text s k h) (front_after _ (text k) a b c p.grown f) in
      let same : k + 1 + (n - (k + 1)) ≡ n = omega arith in
      front_to _ _ a c (ap (printed text s) same) (further (k + 1) (n - (k + 1)) a c (omega arith) here)

-- a front of the text of an element of a list, after the elements before it
pub front_of_passed : {A : Type 0} (text : A → List ℕ) (whole rest others : List A) (x : A) (a b c : Option (List ℕ))
    → rest ≡ x ∷ others → HasPrintedUpTo a b text whole rest → AppendsFront (text x) b c
    → AppendsFront (flat_map text whole) a c
front_of_passed {A} text whole rest others x a b c e p f =
    let here = front_after _ _ a b c p.grown (front_more _ (flat_map text others) b c f) in
    let split = sym (flat_map-append text p.passed (x ∷ others)) in
    let same : p.passed ++ (x ∷ others) ≡ whole = ap (λ v. p.passed ++ v) (sym e) ∙ p.joined in
    front_to _ _ a c (split ∙ ap (flat_map text) same) here

-- what is known after a fault is known of a second text, if each front of the first gives a front of the second
pub fault_along : (f : PrintFault) (xs ys : List ℕ) (a b c d : Option (List ℕ))
    → (AppendsFront xs a b → AppendsFront ys c d) → FaultLeavesFront xs a b f → FaultLeavesFront ys c d f
fault_along Write xs ys a b c d step h = tt
fault_along Memory xs ys a b c d step h = step h

module _ (text : List ℕ) (a b : Option (List ℕ)) where
  -- what is known after a fault is known after a result with the same fault
  pub leaves_on : {T : Type 0} (r : Result T PrintFault) (f : PrintFault) → IsErrAnd r (λ given. given ≡ f)
      → FaultLeavesFront text a b f → IfErr r (FaultLeavesFront text a b)
  leaves_on (Ok x) f same h = tt
  leaves_on (Err given) f same h = subst (FaultLeavesFront text a b) (sym same) h
