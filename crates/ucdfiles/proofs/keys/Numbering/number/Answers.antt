use Rattle.std.proofs.Common.{◌≡◌, ℕ, List, length, Some, None, ap, sym, ◌∙◌, ◌+◌, cond, Vec, Global}
use Rattle.std.proofs.lemmas.List.{length-map}
use Rattle.std.specs.Str.{bytes_eq}
use Rattle.ucdfiles.specs.Keys.{number_in, IsNumbering}
use Rattle.ucdfiles.proofs.Numbers.{read, number_in-lookup, number_in-insert, number_in-new, keeps-new, numbering-new}
use Rattle.ucdfiles.proofs.keys.Numbering.number.Goals as goal

pub returns-in-Some-clause-number : goal.returns-in-Some-clause-number
returns-in-Some-clause-number c =
    let items = λ (v : Vec ℕ Global). v.items in
    let found : number_in (read items c.self.inside.numbers.entries) c.in_ok-decomposition.decomposition.items ≡
    Some c.in-Some.number.now =
    number_in-lookup items c.self.inside.numbers.entries c.in_ok-decomposition.decomposition.items ∙
    sym c.in-Some.ensures.value in
    rw (← c.self.view_is, ← c.in_ok-decomposition.ensures) found

absent : (c : goal.In_ok-insert) →
    number_in (read (λ (v : Vec ℕ Global). v.items) c.self.inside.numbers.entries)
    c.in_ok-decomposition.decomposition.items ≡ None
absent c = number_in-lookup (λ (v : Vec ℕ Global).
    v.items) c.self.inside.numbers.entries c.in_ok-decomposition.decomposition.items ∙ sym c.in_default.ensures.value

count : (c : goal.In_ok-insert) →
    c.in_ok-number.number ≡ length (read (λ (v : Vec ℕ Global). v.items) c.self.inside.numbers.entries)
count c = c.in_ok-number.ensures ∙ ap length (sym c.self.view_is)

looks : (c : goal.In_ok-insert) (a : List ℕ)
    → number_in (read (λ (v : Vec ℕ Global). v.items) c.insert.new.self.entries) a
    ≡ cond (bytes_eq a c.in_ok-decomposition.decomposition.items)
    (Some (length (read (λ (v : Vec ℕ Global). v.items) c.self.inside.numbers.entries)))
    (number_in (read (λ (v : Vec ℕ Global). v.items) c.self.inside.numbers.entries) a)
looks c a =
    let items = λ (v : Vec ℕ Global). v.items in
    let es = c.self.inside.numbers.entries in
    ap (λ new. number_in (read items new) a) c.in_ok-insert.ensures.entries ∙
    number_in-insert items es c.in_ok-decomposition.decomposition c.in_ok-number.number a (absent c)
    ∙ ap (λ n. cond (bytes_eq a c.in_ok-decomposition.decomposition.items) (Some n) (number_in (read items es) a))
    (count c)

counts : (c : goal.In_ok-insert) → length (read (λ (v : Vec ℕ Global). v.items) c.insert.new.self.entries) ≡
    length (read (λ (v : Vec ℕ Global). v.items) c.self.inside.numbers.entries) + 1
counts c =
    let was : None ≡ c.in_ok-insert.field-0 = c.in_default.ensures.value ∙ sym c.in_ok-insert.ensures.old in
    let more : length c.insert.new.self.entries ≡ length c.self.inside.numbers.entries + 1 =
    rw (← was) at c.in_ok-insert.ensures.len in
    length-map _ _ ∙ more ∙ ap (λ n. n + 1) (sym (length-map _ _))

numbering : (c : goal.In_ok-insert) → IsNumbering (read (λ (v : Vec ℕ Global). v.items) c.insert.new.self.entries)
numbering c =
    let items = λ (v : Vec ℕ Global). v.items in
    numbering-new (read items c.self.inside.numbers.entries)
    (read items c.insert.new.self.entries) c.in_ok-decomposition.decomposition.items (absent c)
    (looks c) c.self.invariant (counts c)

pub invariant_of-self-2 : goal.invariant_of-self-2
invariant_of-self-2 c = numbering c

pub returns-clause-numbering : goal.returns-clause-numbering
returns-clause-numbering c = numbering c

pub returns-clause-unchanged : goal.returns-clause-unchanged
returns-clause-unchanged c =
    let items = λ (v : Vec ℕ Global). v.items in
    rw (← c.self.view_is) (keeps-new (read items c.self.inside.numbers.entries)
    (read items c.insert.new.self.entries) c.in_ok-decomposition.decomposition.items (absent c) (looks c))

pub returns-clause-number : goal.returns-clause-number
returns-clause-number c =
    let items = λ (v : Vec ℕ Global). v.items in
    let new = number_in-new (read items c.self.inside.numbers.entries)
    (read items c.insert.new.self.entries) c.in_ok-decomposition.decomposition.items (absent c) (looks c) in
    rw (← c.in_ok-decomposition.ensures, count c) new
