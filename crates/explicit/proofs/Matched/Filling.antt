-- The pass that fills a map writes two lists.
use Rattle.std.proofs.Common.{◌≡◌, ℕ, suc, ◌+◌, ◌<◌, ◌≤◌, true, false, List, length, get_or, set, Option, Some, None, ap, ◌∙◌, arith}
use Rattle.std.proofs.lemmas.List.{length-set, get_or-set_same, get_or-set_other}
use Rattle.units.specs.Classes.{class_at, is_isolate_initiator, is_pdi}
use Rattle.units.specs.declared.class.Class.{Class}
use Rattle.explicit.proofs.Matched.Partners.{IsPass, pass_none, pass_opening, pass_other, pass_unmatched, pass_matched, pass_all}
use Rattle.explicit.specs.IsolateMaps.{HasPartners}

-- after the first k positions, with this many open initiators
pub record IsFilling (cs : List Class) (k : ℕ) (depth : ℕ) (room : ℕ) (partners : List (Option ℕ))
    (openers : List ℕ) : Type 0 where
  pub enough : length cs ≤ room
  pub deep : depth ≤ k
  pub partners_room : length partners ≡ room
  pub openers_room : length openers ≡ room
  pub pass : IsPass cs k depth (λ a. get_or openers a 0) (λ p. get_or partners p None)

-- one write into a list
pub write_below : {A : Type 0} (xs : List A) (k p : ℕ) (x d : A) → p < k → get_or (set xs k x) p d ≡ get_or xs p d
write_below xs k p x d h = get_or-set_other xs k p x d (λ e. absurd (omega arith))

pub filling_opening : (cs : List Class) (k depth room : ℕ) (partners : List (Option ℕ)) (openers : List ℕ) →
    IsFilling cs k depth room partners openers → k < length cs → is_isolate_initiator (class_at cs k) ≡ true →
    IsFilling cs (k + 1) (depth + 1) room (set partners k None) (set openers depth k)
filling_opening cs k depth room partners openers filling inside o =
    let enough = filling.enough in
    let deep = filling.deep in
    let pr = filling.partners_room in
    let or = filling.openers_room in
    record {
      enough = enough;
      deep = omega arith;
      partners_room = length-set partners k None ∙ pr;
      openers_room = length-set openers depth k ∙ or;
      pass = pass_opening cs k depth _ _ _ _ filling.pass o
          (λ a h. write_below openers depth a k 0 h)
          (get_or-set_same openers depth k 0 (omega arith))
          (λ p h. write_below partners k p None None h)
          (get_or-set_same partners k None None (omega arith));
    }

pub filling_other : (cs : List Class) (k depth room : ℕ) (partners : List (Option ℕ)) (openers : List ℕ) →
    IsFilling cs k depth room partners openers → k < length cs → is_isolate_initiator (class_at cs k) ≡ false →
    is_pdi (class_at cs k) ≡ false → IsFilling cs (k + 1) depth room (set partners k None) openers
filling_other cs k depth room partners openers filling inside o c =
    let enough = filling.enough in
    let deep = filling.deep in
    let pr = filling.partners_room in
    record {
      enough = enough;
      deep = omega arith;
      partners_room = length-set partners k None ∙ pr;
      openers_room = filling.openers_room;
      pass = pass_other cs k depth _ _ _ filling.pass o c
          (λ p h. write_below partners k p None None h)
          (get_or-set_same partners k None None (omega arith));
    }

pub filling_unmatched : (cs : List Class) (k depth room : ℕ) (partners : List (Option ℕ)) (openers : List ℕ) →
    IsFilling cs k depth room partners openers → k < length cs → depth ≡ 0 → is_pdi (class_at cs k) ≡ true →
    IsFilling cs (k + 1) depth room (set partners k None) openers
filling_unmatched cs k depth room partners openers filling inside empty c =
    let enough = filling.enough in
    let pr = filling.partners_room in
    record {
      enough = enough;
      deep = omega arith;
      partners_room = length-set partners k None ∙ pr;
      openers_room = filling.openers_room;
      pass = rw empty (pass_unmatched cs k _ _ _ (rw empty at filling.pass) c
          (λ p h. write_below partners k p None None h)
          (get_or-set_same partners k None None (omega arith)));
    }

pub filling_matched : (cs : List Class) (k depth d opener room : ℕ) (partners : List (Option ℕ)) (openers : List ℕ) →
    IsFilling cs k depth room partners openers → k < length cs → depth ≡ suc d → is_pdi (class_at cs k) ≡ true →
    opener ≡ get_or openers d 0 →
    IsFilling cs (k + 1) d room (set (set (set partners k None) opener (Some k)) k (Some opener)) openers
filling_matched cs k depth d opener room partners openers filling inside one_more c read =
    let enough = filling.enough in
    let deep = filling.deep in
    let pr = filling.partners_room in
    let pass : IsPass cs k (suc d) (λ a. get_or openers a 0) (λ p. get_or partners p None) =
    rw one_more at filling.pass in
    let low' : get_or openers d 0 < k = pass.stack.before d (omega arith) in
    let low : opener < k = rw read low' in
    let one : List (Option ℕ) = set partners k None in
    let two : List (Option ℕ) = set one opener (Some k) in
    let n1 : length one ≡ room = length-set partners k None ∙ pr in
    let n2 : length two ≡ room = length-set one opener (Some k) ∙ n1 in
    record {
      enough = enough;
      deep = omega arith;
      partners_room = length-set two k (Some opener) ∙ n2;
      openers_room = filling.openers_room;
      pass = pass_matched cs k d _ _ _ inside pass c
          (λ p h ne. write_below two k p (Some opener) None h ∙
          get_or-set_other one opener p (Some k) None (λ e. ne (e ∙ read)) ∙ write_below partners k p None None h)
          (rw (← read) (write_below two k opener (Some opener) None low ∙
          get_or-set_same one opener (Some k) None (omega arith)))
          (get_or-set_same two k (Some opener) None (omega arith) ∙ ap Some read);
    }

pub filling_all : (cs : List Class) (depth room : ℕ) (partners : List (Option ℕ)) (openers : List ℕ) →
    IsFilling cs (length cs) depth room partners openers → HasPartners partners cs
filling_all cs depth room partners openers filling =
    let enough = filling.enough in
    let pr = filling.partners_room in
    record { enough = omega arith; at = pass_all cs depth _ _ filling.pass }

-- before the first position
pub filling_none : (cs : List Class) (room : ℕ) (partners : List (Option ℕ)) (openers : List ℕ) → length cs ≤ room →
    length partners ≡ room → length openers ≡ room → IsFilling cs 0 0 room partners openers
filling_none cs room partners openers enough one other = record {
  enough = enough;
  deep = omega arith;
  partners_room =
      one;
  openers_room = other;
  pass = pass_none cs _ _;
}
