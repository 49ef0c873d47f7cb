-- The units that look-up has written, and their classes.
use Rattle.std.proofs.Common.{◌≡◌, ℕ, ◌+◌, ◌≤◌, List, ◌++◌, drop, length, map, take, sym, subst, ap, ◌∙◌, arith, take-add}
use Rattle.std.proofs.lemmas.List.{length-drop, length-map, length-take-le, map-append}
use Rattle.std.proofs.lemmas.Slice.{take-put_mid}
use borrow.Rule.Slice.PartMut.{put_mid}
use Rattle.units.specs.Classes.{classes_of}
use Rattle.units.specs.declared.bracket.Unit.{Unit as BidiUnit}
use Rattle.units.specs.declared.class.Class.{Class}
use Rattle.ucdfiles.specs.UnitStages.{UnitStages, unit_by_stages}
use Rattle.paragraph.specs.ClassSets.{IsSetOf}
use Rattle.paragraph.specs.declared.class_set.ClassSet.{ClassSet}

-- a block is written after the units before it
pub block_after : (stages : UnitStages) (codes : List ℕ) (units new : List BidiUnit) (k m : ℕ)
    → k + 4 ≤ length codes → length codes ≤ length units → m ≡ 4
    → new ≡ map (unit_by_stages stages) (take m (drop k codes))
    → take (k + 4) (put_mid k m units new) ≡ take k units ++ new
block_after stages codes units new k m inside fits is written =
    let long : length new ≡ 4 = ap length written ∙ length-map (take m (drop k codes)) (unit_by_stages stages) ∙
    length-take-le m (drop k codes) (omega (arith, is, inside, length-drop k codes)) ∙ is in
    take-put_mid k m units new (k + 4) (omega (arith, long)) (omega (arith, inside, fits))

pub units_more : (stages : UnitStages) (codes : List ℕ) (units new : List BidiUnit) (k m : ℕ)
    → k + 4 ≤ length codes → length codes ≤ length units → m ≡ 4
    → take k units ≡ map (unit_by_stages stages) (take k codes)
    → new ≡ map (unit_by_stages stages) (take m (drop k codes))
    → take (k + 4) (put_mid k m units new) ≡ map (unit_by_stages stages) (take (k + 4) codes)
units_more stages codes units new k m inside fits is before written =
    let f = unit_by_stages stages in
    block_after stages codes units new k m inside fits is written
    ∙ ap (λ (us : List BidiUnit). us ++ new) before
    ∙ ap (λ (us : List BidiUnit). map f (take k codes) ++ us)
    (written ∙ ap (λ (n : ℕ). map f (take n (drop k codes))) is)
    ∙ sym (map-append f (take k codes) (take 4 (drop k codes)))
    ∙ ap (map f) (sym (take-add k 4 codes))

-- the classes before some units are joined with theirs
pub classes_after : (units new : List BidiUnit) (k m n : ℕ) (set : ClassSet) → length new ≡ n → k ≤ length units
    → IsSetOf set (classes_of (take k units) ++ classes_of new)
    → IsSetOf set (classes_of (take (k + n) (put_mid k m units new)))
classes_after units new k m n set long inside s =
    subst (λ (cs : List Class). IsSetOf set cs)
    (sym (ap classes_of (take-put_mid k m units new (k + n) (omega (arith, long)) inside) ∙
    map-append (λ (u : BidiUnit). u.class) (take k units) new)) s

pub classes_more : (stages : UnitStages) (codes : List ℕ) (units new : List BidiUnit) (k m : ℕ) (set : ClassSet)
    → k + 4 ≤ length codes → length codes ≤ length units → m ≡ 4
    → new ≡ map (unit_by_stages stages) (take m (drop k codes))
    → IsSetOf set (classes_of (take k units) ++ classes_of new)
    → IsSetOf set (classes_of (take (k + 4) (put_mid k m units new)))
classes_more stages codes units new k m set inside fits is written s =
    subst (λ (cs : List Class). IsSetOf set cs)
    (sym (ap classes_of (block_after stages codes units new k m inside fits is written) ∙
    map-append (λ (u : BidiUnit). u.class) (take k units) new)) s
