-- The results of a scan of the front of a text, with one unit more; and the end of the first paragraph (P1).
use Rattle.std.proofs.Common.{◌≡◌, ℕ, zero, suc, ◌+◌, ◌-◌, ◌<◌, ◌≤◌, true, false, List, [], ◌∷◌, ◌++◌, length, get_or, take, drop, refl, ap, sym, subst, ◌∙◌, arith, inl, inr}
use Rattle.std.specs.Option.{option_or}
use Rattle.std.specs.Prelude.{find, None, Some}
use Rattle.std.proofs.lemmas.Bool.{both_ways, cases_Bool, false_from_ne_true, false≢true}
use Rattle.std.proofs.lemmas.List.{drop_more, get_or-take, length-take-le, map-append, take_all, take_more}
use Rattle.std.proofs.lemmas.List.Folds.{find-append, list_any_at}
use Rattle.std.specs.List.{list_any}
use Rattle.units.specs.Classes.{classes_of, is_separator, is_strong}
use Rattle.units.specs.Layout.{no_unit}
use Rattle.units.specs.Paragraphs.{SeparatorOnlyLast}
use Rattle.units.specs.declared.bracket.Unit.{Unit as BidiUnit}
use Rattle.units.specs.declared.class.Class.{Class}
use Rattle.units.specs.declared.class.Class.TheVariants.{L, R, AL, B}
use Rattle.explicit.specs.FirstParagraph.{first_length}
use Rattle.paragraph.specs.ClassSets.{IsSetOf, is_class}
use Rattle.paragraph.specs.Contents.{IsFront}
use Rattle.paragraph.specs.declared.class_set.ClassSet.{ClassSet}
use Rattle.explicit.proofs.Holders.Roles.{class_read}
use Rattle.units.proofs.Lengths.{length-classes_of}

-- the classes of one unit more
pub classes_more : (us : List BidiUnit) (k : ℕ) (d : BidiUnit) → k < length us →
    classes_of (take (k + 1) us) ≡ classes_of (take k us) ++ (get_or us k d).class ∷ []
classes_more us k d lt = ap classes_of (take_more us k d lt) ∙
    map-append (λ (u : BidiUnit). u.class) (take k us) (get_or us k d ∷ [])

-- if no unit is a separator, the first paragraph continues
length_from : (us : List BidiUnit) (k : ℕ) (d : BidiUnit) → k < length us →
    first_length (drop k us) ≡ first_length (get_or us k d ∷ drop (k + 1) us)
length_from us k d lt = ap first_length (drop_more us k d lt)

first_length_other : (unit : BidiUnit) (units : List BidiUnit) → is_separator unit.class ≡ false →
    first_length (unit ∷ units) ≡ suc (first_length units)
first_length_other unit units plain = rw plain refl

first_length_separator : (unit : BidiUnit) (units : List BidiUnit) → is_separator unit.class ≡ true →
    first_length (unit ∷ units) ≡ 1
first_length_separator unit units separates = rw separates refl

goes_on : (us : List BidiUnit) (k : ℕ) (d : BidiUnit) → k < length us → is_separator (get_or us k d).class ≡ false →
    first_length us ≡ k + first_length (drop k us) →
    first_length us ≡ (k + 1) + first_length (drop (k + 1) us)
goes_on us k d lt plain e =
    let next = length_from us k d lt ∙ first_length_other (get_or us k d) (drop (k + 1) us) plain in
    omega (arith, e, next)

pub ends_here : (us : List BidiUnit) (k : ℕ) (d : BidiUnit) → k < length us →
    is_separator (get_or us k d).class ≡ true → first_length us ≡ k + first_length (drop k us) → k + 1 ≡ first_length us
ends_here us k d lt separates e =
    let last = length_from us k d lt ∙ first_length_separator (get_or us k d) (drop (k + 1) us) separates in
    omega (arith, e, last)

goes_on_to : (us : List BidiUnit) (k next : ℕ) → next ≡ k + 1 → k < length us →
    is_separator (get_or us k no_unit).class ≡ false → first_length us ≡ k + first_length (drop k us) →
    first_length us ≡ next + first_length (drop next us)
goes_on_to us k next is lt plain e =
    let P : ℕ → Type 0 = λ j. first_length us ≡ j + first_length (drop j us) in
    subst P (sym is) (goes_on us k no_unit lt plain e)

separator_is_b : (c : Class) → is_separator c ≡ true → is_class B c ≡ true
separator_is_b B h = refl
separator_is_b _ h = absurd (false≢true h)

-- a class that the front of a text does not have is none of its classes
no_separator : (us : List BidiUnit) (k j : ℕ) → k ≤ length us → j < k →
    list_any (is_class B) (classes_of (take k us)) ≡ false → is_separator (get_or us j no_unit).class ≡ false
no_separator us k j within below none =
    let long : length (take k us) ≡ k = length-take-le k us within in
    let read : get_or (classes_of (take k us)) j L ≡ (get_or us j no_unit).class =
    class_read (take k us) j no_unit (omega (arith, long)) ∙
    ap (λ (u : BidiUnit). u.class) (get_or-take k us j no_unit below) in
    false_from_ne_true (is_separator (get_or us j no_unit).class) (λ separates.
    false≢true (sym none ∙
    list_any_at (is_class B) (classes_of (take k us)) j L (omega (arith, long, length-classes_of (take k us)))
    (ap (is_class B) read ∙ separator_is_b _ separates)))

goes_on_by : (us : List BidiUnit) (k n : ℕ) → k + n ≤ length us →
    ((j : ℕ) → j < k + n → is_separator (get_or us j no_unit).class ≡ false) →
    first_length us ≡ k + first_length (drop k us) → first_length us ≡ (k + n) + first_length (drop (k + n) us)
goes_on_by us k zero within plain e =
    subst (λ (i : ℕ). first_length us ≡ i + first_length (drop i us)) {x = k} {y = k + 0} (omega arith) e
goes_on_by us k (suc n) within plain e =
    goes_on_to us (k + n) (k + suc n) (omega arith) (omega (arith, within)) (plain (k + n) (omega arith))
    (goes_on_by us k n (omega (arith, within)) (λ j below. plain j (omega (arith, below))) e)

-- if none of eight units more is a separator, the first paragraph continues after them
pub goes_on_eight : (us : List BidiUnit) (k : ℕ) → k + 8 ≤ length us →
    list_any (is_class B) (classes_of (take (k + 8) us)) ≡ false → first_length us ≡ k + first_length (drop k us) →
    first_length us ≡ (k + 8) + first_length (drop (k + 8) us)
goes_on_eight us k within none e =
    goes_on_by us k 8 within (λ j below. no_separator us (k + 8) j within below none) e

-- the set of the classes of a front, with those of one unit more
pub set_more : (set : ClassSet) (us : List BidiUnit) (k next : ℕ) → next ≡ k + 1 → k < length us →
    IsSetOf set (classes_of (take k us) ++ (get_or us k no_unit).class ∷ []) → IsSetOf set (classes_of (take next us))
set_more set us k next is lt s =
    let P : List Class → Type 0 = λ cs. IsSetOf set cs in
    subst P (sym (ap (λ j. classes_of (take j us)) is ∙ classes_more us k no_unit lt)) s

-- a front with one unit more
pub front_more : {us : List BidiUnit} {k : ℕ} {before after : ClassSet} → IsFront k before us → k < length us →
    is_separator (get_or us k no_unit).class ≡ false →
    IsSetOf after (classes_of (take k us) ++ (get_or us k no_unit).class ∷ []) → IsFront (k + 1) after us
front_more {us} {k} {before} {after} front lt plain set = record {
  within = omega arith;
  goes_on = goes_on us k no_unit lt plain front.goes_on;
  set = set_more after us k (k + 1) refl lt set;
}

-- a paragraph is its own first one
pub first_of_one : (us : List BidiUnit) → SeparatorOnlyLast us → first_length us ≡ length us
first_of_one [] only = refl
first_of_one (unit ∷ []) only =
    elim (cases_Bool (is_separator unit.class)) [
      | inl separates ↦ first_length_separator unit [] separates
      | inr plain ↦
          first_length_other unit [] plain
    ]
first_of_one (unit ∷ second ∷ others) only =
    first_length_other unit (second ∷ others) only.0 ∙ ap suc (first_of_one (second ∷ others) only.1)

-- a separator is not strong
pub separator_is_weak : (c : Class) → is_separator c ≡ true → is_strong c ≡ false
separator_is_weak L h = absurd (both_ways false refl h)
separator_is_weak R h = absurd (both_ways false refl h)
separator_is_weak AL h = absurd (both_ways false refl h)
separator_is_weak _ h = refl

-- P2: the first strong class, with one unit more
module _ (us : List BidiUnit) (k : ℕ) (d : BidiUnit) (lt : k < length us) where
  strong_more : find is_strong (classes_of (take (k + 1) us)) ≡ option_or (find is_strong (classes_of (take k us)))
      (find is_strong ((get_or us k d).class ∷ []))
  strong_more = ap (find is_strong) (classes_more us k d lt) ∙
      find-append is_strong (classes_of (take k us)) ((get_or us k d).class ∷ [])

  -- if there was none, this class is the first if it is strong
  pub first_strong_here : is_strong (get_or us k d).class ≡ true → find is_strong (classes_of (take k us)) ≡ None →
      find is_strong (classes_of (take (k + 1) us)) ≡ Some (get_or us k d).class
  first_strong_here strong none = strong_more ∙ rw none (rw strong refl)

  pub no_strong_yet : is_strong (get_or us k d).class ≡ false → find is_strong (classes_of (take k us)) ≡ None →
      find is_strong (classes_of (take (k + 1) us)) ≡ None
  no_strong_yet weak none = strong_more ∙ rw none (rw weak refl)

  -- an earlier first one stays the first
  pub first_strong_stays : (c : Class) → find is_strong (classes_of (take k us)) ≡ Some c →
      find is_strong (classes_of (take (k + 1) us)) ≡ Some c
  first_strong_stays c found = strong_more ∙ rw found refl

-- and further units don't change it
first_strong_stays_by : (us : List BidiUnit) (n k : ℕ) → k + n ≤ length us → (c : Class) →
    find is_strong (classes_of (take k us)) ≡ Some c → find is_strong (classes_of (take (k + n) us)) ≡ Some c
first_strong_stays_by us zero k within c found = let same : k ≡ k + 0 = omega arith in let P : ℕ → Type 0 =
    λ j. find is_strong (classes_of (take j us)) ≡ Some c in subst P same found
first_strong_stays_by us (suc n) k within c found =
    let same : (k + 1) + n ≡ k + suc n = omega arith in
    let P : ℕ → Type 0 = λ j. find is_strong (classes_of (take j us)) ≡ Some c in
    subst P same (first_strong_stays_by us n (k + 1) (omega arith) c
    (first_strong_stays us k no_unit (omega arith) c found))

pub first_strong_stays_later : (us : List BidiUnit) (k next : ℕ) → k ≤ next → next ≤ length us → (c : Class) →
    find is_strong (classes_of (take k us)) ≡ Some c → find is_strong (classes_of (take next us)) ≡ Some c
first_strong_stays_later us k next later within c found =
    let same : k + (next - k) ≡ next = omega arith in
    let P : ℕ → Type 0 = λ j. find is_strong (classes_of (take j us)) ≡ Some c in
    subst P same (first_strong_stays_by us (next - k) k (omega arith) c found)

-- the first strong one of the first units of a text is that of the text
pub text_strong : (us : List BidiUnit) (k : ℕ) (d : BidiUnit) → k < length us → is_strong (get_or us k d).class ≡ true →
    find is_strong (classes_of (take k us)) ≡ None → find is_strong (classes_of us) ≡ Some (get_or us k d).class
text_strong us k d lt strong none =
    let P : List BidiUnit → Type 0 = λ seen. find is_strong (classes_of seen) ≡ Some (get_or us k d).class in
    subst P (take_all (length us) us (omega arith))
    (first_strong_stays_later us (k + 1) (length us) (omega (arith, lt)) (omega arith) (get_or us k d).class
    (first_strong_here us k d lt strong none))
