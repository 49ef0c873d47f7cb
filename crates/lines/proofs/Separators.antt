-- A text has as many paragraphs as separators, and one more if it does not end with a separator.
use Rattle.std.proofs.Common.{◌≡◌, ℕ, ◌+◌, ◌-◌, ◌<◌, Bool, true, false, cond, List, [], ◌∷◌, length, take, zero, suc, refl, sym, ap, ◌∙◌, arith, get_or}
use Rattle.std.specs.Prelude.{count_by, not}
use mir.Val.{bool_byte}
use Rattle.std.proofs.lemmas.List.Sums.{sum_by-cons}
use Rattle.units.specs.declared.bracket.Unit.{Unit as BidiUnit}
use Rattle.units.specs.declared.class.Class.{Class}
use Rattle.units.specs.Classes.{classes_of, is_separator}
use Rattle.units.specs.Paragraphs.{begin_with, paragraphs_of}

-- 1 if the text ends without a separator, else 0
abbrev pub open_ends : List BidiUnit → ℕ
open_ends [] = 0
open_ends (u ∷ []) = cond (is_separator u.class) 0 1
open_ends (u ∷ v ∷ us) = open_ends (v ∷ us)

length_if : (b : Bool) (u : BidiUnit) (piece : List BidiUnit) (pieces : List (List BidiUnit)) →
    length (cond b ((u ∷ []) ∷ piece ∷ pieces) ((u ∷ piece) ∷ pieces)) ≡ cond b 1 0 + suc (length pieces)
length_if true u piece pieces = omega arith
length_if false u piece pieces = omega arith

pub length-begin_with : (u : BidiUnit) (pieces : List (List BidiUnit)) → 0 < length pieces →
    length (begin_with u pieces) ≡ cond (is_separator u.class) 1 0 + length pieces
length-begin_with u [] h = absurd (omega arith)
length-begin_with u (piece ∷ pieces) h = length_if (is_separator u.class) u piece pieces

pub length-paragraphs : (u : BidiUnit) (us : List BidiUnit) → 0 < length (paragraphs_of (u ∷ us))
length-paragraphs u [] = omega arith
length-paragraphs u (v ∷ us) = grind (arith, length-begin_with, length-paragraphs v us)

pub count-cons : (c : Class) (cs : List Class) →
    count_by is_separator (c ∷ cs) ≡ cond (is_separator c) 1 0 + count_by is_separator cs
count-cons c cs = sum_by-cons (λ (d : Class). cond (is_separator d) 1 0) c cs

one_or_none : (b : Bool) → cond b 1 0 + 0 + cond b 0 1 ≡ 1
one_or_none true = refl
one_or_none false = refl

pub count-paragraphs : (us : List BidiUnit) →
    count_by is_separator (classes_of us) + open_ends us ≡ length (paragraphs_of us)
count-paragraphs [] = refl
count-paragraphs (u ∷ []) = ap (λ n. n + open_ends (u ∷ [])) (count-cons u.class []) ∙
    one_or_none (is_separator u.class)
count-paragraphs (u ∷ v ∷ us) =
    let next = count-paragraphs (v ∷ us) in
    let some = length-paragraphs v us in
    let counted : count_by is_separator (classes_of (u ∷ v ∷ us)) ≡ cond (is_separator u.class) 1 0 +
    count_by is_separator (classes_of (v ∷ us)) =
    count-cons u.class (classes_of (v ∷ us)) in
    omega (arith, counted, length-begin_with u (paragraphs_of (v ∷ us)) some, next)

-- before each position there are fewer separators than paragraphs
pub count-before : (us : List BidiUnit) (p : ℕ) → p < length us →
    count_by is_separator (take p (classes_of us)) < length (paragraphs_of us)
count-before [] p h = absurd (omega arith)
count-before (u ∷ us) zero h = length-paragraphs u us
count-before (u ∷ []) (suc p) h = absurd (omega arith)
count-before (u ∷ v ∷ us) (suc p) h =
    let next = count-before (v ∷ us) p (omega arith) in
    let some = length-paragraphs v us in
    omega (
      arith,
      sum_by-cons (λ c. cond (is_separator c) 1 0) u.class (take p (classes_of (v ∷ us))),
      length-begin_with u (paragraphs_of (v ∷ us)) some,
      next,
    )

-- the last unit says whether the text ends without a separator
pub open_ends-last : (us : List BidiUnit) (d : BidiUnit) → 0 < length us →
    open_ends us ≡ cond (is_separator (get_or us (length us - 1) d).class) 0 1
open_ends-last [] d h = absurd (omega arith)
open_ends-last (u ∷ []) d h = refl
open_ends-last (u ∷ v ∷ us) d h =
    let e : suc (length us) - 1 ≡ length us = omega arith in
    let f : suc (suc (length us)) - 1 ≡ suc (length us) = omega arith in
    let at : ℕ → ℕ = λ n. cond (is_separator (get_or (v ∷ us) n d).class) 0 1 in
    let past : ℕ → ℕ = λ n. cond (is_separator (get_or (u ∷ v ∷ us) n d).class) 0 1 in
    open_ends-last (v ∷ us) d (omega arith) ∙ ap at e ∙ ap past (sym f)

pub paragraph_at : (us : List BidiUnit) (paragraphs p : ℕ) → paragraphs ≡ length (paragraphs_of us) → p < length us →
    count_by is_separator (take p (classes_of us)) < paragraphs
paragraph_at us paragraphs p same h = omega (arith, count-before us p h)

pub open_by : (closed : Bool) → bool_byte (not closed) ≡ cond closed 0 1
open_by true = refl
open_by false = refl
