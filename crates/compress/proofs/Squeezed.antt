-- The pass that leaves units out: the levels of all units are those of the ones chosen, each as often as it counts.
use Rattle.std.specs.Prelude.{ℕ, suc, ◌+◌, ◌<◌, Bool, true, false, ◌&&◌, ◌||◌, not, ◌≡◌, List, [], ◌∷◌, length, drop, if◌then◌else◌, refl}
use Rattle.std.proofs.Common.{arith, ap, sym, subst, ◌∙◌, ◌⊎◌, inl, inr}
use Rattle.std.proofs.lemmas.Bool.{cases_Bool, cond-true, cond-false}
use Rattle.std.proofs.lemmas.List.{length-map}
use Rattle.units.specs.Classes.{class_at, classes_of, is_nonspacing, is_strong}
use Rattle.units.specs.Layout.{resolved_levels}
use Rattle.units.specs.Limits.{LimitsOf}
use Rattle.units.specs.Runs.{SequenceView, direction_of}
use Rattle.units.specs.Weak.{by_w3, after_weak}
use Rattle.units.specs.declared.bracket.Bracket.{Bracket}
use Rattle.units.specs.declared.bracket.Bracket.TheVariants.{No, Open, Close}
use Rattle.units.specs.declared.bracket.Unit.{Unit as BidiUnit}
use Rattle.units.specs.declared.class.Class.{Class}
use Rattle.units.specs.declared.class.Class.TheVariants.{L, R, AL, EN, ES, ET, AN, CS, NSM, ON, WS, S}
use Rattle.units.proofs.Lengths.{length-after_weak, length-after_paired, length-after_neutral, length-classes_of}
use Rattle.explicit.specs.Flat.{IsFlat}
use Rattle.resolve.specs.declared.preceding.Preceding.{Preceding}
use Rattle.compress.specs.Laid.{LeadsOn}
use Rattle.compress.specs.Remaining.{remaining_units, by_remaining, at_level}
use Rattle.compress.specs.Spread.{put, spread, merged, ones, may_repeat, is_space, is_quiet, is_firm, is_still, is_apart, is_no_number}
use Rattle.compress.specs.Squeeze.{Stack, is_bare, repeats, is_directed, is_one_way, joins, is_between, comma_between, class_for, unit_for, known_after, popped, added, next_for, turned, first_unit, squeezed, units_onto, counts_onto}
use Rattle.resolve.specs.ThroughW3.{preceding_of, preceding_past}
use Rattle.compress.proofs.Bracketed.{unit_levels}
use Rattle.compress.proofs.ByUnits.{unit_at, class_of-unit, mark_lemma, repeat_lemma, neutral_lemma, directed_lemma, between_lemma, before_mark_lemma}
use Rattle.compress.proofs.Removed.{resolved_levels-remaining}
use Rattle.compress.proofs.Replacing.{known_past, separator_is_neutral, separator_ends, terminator_is_neutral, number_is_letter, separator_joins_en, separator_joins_an}
use Rattle.compress.proofs.Sound.{both_parts}
use Rattle.compress.proofs.Spreading.{Drops, spreads_start, spread_less}
use Rattle.compress.proofs.Swapping.{unit_swaps}

-- a stack of units before others
put-onto : (back : Stack) (j : ℕ) (d : BidiUnit) (us : List BidiUnit) → put (length back + j) d (units_onto back us) ≡ units_onto back (put j d us)
put-onto [] j d us = let e : 0 + j ≡ j = omega arith in ap (λ i. put i d us) e
put-onto (top ∷ back) j d us =
    let e : suc (length back) + j ≡ length back + suc j = omega arith in
    ap (λ i. put i d (units_onto back (top.0 ∷ us))) e ∙ put-onto back (suc j) d (top.0 ∷ us)

top_put : (back : Stack) (c d : BidiUnit) (tail : List BidiUnit) → put (length back) d (units_onto back (c ∷ tail)) ≡ units_onto back (c ∷ d ∷ tail)
top_put back c d tail =
    let e : length back ≡ length back + 0 = omega arith in
    ap (λ i. put i d (units_onto back (c ∷ tail))) e ∙ put-onto back 0 d (c ∷ tail)

merged-onto : (back : Stack) (j : ℕ) (ws : List ℕ) → merged (length back + j) (counts_onto back ws) ≡ counts_onto back (merged j ws)
merged-onto [] j ws = let e : 0 + j ≡ j = omega arith in ap (λ i. merged i ws) e
merged-onto (top ∷ back) j ws =
    let e : suc (length back) + j ≡ length back + suc j = omega arith in
    ap (λ i. merged i (counts_onto back (top.1 ∷ ws))) e ∙ merged-onto back (suc j) (top.1 ∷ ws)

top_merged : (back : Stack) (v w : ℕ) (ws : List ℕ) → merged (length back) (counts_onto back (v ∷ w ∷ ws)) ≡ counts_onto back ((v + w) ∷ ws)
top_merged back v w ws =
    let e : length back ≡ length back + 0 = omega arith in
    ap (λ i. merged i (counts_onto back (v ∷ w ∷ ws))) e ∙ merged-onto back 0 (v ∷ w ∷ ws)

at-onto : (back : Stack) (j : ℕ) (us : List BidiUnit) → unit_at (units_onto back us) (length back + j) ≡ unit_at us j
at-onto [] j us = let e : 0 + j ≡ j = omega arith in ap (unit_at us) e
at-onto (top ∷ back) j us =
    let e : suc (length back) + j ≡ length back + suc j = omega arith in
    ap (unit_at (units_onto back (top.0 ∷ us))) e ∙ at-onto back (suc j) (top.0 ∷ us)

length-onto : (back : Stack) (us : List BidiUnit) → length (units_onto back us) ≡ length back + length us
length-onto [] us = omega arith
length-onto (top ∷ back) us = omega (arith, length-onto back (top.0 ∷ us))

known-onto : (sos : Class) (back : Stack) (j : ℕ) (us : List BidiUnit) →
    known_past (preceding_of sos) (length back + j) (classes_of (units_onto back us)) ≡ known_past (known_after sos back) j (classes_of us)
known-onto sos [] j us = let e : 0 + j ≡ j = omega arith in ap (λ i. known_past (preceding_of sos) i (classes_of us)) e
known-onto sos (top ∷ back) j us =
    let e : suc (length back) + j ≡ length back + suc j = omega arith in
    ap (λ i. known_past (preceding_of sos) i (classes_of (units_onto back (top.0 ∷ us)))) e ∙ known-onto sos back (suc j) (top.0 ∷ us)

-- the one on top, and the next
top_at : (back : Stack) (c : BidiUnit) (tail : List BidiUnit) → unit_at (units_onto back (c ∷ tail)) (length back) ≡ c
top_at back c tail = let e : length back ≡ length back + 0 = omega arith in ap (unit_at (units_onto back (c ∷ tail))) e ∙ at-onto back 0 (c ∷ tail)

first_is : (us : List BidiUnit) → unit_at us 0 ≡ first_unit us
first_is [] = refl
first_is (u ∷ us) = refl

next_at : (back : Stack) (c : BidiUnit) (tail : List BidiUnit) → unit_at (units_onto back (c ∷ tail)) (suc (length back)) ≡ first_unit tail
next_at back c tail =
    let e : suc (length back) ≡ length back + 1 = omega arith in
    ap (unit_at (units_onto back (c ∷ tail))) e ∙ at-onto back 1 (c ∷ tail) ∙ first_is tail

top_known : (sos : Class) (back : Stack) (c : BidiUnit) (tail : List BidiUnit) → known_past (preceding_of sos) (length back) (classes_of (units_onto back (c ∷ tail))) ≡ preceding_past (known_after sos back) c.class
top_known sos back c tail =
    let e : length back ≡ length back + 0 = omega arith in
    ap (λ i. known_past (preceding_of sos) i (classes_of (units_onto back (c ∷ tail)))) e ∙ known-onto sos back 0 (c ∷ tail)

-- what the tests say
pub or_parts : (a b : Bool) → (a || b) ≡ true → (a ≡ true) ⊎ (b ≡ true)
or_parts true b h = inl refl
or_parts false b h = inr h

not_true : (b : Bool) → not b ≡ true → b ≡ false
not_true true h = cc
not_true false h = refl

pub mark_is : (c : Class) → is_nonspacing c ≡ true → c ≡ NSM
mark_is NSM h = refl
mark_is c h = cc

bare_is : (b : Bracket) → is_bare b ≡ true → b ≡ No
bare_is No h = refl
bare_is (Open a) h = cc
bare_is (Close a) h = cc

pub repeats_is : (a b : Class) → repeats a b ≡ true → (b ≡ a) × (may_repeat b ≡ true)
repeats_is L L h = (refl, refl)
repeats_is R R h = (refl, refl)
repeats_is AL AL h = (refl, refl)
repeats_is EN EN h = (refl, refl)
repeats_is AN AN h = (refl, refl)
repeats_is ET ET h = (refl, refl)
repeats_is a b h = cc

is_directed_is : (d c : Class) → is_directed d c ≡ true → (is_strong c ≡ true) × (by_w3 c ≡ d)
is_directed_is L L h = (refl, refl)
is_directed_is R R h = (refl, refl)
is_directed_is R AL h = (refl, refl)
is_directed_is d c h = cc

space_may : (c : Class) → is_space c ≡ true → may_repeat c ≡ true
space_may S h = refl
space_may WS h = refl
space_may ON h = refl
space_may c h = cc

directed_may : (d c : Class) → is_directed d c ≡ true → may_repeat c ≡ true
directed_may L L h = refl
directed_may R R h = refl
directed_may R AL h = refl
directed_may d c h = cc

record OneWay (a b : Class) : Type 0 where
  first : is_strong a ≡ true
  second : is_strong b ≡ true
  same : by_w3 a ≡ by_w3 b
  base : is_nonspacing b ≡ false

one_way_is : (a b : Class) → is_one_way a b ≡ true → OneWay a b
one_way_is L L h = record { first = refl; second = refl; same = refl; base = refl }
one_way_is R R h = record { first = refl; second = refl; same = refl; base = refl }
one_way_is R AL h = record { first = refl; second = refl; same = refl; base = refl }
one_way_is AL R h = record { first = refl; second = refl; same = refl; base = refl }
one_way_is AL AL h = record { first = refl; second = refl; same = refl; base = refl }
one_way_is a b h = cc

-- what replaces a class is as good as it in W1 to W7
module _ (sos : Class) (k : ℕ) (cs : List Class) where
  abbrev W : Class → List Class
  W x = after_weak sos (put k x cs)

  abbrev strong : Class
  strong = (known_past (preceding_of sos) k cs).strong

  abbrev ends : Class → Class → Bool
  ends c n = is_quiet c || (is_firm c && is_no_number n)

  separator_replaced : (d : Class) → (d ≡ CS) ⊎ (d ≡ ES) → ends (class_at cs k) (class_at cs (suc k)) ≡ true → W d ≡ W ON
  separator_replaced d which h =
      let c : Class = class_at cs k in
      let n : Class = class_at cs (suc k) in
      elim which [
        | inl e ↦ ap (λ (x : Class). after_weak sos (put k x cs)) e ∙ (elim (or_parts (is_quiet c) (is_firm c && is_no_number n) h) [
          | inl a ↦ separator_is_neutral sos k CS cs refl a
          | inr a ↦ (let p = both_parts (is_firm c) (is_no_number n) a in separator_ends sos k CS cs refl p.0 p.1)
        ])
        | inr e ↦ ap (λ (x : Class). after_weak sos (put k x cs)) e ∙ (elim (or_parts (is_quiet c) (is_firm c && is_no_number n) h) [
          | inl a ↦ separator_is_neutral sos k ES cs refl a
          | inr a ↦ (let p = both_parts (is_firm c) (is_no_number n) a in separator_ends sos k ES cs refl p.0 p.1)
        ])
      ]

  comma_replaced : (c n : Class) → class_at cs k ≡ c → class_at cs (suc k) ≡ n → W CS ≡ W (comma_between c n)
  comma_replaced EN EN e f = separator_joins_en sos k cs (record { here = e; next = f })
  comma_replaced AN AN e f = separator_joins_an sos k cs (record { here = e; next = f })
  comma_replaced c n e f = refl

  comma_base : (c n : Class) → is_nonspacing (comma_between c n) ≡ false
  comma_base EN EN = refl
  comma_base AN AN = refl
  comma_base c n = refl

  is_directed_l : (s : Class) → is_directed L s ≡ true → s ≡ L
  is_directed_l L h = refl
  is_directed_l s h = cc

  same_class : (u : Class) → W u ≡ W (class_for strong (class_at cs k) u (class_at cs (suc k)))
  same_class CS =
      let c : Class = class_at cs k in
      let n : Class = class_at cs (suc k) in
      elim (cases_Bool (ends c n)) [
        | inl t ↦ separator_replaced CS (inl refl) t ∙ sym (ap (λ (x : Class). after_weak sos (put k x cs)) (cond-true (ends c n) ON (comma_between c n) t))
        | inr f ↦ comma_replaced c n refl refl ∙ sym (ap (λ (x : Class). after_weak sos (put k x cs)) (cond-false (ends c n) ON (comma_between c n) f))
      ]
  same_class ES =
      let c : Class = class_at cs k in
      let n : Class = class_at cs (suc k) in
      elim (cases_Bool (ends c n)) [
        | inl t ↦ separator_replaced ES (inr refl) t ∙ sym (ap (λ (x : Class). after_weak sos (put k x cs)) (cond-true (ends c n) ON ES t))
        | inr f ↦ sym (ap (λ (x : Class). after_weak sos (put k x cs)) (cond-false (ends c n) ON ES f))
      ]
  same_class ET =
      let c : Class = class_at cs k in
      let n : Class = class_at cs (suc k) in
      elim (cases_Bool (is_quiet c && is_still n)) [
        | inl t ↦ (let p = both_parts (is_quiet c) (is_still n) t in terminator_is_neutral sos k cs p.0 p.1) ∙ sym (ap (λ (x : Class). after_weak sos (put k x cs)) (cond-true (is_quiet c && is_still n) ON ET t))
        | inr f ↦ sym (ap (λ (x : Class). after_weak sos (put k x cs)) (cond-false (is_quiet c && is_still n) ON ET f))
      ]
  same_class EN =
      let c : Class = class_at cs k in
      let n : Class = class_at cs (suc k) in
      let test : Bool = (is_quiet c && is_directed L strong) && is_apart n in
      elim (cases_Bool ((is_quiet c && is_directed L strong) && is_apart n)) [
        | inl t ↦ (let p = both_parts (is_quiet c && is_directed L strong) (is_apart n) t in
            let q = both_parts (is_quiet c) (is_directed L strong) p.0 in
            number_is_letter sos k cs q.0 (is_directed_l strong q.1) p.1) ∙ sym (ap (λ (x : Class). after_weak sos (put k x cs)) (cond-true ((is_quiet c && is_directed L strong) && is_apart n) L EN t))
        | inr f ↦ sym (ap (λ (x : Class). after_weak sos (put k x cs)) (cond-false ((is_quiet c && is_directed L strong) && is_apart n) L EN f))
      ]
  same_class u = refl

base_if : (b : Bool) (c d : Class) → is_nonspacing c ≡ false → is_nonspacing d ≡ false → is_nonspacing (if b then c else d) ≡ false
base_if true c d h g = h
base_if false c d h g = g

class_for-mark : (s c u n : Class) → is_nonspacing u ≡ is_nonspacing (class_for s c u n)
class_for-mark s c CS n = sym (base_if (is_quiet c || (is_firm c && is_no_number n)) ON (comma_between c n) refl (comma c n)) where
  comma : (c n : Class) → is_nonspacing (comma_between c n) ≡ false
  comma EN EN = refl
  comma AN AN = refl
  comma c n = refl
class_for-mark s c ES n = sym (base_if (is_quiet c || (is_firm c && is_no_number n)) ON ES refl refl)
class_for-mark s c ET n = sym (base_if (is_quiet c && is_still n) ON ET refl refl)
class_for-mark s c EN n = sym (base_if ((is_quiet c && is_directed L s) && is_apart n) L EN refl refl)
class_for-mark s c u n = refl

pub length-unit_levels : (most : ℕ) (s : SequenceView) (us : List BidiUnit) → length (unit_levels most s us) ≡ length us
length-unit_levels most s us = grind (arith, length-map, length-after_neutral, length-after_paired, length-after_weak, length-classes_of)

-- the levels of the ones chosen and of the ones that are tail, each as often as it counts
abbrev pub levels_by : ℕ → SequenceView → Stack → List BidiUnit → List ℕ
levels_by most s stack tail = spread (counts_onto stack (ones tail)) (unit_levels most s (units_onto stack tail))

-- so far: these levels are those
abbrev pub Squeezing : ℕ → SequenceView → List ℕ → Stack → List BidiUnit → Type 0
Squeezing most s all stack tail = all ≡ levels_by most s stack tail

module _ (most : ℕ) (s : SequenceView) (all : List ℕ) where
  abbrev F : List BidiUnit → List ℕ
  F = unit_levels most s

  abbrev direction : Class
  direction = direction_of s.level

  within : (back : Stack) (c : BidiUnit) (tail : List BidiUnit) → length back < length (units_onto back (c ∷ tail))
  within back c tail = omega (arith, length-onto back (c ∷ tail))

  -- a neutral that joins a neutral or a letter of the embedding direction, whatever marks follow
  space_joins : (back : Stack) (c u : BidiUnit) (tail : List BidiUnit) → u.bracket ≡ No → c.bracket ≡ No → is_space u.class ≡ true →
      (is_space c.class ≡ true) ⊎ (is_directed direction c.class ≡ true) → Drops (unit_levels most s) (length back) u (units_onto back (c ∷ tail))
  space_joins back c u tail u_bare c_bare space which =
      elim (cases_Bool (is_nonspacing (first_unit tail).class)) [
        | inl t ↦ after_mark tail t
        | inr f ↦ at_once tail f
      ] where
        at_once : (tail : List BidiUnit) → is_nonspacing (first_unit tail).class ≡ false → Drops (unit_levels most s) (length back) u (units_onto back (c ∷ tail))
        at_once tail f =
            let us : List BidiUnit = units_onto back (c ∷ tail) in
            let k : ℕ = length back in
            let here : unit_at (units_onto back (c ∷ tail)) (length back) ≡ c = top_at back c tail in
            let next : unit_at (units_onto back (c ∷ tail)) (suc (length back)) ≡ first_unit tail = next_at back c tail in
            let bare : (unit_at (units_onto back (c ∷ tail)) (length back)).bracket ≡ No = ap (λ (w : BidiUnit). w.bracket) here ∙ c_bare in
            let no_mark : is_nonspacing (unit_at (units_onto back (c ∷ tail)) (suc (length back))).class ≡ false = ap (λ (w : BidiUnit). is_nonspacing w.class) next ∙ f in
            elim which [
              | inl b ↦ neutral_lemma most s us k (within back c tail) u u_bare bare space no_mark (ap (λ (w : BidiUnit). is_space w.class) here ∙ b)
              | inr b ↦ (let l = is_directed_is direction c.class b in
                  directed_lemma most s us k (within back c tail) u u_bare bare space no_mark (ap (λ (w : BidiUnit). is_strong w.class) here ∙ l.0) (ap (λ (w : BidiUnit). by_w3 w.class) here ∙ l.1))
            ]

        repeats_may : may_repeat c.class ≡ true
        repeats_may = elim which [
          | inl b ↦ space_may c.class b
          | inr b ↦ directed_may direction c.class b
        ]

        after_mark : (tail : List BidiUnit) → is_nonspacing (first_unit tail).class ≡ true → Drops (unit_levels most s) (length back) u (units_onto back (c ∷ tail))
        after_mark [] t = cc
        after_mark (m ∷ tail) t =
            let us : List BidiUnit = units_onto back (c ∷ tail) in
            let here : unit_at (units_onto back (c ∷ tail)) (length back) ≡ c = top_at back c tail in
            let rest : Drops (unit_levels most s) (length back) u (units_onto back (c ∷ tail)) = elim (cases_Bool (is_nonspacing (first_unit tail).class)) [
              | inl g ↦ after_mark tail g
              | inr f ↦ at_once tail f
            ] in
            subst (λ us. Drops (unit_levels most s) (length back) u us) (top_put back c m tail)
            (before_mark_lemma most s us (length back) (within back c tail) u m (mark_is m.class t) (space_may u.class space) (ap (λ (w : BidiUnit). may_repeat w.class) here ∙ repeats_may) rest)

  -- one that joins the one before it
  joins_drops : (back : Stack) (c u : BidiUnit) (tail : List BidiUnit) → joins direction c u ≡ true → Drops (unit_levels most s) (length back) u (units_onto back (c ∷ tail))
  joins_drops back c u tail h =
      let us : List BidiUnit = units_onto back (c ∷ tail) in
      let k : ℕ = length back in
      let here : unit_at (units_onto back (c ∷ tail)) (length back) ≡ c = top_at back c tail in
      elim (or_parts (is_nonspacing u.class && may_repeat c.class) ((is_bare u.bracket && is_bare c.bracket) && (repeats c.class u.class || (is_space u.class && (is_space c.class || is_directed direction c.class)))) h) [
        | inl m ↦ (let p = both_parts (is_nonspacing u.class) (may_repeat c.class) m in
            mark_lemma most s us k (within back c tail) u (mark_is u.class p.0) (ap (λ (w : BidiUnit). may_repeat w.class) here ∙ p.1))
        | inr m ↦ (let p = both_parts (is_bare u.bracket && is_bare c.bracket) (repeats c.class u.class || (is_space u.class && (is_space c.class || is_directed direction c.class))) m in
            let q = both_parts (is_bare u.bracket) (is_bare c.bracket) p.0 in
            let u_bare : u.bracket ≡ No = bare_is u.bracket q.0 in
            let c_bare : c.bracket ≡ No = bare_is c.bracket q.1 in
            elim (or_parts (repeats c.class u.class) (is_space u.class && (is_space c.class || is_directed direction c.class)) p.1) [
              | inl r ↦ (let is = repeats_is c.class u.class r in
                  repeat_lemma most s us k (within back c tail) u u_bare (ap (λ (w : BidiUnit). w.bracket) here ∙ c_bare) (is.0 ∙ ap (λ (w : BidiUnit). w.class) (sym here)) is.1)
              | inr r ↦ (let t = both_parts (is_space u.class) (is_space c.class || is_directed direction c.class) r in
                  space_joins back c u tail u_bare c_bare t.0 (or_parts (is_space c.class) (is_directed direction c.class) t.1))
            ])
      ]

  -- one between two letters of one direction
  between_drops : (back : Stack) (c d u : BidiUnit) (tail : List BidiUnit) → is_between c d u ≡ true → Drops (unit_levels most s) (length back) d (units_onto back (c ∷ u ∷ tail))
  between_drops back c d u tail h =
      let us : List BidiUnit = units_onto back (c ∷ u ∷ tail) in
      let k : ℕ = length back in
      let here : unit_at (units_onto back (c ∷ u ∷ tail)) (length back) ≡ c = top_at back c (u ∷ tail) in
      let next : unit_at (units_onto back (c ∷ u ∷ tail)) (suc (length back)) ≡ u = next_at back c (u ∷ tail) in
      let p = both_parts (is_bare d.bracket && is_bare c.bracket) (is_space d.class && is_one_way c.class u.class) h in
      let q = both_parts (is_bare d.bracket) (is_bare c.bracket) p.0 in
      let t = both_parts (is_space d.class) (is_one_way c.class u.class) p.1 in
      let w : OneWay c.class u.class = one_way_is c.class u.class t.1 in
      between_lemma most s us k (within back c (u ∷ tail)) d (bare_is d.bracket q.0) (ap (λ (v : BidiUnit). v.bracket) here ∙ bare_is c.bracket q.1) t.0
      (ap (λ (v : BidiUnit). is_nonspacing v.class) next ∙ w.base) (ap (λ (v : BidiUnit). is_strong v.class) here ∙ w.first) (omega (arith, length-onto back (c ∷ u ∷ tail)))
      (ap (λ (v : BidiUnit). is_strong v.class) next ∙ w.second) (ap (λ (v : BidiUnit). by_w3 v.class) here ∙ w.same ∙ ap (λ (v : BidiUnit). by_w3 v.class) (sym next))

  -- one that replaces another
  same_next : (back : Stack) (c u : BidiUnit) (tail : List BidiUnit) →
      unit_levels most s (units_onto back (c ∷ u ∷ tail)) ≡ unit_levels most s (units_onto back (c ∷ unit_for (preceding_past (known_after s.sos back) c.class).strong c u (first_unit tail).class ∷ tail))
  same_next back c u tail =
      let us : List BidiUnit = units_onto back (c ∷ tail) in
      let k : ℕ = length back in
      let strong_c : Class = (preceding_past (known_after s.sos back) c.class).strong in
      let n : Class = (first_unit tail).class in
      let here : class_at (classes_of (units_onto back (c ∷ tail))) (length back) ≡ c.class = class_of-unit us k ∙ ap (λ (w : BidiUnit). w.class) (top_at back c tail) in
      let next : class_at (classes_of (units_onto back (c ∷ tail))) (suc (length back)) ≡ n = class_of-unit us (suc k) ∙ ap (λ (w : BidiUnit). w.class) (next_at back c tail) in
      let known : (known_past (preceding_of s.sos) (length back) (classes_of (units_onto back (c ∷ tail)))).strong ≡ strong_c = ap (λ (p : Preceding). p.strong) (top_known s.sos back c tail) in
      let v : BidiUnit = record { class = class_for strong_c c.class u.class n; bracket = u.bracket } in
      let weak : after_weak s.sos (put (length back) u.class (classes_of (units_onto back (c ∷ tail)))) ≡ after_weak s.sos (put (length back) (class_for strong_c c.class u.class n) (classes_of (units_onto back (c ∷ tail)))) =
      same_class s.sos k (classes_of us) u.class
      ∙ ap (λ (x : Class). after_weak s.sos (put k (class_for x (class_at (classes_of us) k) u.class (class_at (classes_of us) (suc k))) (classes_of us))) known
      ∙ ap (λ (x : Class). after_weak s.sos (put k (class_for strong_c x u.class (class_at (classes_of us) (suc k))) (classes_of us))) here
      ∙ ap (λ (x : Class). after_weak s.sos (put k (class_for strong_c c.class u.class x) (classes_of us))) next in
      elim (cases_Bool (is_bare u.bracket)) [
        | inl t ↦
            (let bare : u.bracket ≡ No = bare_is u.bracket t in
            ap (unit_levels most s) (sym (top_put back c u tail))
            ∙ unit_swaps most s us k u v bare bare (class_for-mark strong_c c.class u.class n) weak
            ∙ ap (unit_levels most s) (top_put back c v tail)
            ∙ sym (ap (λ (x : BidiUnit). unit_levels most s (units_onto back (c ∷ x ∷ tail))) (cond-true (is_bare u.bracket) v u t)))
        | inr f ↦ sym (ap (λ (x : BidiUnit). unit_levels most s (units_onto back (c ∷ x ∷ tail))) (cond-false (is_bare u.bracket) v u f))
      ]

  squeezing_replaced : (stack : Stack) (u : BidiUnit) (tail : List BidiUnit) → Squeezing most s all stack (u ∷ tail) → Squeezing most s all stack (next_for s.sos stack u (first_unit tail).class ∷ tail)
  squeezing_replaced [] u tail q = q
  squeezing_replaced (c ∷ back) u tail q = q ∙ ap (spread (counts_onto (c ∷ back) (ones (u ∷ tail)))) (same_next back c.0 u tail)

  -- one less
  squeezing_less : (back : Stack) (c d : BidiUnit) (v w : ℕ) (tail : List BidiUnit) →
      all ≡ spread (counts_onto back (v ∷ w ∷ ones tail)) (unit_levels most s (units_onto back (c ∷ d ∷ tail))) →
      Drops (unit_levels most s) (length back) d (units_onto back (c ∷ tail)) → Squeezing most s all ((c, v + w) ∷ back) tail
  squeezing_less back c d v w tail q drops =
      spread_less (unit_levels most s) all (units_onto back (c ∷ tail)) (counts_onto back (v ∷ w ∷ ones tail)) (length back) d
      (q ∙ ap (λ us. spread (counts_onto back (v ∷ w ∷ ones tail)) (unit_levels most s us)) (sym (top_put back c d tail))) drops
      ∙ ap (λ ws. spread ws (unit_levels most s (units_onto back (c ∷ tail)))) (top_merged back v w (ones tail))

  squeezing_pops : (stack : Stack) (u : BidiUnit) (tail : List BidiUnit) → Squeezing most s all stack (u ∷ tail) → Squeezing most s all (popped stack u) (u ∷ tail)
  squeezing_pops [] u tail q = q
  squeezing_pops (d ∷ []) u tail q = q
  squeezing_pops (d ∷ c ∷ back) u tail q =
      elim (cases_Bool (is_between c.0 d.0 u)) [
        | inl t ↦ subst (λ (st : Stack). Squeezing most s all st (u ∷ tail)) (sym (cond-true (is_between c.0 d.0 u) ((c.0, c.1 + d.1) ∷ back) (d ∷ c ∷ back) t))
            (squeezing_less back c.0 d.0 c.1 d.1 (u ∷ tail) q (between_drops back c.0 d.0 u tail t))
        | inr f ↦ subst (λ (st : Stack). Squeezing most s all st (u ∷ tail)) (sym (cond-false (is_between c.0 d.0 u) ((c.0, c.1 + d.1) ∷ back) (d ∷ c ∷ back) f)) q
      ]

  squeezing_adds : (stack : Stack) (u : BidiUnit) (tail : List BidiUnit) → Squeezing most s all stack (u ∷ tail) → Squeezing most s all (added direction stack u) tail
  squeezing_adds [] u tail q = q
  squeezing_adds (c ∷ back) u tail q =
      elim (cases_Bool (joins direction c.0 u)) [
        | inl t ↦ subst (λ (st : Stack). Squeezing most s all st tail) (sym (cond-true (joins direction c.0 u) ((c.0, c.1 + 1) ∷ back) ((u, 1) ∷ c ∷ back) t))
            (squeezing_less back c.0 u c.1 1 tail q (joins_drops back c.0 u tail t))
        | inr f ↦ subst (λ (st : Stack). Squeezing most s all st tail) (sym (cond-false (joins direction c.0 u) ((c.0, c.1 + 1) ∷ back) ((u, 1) ∷ c ∷ back) f)) q
      ]

  -- one turn, and all
  squeezing_turns : (stack : Stack) (u : BidiUnit) (tail : List BidiUnit) → Squeezing most s all stack (u ∷ tail) → Squeezing most s all (turned direction s.sos stack u (first_unit tail).class) tail
  squeezing_turns stack u tail q =
      let v : BidiUnit = next_for s.sos stack u (first_unit tail).class in
      squeezing_adds (popped stack v) v tail (squeezing_pops stack v tail (squeezing_replaced stack u tail q))

  squeezing_ends : (stack : Stack) (tail : List BidiUnit) → Squeezing most s all stack tail → Squeezing most s all (squeezed direction s.sos stack tail) []
  squeezing_ends stack [] q = q
  squeezing_ends stack (u ∷ tail) q = squeezing_ends (turned direction s.sos stack u (first_unit tail).class) tail (squeezing_turns stack u tail q)

pub squeezed_levels : (most : ℕ) (s : SequenceView) (all : List BidiUnit) → unit_levels most s all ≡ levels_by most s (squeezed (direction_of s.level) s.sos [] all) []
squeezed_levels most s all =
    squeezing_ends most s (unit_levels most s all) [] all (spreads_start (unit_levels most s) all (length-unit_levels most s all))

-- units after a stack that lead to the stack of all: all have the levels of the ones chosen and of these
pub leading_levels : (most : ℕ) (s : SequenceView) (all : List BidiUnit) (stack : Stack) (tail : List BidiUnit) →
    squeezed (direction_of s.level) s.sos stack tail ≡ squeezed (direction_of s.level) s.sos [] all → unit_levels most s all ≡ levels_by most s stack tail
leading_levels most s all stack tail leads =
    squeezed_levels most s all ∙ ap (λ (st : Stack). levels_by most s st []) (sym leads)
    ∙ sym (squeezing_ends most s (levels_by most s stack tail) stack tail refl)

-- a flat paragraph
pub squeezed_paragraph : (limits : LimitsOf) (us : List BidiUnit) (para : ℕ) → IsFlat (classes_of us) →
    resolved_levels limits us para
    ≡ by_remaining us (spread (counts_onto (squeezed (direction_of para) (direction_of para) [] (remaining_units us)) [])
    (unit_levels limits.brackets (at_level para) (units_onto (squeezed (direction_of para) (direction_of para) [] (remaining_units us)) [])))
squeezed_paragraph limits us para flat =
    resolved_levels-remaining limits us para flat ∙ ap (by_remaining us) (squeezed_levels limits.brackets (at_level para) (remaining_units us))

-- the same, by what was chosen before a position and by all units that remain from it on
pub leading_paragraph : (limits : LimitsOf) (us : List BidiUnit) (para : ℕ) (stack : Stack) (end : ℕ) → IsFlat (classes_of us) →
    LeadsOn (direction_of para) us stack end →
    resolved_levels limits us para ≡ by_remaining us (levels_by limits.brackets (at_level para) stack (remaining_units (drop end us)))
leading_paragraph limits us para stack end flat leads =
    resolved_levels-remaining limits us para flat
    ∙ ap (by_remaining us) (leading_levels limits.brackets (at_level para) (remaining_units us) stack (remaining_units (drop end us)) leads)
