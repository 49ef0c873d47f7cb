-- The last strong class after a stack, as one turn changes it.
use Rattle.std.specs.Prelude.{ℕ, ◌+◌, Bool, true, false, ◌&&◌, ◌||◌, ◌≡◌, List, [], ◌∷◌, if◌then◌else◌, refl}
use Rattle.std.proofs.Common.{ap, sym, ◌∙◌, inl, inr, drop, ◌<◌, length}
use Rattle.std.specs.Prelude.{slice_index_or}
use Rattle.std.proofs.lemmas.List.{drop_more}
use Rattle.units.specs.Layout.{no_unit}
use Rattle.std.proofs.lemmas.Bool.{cases_Bool, cond-true, cond-false}
use Rattle.units.specs.Classes.{is_nonspacing, is_strong}
use Rattle.units.specs.declared.bracket.Unit.{Unit as BidiUnit}
use Rattle.units.specs.declared.class.Class.{Class}
use Rattle.units.specs.declared.class.Class.TheVariants.{L, R, AL, EN, ES, ET, AN, CS, NSM, ON, WS, S}
use Rattle.resolve.specs.declared.preceding.Preceding.{Preceding}
use Rattle.compress.specs.Spread.{is_space, is_quiet, is_firm, is_still, is_apart, is_no_number, may_repeat}
use Rattle.compress.specs.Squeeze.{Stack, is_bare, repeats, is_directed, joins, is_between, comma_between, class_for, known_after, popped, added, next_for, first_unit, squeezed}
use Rattle.resolve.specs.ThroughW3.{preceding_past}
use Rattle.compress.proofs.Sound.{both_parts}

-- a strong base is the last strong class
abbrev Sees : Preceding → Type 0
Sees f = is_strong f.base ≡ true → f.base ≡ f.strong

-- what a mark takes of it
mark_sees : (b s : Class) → (is_strong b ≡ true → b ≡ s) → (preceding_past (record { base = b; strong = s }) NSM).strong ≡ s
mark_sees L s h = h refl
mark_sees R s h = h refl
mark_sees AL s h = h refl
mark_sees b s h = refl

past_sees : (f : Preceding) (c : Class) → Sees f → Sees (preceding_past f c)
past_sees f NSM h = λ t. h t ∙ sym (mark_sees f.base f.strong h)
past_sees f L h = λ t. refl
past_sees f R h = λ t. refl
past_sees f AL h = λ t. refl
past_sees f c h = λ t. cc

past_strong : (f : Preceding) (c : Class) → Sees f → (preceding_past f c).strong ≡ (if is_strong c then c else f.strong)
past_strong f NSM h = mark_sees f.base f.strong h
past_strong f c h = refl

after_sees : (sos : Class) (stack : Stack) → Sees (known_after sos stack)
after_sees sos [] = λ t. refl
after_sees sos (top ∷ back) = past_sees (known_after sos back) top.0.class (after_sees sos back)

abbrev pub strong_after : Class → Stack → Class
strong_after sos stack = (known_after sos stack).strong

pub strong_next : (sos : Class) (top : BidiUnit × ℕ) (back : Stack) → strong_after sos (top ∷ back) ≡ (if is_strong top.0.class then top.0.class else strong_after sos back)
strong_next sos top back = past_strong (known_after sos back) top.0.class (after_sees sos back)

pub space_weak : (c : Class) → is_space c ≡ true → is_strong c ≡ false
space_weak S h = refl
space_weak WS h = refl
space_weak ON h = refl
space_weak c h = cc

popped_strong : (sos : Class) (stack : Stack) (u : BidiUnit) → strong_after sos (popped stack u) ≡ strong_after sos stack
popped_strong sos [] u = refl
popped_strong sos (d ∷ []) u = refl
popped_strong sos (d ∷ c ∷ back) u =
    let less : Stack = (c.0, c.1 + d.1) ∷ back in
    let all : Stack = d ∷ c ∷ back in
    elim (cases_Bool (is_between c.0 d.0 u)) [
      | inl t ↦
          (let p = both_parts (is_bare d.0.bracket && is_bare c.0.bracket) _ t in
          let q = both_parts (is_space d.0.class) _ p.1 in
          ap (strong_after sos) (cond-true (is_between c.0 d.0 u) less all t)
          ∙ sym (strong_next sos d (c ∷ back) ∙ cond-false (is_strong d.0.class) d.0.class (strong_after sos (c ∷ back)) (space_weak d.0.class q.0)))
      | inr f ↦ ap (strong_after sos) (cond-false (is_between c.0 d.0 u) less all f)
    ]

-- what joins is weak, or the class that is there
joined_strong : (direction c u s : Class) (a b : Bool) → ((is_nonspacing u && a) || (b && (repeats c u || (is_space u && (is_space c || is_directed direction c))))) ≡ true →
    (if is_strong c then c else s) ≡ (if is_strong u then u else (if is_strong c then c else s))
joined_strong direction L L s a b h = refl
joined_strong direction R R s a b h = refl
joined_strong direction AL AL s a b h = refl
joined_strong direction c L s a true h = cc
joined_strong direction c R s a true h = cc
joined_strong direction c AL s a true h = cc
joined_strong direction c L s a false h = cc
joined_strong direction c R s a false h = cc
joined_strong direction c AL s a false h = cc
joined_strong direction c u s a b h = refl

pub turned_strong : (direction sos : Class) (stack : Stack) (u : BidiUnit) → strong_after sos (added direction (popped stack u) u) ≡ (if is_strong u.class then u.class else strong_after sos stack)
turned_strong direction sos stack u = adds (popped stack u) ∙ ap (λ (s : Class). if is_strong u.class then u.class else s) (popped_strong sos stack u) where
  adds : (stack : Stack) → strong_after sos (added direction stack u) ≡ (if is_strong u.class then u.class else strong_after sos stack)
  adds [] = strong_next sos (u, 1) []
  adds (c ∷ back) =
      let less : Stack = (c.0, c.1 + 1) ∷ back in
      let all : Stack = (u, 1) ∷ c ∷ back in
      elim (cases_Bool (joins direction c.0 u)) [
        | inl t ↦
            ap (strong_after sos) (cond-true (joins direction c.0 u) less all t) ∙ strong_next sos c back
            ∙ joined_strong direction c.0.class u.class (strong_after sos back) (may_repeat c.0.class) (is_bare u.bracket && is_bare c.0.bracket) t
            ∙ ap (λ (s : Class). if is_strong u.class then u.class else s) (sym (strong_next sos c back))
        | inr f ↦ ap (strong_after sos) (cond-false (joins direction c.0 u) less all f) ∙ strong_next sos (u, 1) (c ∷ back)
      ]

-- what replaces a class leaves the last strong one as the class itself does
comma_weak : (c n s : Class) (b : Bool) → (if is_strong (if b then ON else comma_between c n) then (if b then ON else comma_between c n) else s) ≡ s
comma_weak c n s true = refl
comma_weak EN EN s false = refl
comma_weak AN AN s false = refl
comma_weak c n s false = refl

sign_weak : (s u : Class) (b : Bool) → is_strong u ≡ false → (if is_strong (if b then ON else u) then (if b then ON else u) else s) ≡ s
sign_weak s u true h = refl
sign_weak s u false h = cond-false (is_strong u) u s h

number_alike : (s : Class) (b : Bool) → (b ≡ true → is_directed L s ≡ true) → (if is_strong (if b then L else EN) then (if b then L else EN) else s) ≡ s
number_alike s false h = refl
number_alike L true h = refl
number_alike s true h = let e = h refl in cc

replaced_alike : (s c u n : Class) → (if is_strong (class_for s c u n) then class_for s c u n else s) ≡ (if is_strong u then u else s)
replaced_alike s c CS n = comma_weak c n s (is_quiet c || (is_firm c && is_no_number n))
replaced_alike s c ES n = sign_weak s ES (is_quiet c || (is_firm c && is_no_number n)) refl
replaced_alike s c ET n = sign_weak s ET (is_quiet c && is_still n) refl
replaced_alike s c EN n =
    number_alike s ((is_quiet c && is_directed L s) && is_apart n) (λ h. (both_parts (is_quiet c) _ (both_parts (is_quiet c && is_directed L s) _ h).0).1)
replaced_alike s c u n = refl

pub next_alike : (sos : Class) (stack : Stack) (u : BidiUnit) (n s : Class) → s ≡ strong_after sos stack →
    (if is_strong (next_for sos stack u n).class then (next_for sos stack u n).class else s) ≡ (if is_strong u.class then u.class else s)
next_alike sos [] u n s e = refl
next_alike sos (c ∷ back) u n s e =
    let now : Class = strong_after sos (c ∷ back) in
    let v : BidiUnit = record { class = class_for now c.0.class u.class n; bracket = u.bracket } in
    let alike : (if is_strong v.class then v.class else s) ≡ (if is_strong u.class then u.class else s) =
    ap (λ (t : Class). if is_strong (class_for t c.0.class u.class n) then class_for t c.0.class u.class n else s) (sym e) ∙ replaced_alike s c.0.class u.class n in
    elim (cases_Bool (is_bare u.bracket)) [
      | inl t ↦ ap (λ (w : BidiUnit). if is_strong w.class then w.class else s) (cond-true (is_bare u.bracket) v u t) ∙ alike
      | inr f ↦ ap (λ (w : BidiUnit). if is_strong w.class then w.class else s) (cond-false (is_bare u.bracket) v u f)
    ]

-- one turn of the pass over a list, by index
pub one_turn : (direction : Class) (units : List BidiUnit) (i : ℕ) (stack next : Stack) (v : BidiUnit) → i < length units →
    squeezed direction direction stack (drop i units) ≡ squeezed direction direction [] units →
    v ≡ next_for direction stack (slice_index_or units i no_unit) (first_unit (drop (i + 1) units)).class →
    next ≡ added direction (popped stack v) v →
    squeezed direction direction next (drop (i + 1) units) ≡ squeezed direction direction [] units
one_turn direction units i stack next v inside h value is =
    let u : BidiUnit = slice_index_or units i no_unit in
    let tail : List BidiUnit = drop (i + 1) units in
    ap (λ (st : Stack). squeezed direction direction st tail) (is ∙ ap (λ (w : BidiUnit). added direction (popped stack w) w) value)
    ∙ sym (ap (squeezed direction direction stack) (drop_more units i no_unit inside)) ∙ h
