-- Units that are passed after the one that was chosen last, and what leads on to the whole stack.
use Rattle.std.specs.Prelude.{ℕ, zero, suc, ◌+◌, ◌-◌, ◌<◌, ◌≤◌, Bool, true, false, not, ◌&&◌, ◌||◌, ◌≡◌, List, [], ◌∷◌, length, drop, if◌then◌else◌, refl}
use Rattle.std.proofs.Common.{arith, ap, sym, subst, ◌∙◌, inl, inr}
use Rattle.std.proofs.lemmas.Bool.{both_ways, cases_Bool, cond-true, cond-false}
use Rattle.units.specs.Classes.{is_nonspacing, is_removed, is_strong}
use Rattle.units.specs.declared.bracket.Unit.{Unit as BidiUnit}
use Rattle.units.specs.declared.class.Class.{Class}
use Rattle.units.specs.declared.class.Class.TheVariants.{L, R, AL, EN, ES, ET, AN, CS, NSM, S, WS, ON}
use Rattle.compress.specs.Laid.{start_at, class_after, IsApart, remaining_before, stack_of, IsLaid, IsPassed, LeadsOn}
use Rattle.compress.specs.Remaining.{remaining_units}
use Rattle.compress.specs.Spread.{may_repeat, is_space, is_quiet, is_firm, is_apart, is_no_number}
use Rattle.compress.specs.Squeeze.{Stack, is_bare, is_open_letter, repeats, is_directed, is_one_way, joins, is_between, is_sign, passes, passes_after, comma_between, class_for, is_number_or_sign, needs_next, unit_for, known_after, popped, added, next_for, turned, first_unit, squeezed}
use Rattle.compress.proofs.Counting.{at, remaining_chosen, removed_between, remaining_here}
use Rattle.compress.proofs.Laying.{stack_of-joins, laid_later}
use Rattle.compress.proofs.Sound.{both_parts, join_parts}
use Rattle.compress.proofs.Squeezed.{or_parts, mark_is, repeats_is}

-- classes that join, bare
abbrev joins_class : Class → Class → Class → Bool
joins_class d t v = (is_nonspacing v && may_repeat t) || (repeats t v || (is_space v && (is_space t || is_directed d t)))

pub spaced_is_quiet : (d t : Class) → (is_space t || is_directed d t) ≡ true → is_quiet t ≡ true
spaced_is_quiet d L h = refl
spaced_is_quiet d R h = refl
spaced_is_quiet d AL h = refl
spaced_is_quiet d S h = refl
spaced_is_quiet d WS h = refl
spaced_is_quiet d ON h = refl
spaced_is_quiet L t h = cc
spaced_is_quiet R t h = cc
spaced_is_quiet d t h = cc

pub or_first : (a b : Bool) → a ≡ true → (a || b) ≡ true
or_first true b h = refl
or_first false b h = cc

pub or_second : (a b : Bool) → b ≡ true → (a || b) ≡ true
or_second true b h = refl
or_second false b h = h

or_rest : (a b : Bool) → a ≡ false → (a || b) ≡ true → b ≡ true
or_rest true b f h = cc
or_rest false b f h = h

or_last : (a b : Bool) → b ≡ false → (a || b) ≡ true → a ≡ true
or_last true b f h = refl
or_last false b f h = cc

or_both : (a b : Bool) → (a || b) ≡ false → (a ≡ false) × (b ≡ false)
or_both true b h = cc
or_both false b h = (refl, h)

pub is_sign_quiet : (s t u n : Class) → is_sign u ≡ true → is_quiet t ≡ true → class_for s t u n ≡ ON
is_sign_quiet s t ES n h q = cond-true (is_quiet t || (is_firm t && is_no_number n)) ON ES (or_first (is_quiet t) _ q)
is_sign_quiet s t CS n h q = cond-true (is_quiet t || (is_firm t && is_no_number n)) ON (comma_between t n) (or_first (is_quiet t) _ q)
is_sign_quiet s t u n h q = cc

pub space_for : (s t u n : Class) → is_space u ≡ true → class_for s t u n ≡ u
space_for s t S n h = refl
space_for s t WS n h = refl
space_for s t ON n h = refl
space_for s t u n h = cc

repeat_for : (s t n : Class) → repeats t t ≡ true → class_for s t t n ≡ t
repeat_for s L n h = refl
repeat_for s R n h = refl
repeat_for s AL n h = refl
repeat_for s EN n h = refl
repeat_for s AN n h = refl
repeat_for s ET n h = refl
repeat_for s t n h = cc

-- how a class is passed
record Passed (d s t u n : Class) : Type 0 where
  joins : joins_class d t (class_for s t u n) ≡ true
  apart : (c : Class) → (is_space t && is_one_way c (class_for s t u n)) ≡ false

pub weak_one_way : (c v : Class) → is_strong v ≡ false → is_one_way c v ≡ false
weak_one_way L L h = cc
weak_one_way R R h = cc
weak_one_way R AL h = cc
weak_one_way AL R h = cc
weak_one_way AL AL h = cc
weak_one_way c v h = refl

pub space_is_weak : (v : Class) → is_space v ≡ true → is_strong v ≡ false
space_is_weak S h = refl
space_is_weak WS h = refl
space_is_weak ON h = refl
space_is_weak v h = cc

pub and_false : (a b : Bool) → b ≡ false → (a && b) ≡ false
and_false true b h = h
and_false false b h = refl

repeat_no_space : (t : Class) → repeats t t ≡ true → is_space t ≡ false
repeat_no_space S h = cc
repeat_no_space WS h = cc
repeat_no_space ON h = cc
repeat_no_space t h = refl

passed_as : (d s t u n v : Class) → class_for s t u n ≡ v → joins_class d t v ≡ true → is_strong v ≡ false → Passed d s t u n
passed_as d s t u n v e j w = record {
  joins = ap (joins_class d t) e ∙ j;
  apart = λ c. and_false (is_space t) _ (ap (is_one_way c) e ∙ weak_one_way c v w);
}

passed_class : (d s t u n : Class) → is_removed u ≡ false → passes d t u ≡ true → Passed d s t u n
passed_class d s t u n r h =
    elim (or_parts (is_nonspacing u && may_repeat t) _ (or_rest (is_removed u) _ r h)) [
      | inl marked ↦
          (let p = both_parts (is_nonspacing u) (may_repeat t) marked in
          let e : u ≡ NSM = mark_is u p.0 in
          passed_as d s t u n NSM (ap (λ v. class_for s t v n) e)
          (or_first (true && may_repeat t) _ p.1) refl)
      | inr rest ↦ elim (or_parts (repeats t u) _ rest) [
        | inl again ↦
            (let e : u ≡ t = (repeats_is t u again).0 in
            let same : repeats t t ≡ true = sym (ap (repeats t) e) ∙ again in
            let same_class : class_for s t u n ≡ t = ap (λ v. class_for s t v n) e ∙ repeat_for s t n same in
            record {
              joins = ap (joins_class d t) same_class ∙ or_second (is_nonspacing t && may_repeat t) _ (or_first (repeats t t) _ same);
              apart = λ c. ap (λ b. b && is_one_way c (class_for s t u n)) (repeat_no_space t same);
            })
        | inr spaced ↦
            (let p = both_parts (is_space u || is_sign u) (is_space t || is_directed d t) spaced in
            elim (or_parts (is_space u) (is_sign u) p.0) [
              | inl space ↦
                  passed_as d s t u n u (space_for s t u n space)
                  (or_second (is_nonspacing u && may_repeat t) _ (or_second (repeats t u) _ (join_parts (is_space u) (is_space t || is_directed d t) space p.1)))
                  (space_is_weak u space)
              | inr sign ↦
                  passed_as d s t u n ON (is_sign_quiet s t u n sign (spaced_is_quiet d t p.1))
                  (or_second (false && may_repeat t) _ (or_second (repeats t ON) _ p.1)) refl
            ])
      ]
    ]

-- one turn at such a unit
pub passed_turn : (d sos : Class) (c : BidiUnit × ℕ) (back : Stack) (u : BidiUnit) (n : Class) →
    is_bare c.0.bracket ≡ true → is_bare u.bracket ≡ true → is_removed u.class ≡ false → passes d c.0.class u.class ≡ true →
    turned d sos (c ∷ back) u n ≡ (c.0, c.1 + 1) ∷ back
passed_turn d sos c back u n bare_top bare r h =
    let s : Class = (known_after sos (c ∷ back)).strong in
    let v : BidiUnit = record { class = class_for (known_after sos (c ∷ back)).strong c.0.class u.class n; bracket = u.bracket } in
    let p : Passed d s c.0.class u.class n = passed_class d s c.0.class u.class n r h in
    let is : next_for sos (c ∷ back) u n ≡ v = cond-true (is_bare u.bracket) v u bare in
    let same : (is_bare u.bracket && is_bare c.0.bracket) ≡ true = join_parts (is_bare u.bracket) (is_bare c.0.bracket) bare bare_top in
    let j : joins d c.0 v ≡ true = ap (λ b. (is_nonspacing v.class && may_repeat c.0.class) || (b && (repeats c.0.class v.class || (is_space v.class && (is_space c.0.class || is_directed d c.0.class))))) same ∙ p.joins in
    let less : Stack = (c.0, c.1 + 1) ∷ back in
    let more : Stack = (v, 1) ∷ c ∷ back in
    ap (λ w. added d (popped (c ∷ back) w) w) is
    ∙ ap (λ st. added d st v) (unpopped back v p.apart)
    ∙ cond-true (joins d c.0 v) less more j where
      unpopped : (back : Stack) (v : BidiUnit) → ((a : Class) → (is_space c.0.class && is_one_way a v.class) ≡ false) → popped (c ∷ back) v ≡ c ∷ back
      unpopped [] v apart = refl
      unpopped (b ∷ below) v apart =
          cond-false (is_between b.0 c.0 v) ((b.0, b.1 + c.1) ∷ below) (c ∷ b ∷ below) (and_false (is_bare c.0.bracket && is_bare b.0.bracket) _ (apart b.0.class))

module _ (d : Class) (us chosen starts : List BidiUnit) where
  abbrev stack : ℕ → ℕ → Stack
  stack m p = stack_of us chosen starts m p

  -- past removed units the stack is the same
  same_stack : (m p e : ℕ) → remaining_before us e ≡ remaining_before us p → stack m e ≡ stack m p
  same_stack zero p e h = refl
  same_stack (suc m) p e h = ap (λ w. (at chosen m, w - remaining_before us (start_at starts m)) ∷ stack m (start_at starts m)) h

  pub leads_past_removed : (m p e : ℕ) → p ≤ e → e ≤ length us → ((q : ℕ) → p ≤ q → q < e → is_removed (at us q).class ≡ true) →
      LeadsOn d us (stack m p) p → LeadsOn d us (stack m e) e
  leads_past_removed m p e le within h way =
      let r = removed_between us p e le within h in
      ap (λ st. squeezed d d st (remaining_units (drop e us))) (same_stack m p e r.0)
      ∙ ap (λ tail. squeezed d d (stack m p) tail) r.1 ∙ way

  pub laid_past_removed : (m p e : ℕ) → p ≤ e → e ≤ length us → ((q : ℕ) → p ≤ q → q < e → is_removed (at us q).class ≡ true) →
      IsLaid us starts m p → IsLaid us starts m e
  laid_past_removed m p e le within h laid = laid_later us starts m p e le within (λ z. (removed_between us p e le within h).0) laid

  -- what is known depends on the chosen units alone
  pub known_same : (m p e : ℕ) → known_after d (stack m p) ≡ known_after d (stack m e)
  known_same zero p e = refl
  known_same (suc m) p e = refl

  -- past one that is passed it counts for one more
  leads_past_one : (m p : ℕ) → p < length us → IsPassed d us chosen m p → IsLaid us starts m p → LeadsOn d us (stack m p) p → LeadsOn d us (stack m (p + 1)) (p + 1)
  leads_past_one zero p lt passed laid way = let h = passed.some in absurd (omega arith)
  leads_past_one (suc m) p lt passed laid way =
      let u : BidiUnit = at us p in
      let top : BidiUnit = at chosen m in
      elim (cases_Bool (is_removed u.class)) [
        | inl t ↦ leads_past_removed (suc m) p (p + 1) (omega arith) (omega arith) (λ q a b. let e : q ≡ p = omega arith in ap (λ i. is_removed (at us i).class) e ∙ t) way
        | inr f ↦ elim (cases_Bool (is_bare top.bracket)) [
          | inl bare ↦
              (let n : Class = (first_unit (remaining_units (drop (p + 1) us))).class in
              let tail : List BidiUnit = remaining_units (drop (p + 1) us) in
              let h : passes d top.class u.class ≡ true =
              sym (cond-true (is_bare top.bracket) (passes d top.class u.class) (is_removed u.class) bare) ∙ passed.passes m refl in
              ap (λ st. squeezed d d st tail)
              (stack_of-joins us chosen starts m p (p + 1) laid (remaining_chosen us p lt f)
              ∙ sym (passed_turn d d (top, remaining_before us p - remaining_before us (start_at starts m)) (stack m (start_at starts m)) u n bare (or_last (is_bare u.bracket) (is_removed u.class) f passed.bare) f h))
              ∙ sym (ap (λ ws. squeezed d d (stack (suc m) p) ws) (remaining_here us p lt f)) ∙ way)
          | inr bracket ↦
              (let h : is_removed u.class ≡ true =
              sym (cond-false (is_bare top.bracket) (passes d top.class u.class) (is_removed u.class) bracket) ∙ passed.passes m refl in
              absurd (both_ways (is_removed u.class) f h))
        ]
      ]

  passed_later : (m p e : ℕ) → 0 < m → p ≤ e → e ≤ length us → IsLaid us starts m p → IsLaid us starts m e
  passed_later m p e some le within laid = laid_later us starts m p e le within (λ z. absurd (omega arith)) laid

  leads_past : (m p n : ℕ) → 0 < m → p + n ≤ length us → ((q : ℕ) → p ≤ q → q < p + n → IsPassed d us chosen m q) → IsLaid us starts m p →
      LeadsOn d us (stack m p) p → LeadsOn d us (stack m (p + n)) (p + n)
  leads_past m p zero some le h laid way = let z : p ≡ p + 0 = omega arith in subst (λ i. LeadsOn d us (stack m i) i) z way
  leads_past m p (suc n) some le h laid way =
      let e : p + n + 1 ≡ p + suc n = omega arith in
      subst (λ i. LeadsOn d us (stack m i) i) e
      (leads_past_one m (p + n) (omega arith) (h (p + n) (omega arith) (omega arith)) (passed_later m p (p + n) some (omega arith) (omega arith) laid)
      (leads_past m p n some (omega arith) (λ q a b. h q a (omega arith)) laid way))

  pub leads_past_run : (m p e : ℕ) → 0 < m → p ≤ e → e ≤ length us → ((q : ℕ) → p ≤ q → q < e → IsPassed d us chosen m q) → IsLaid us starts m p →
      LeadsOn d us (stack m p) p → LeadsOn d us (stack m e) e
  leads_past_run m p e some le within h laid way =
      let n : p + (e - p) ≡ e = omega arith in
      subst (λ i. LeadsOn d us (stack m i) i) n (leads_past m p (e - p) some (omega arith) (λ q a b. h q a (omega arith)) laid way)

  pub laid_past_run : (m p e : ℕ) → 0 < m → p ≤ e → e ≤ length us → IsLaid us starts m p → IsLaid us starts m e
  laid_past_run m p e some le within laid = passed_later m p e some le within laid

-- a turn at the unit at p, the next one that remains is not before `end`
pub leads_turn : (d : Class) (us : List BidiUnit) (p end : ℕ) (stack next : Stack) → p < length us → is_removed (at us p).class ≡ false →
    p + 1 ≤ end → end ≤ length us → ((q : ℕ) → p + 1 ≤ q → q < end → is_removed (at us q).class ≡ true) →
    next ≡ turned d d stack (at us p) (class_after us p) → LeadsOn d us stack p → LeadsOn d us next end
leads_turn d us p end stack next lt f later within h is way =
    let tail : List BidiUnit = remaining_units (drop (p + 1) us) in
    ap (λ ws. squeezed d d next ws) (removed_between us (p + 1) end later within h).1
    ∙ ap (λ st. squeezed d d st tail) is
    ∙ sym (ap (λ ws. squeezed d d stack ws) (remaining_here us p lt f)) ∙ way

and_true_first : (a : Bool) → (a && true) ≡ false → a ≡ false
and_true_first true h = h
and_true_first false h = refl

-- a class that is not passed joins no class before it, unless it is a mark
unjoined_class : (d t u : Class) → is_removed u ≡ false → is_nonspacing u ≡ false → passes d t u ≡ false → joins_class d t u ≡ false
unjoined_class d t u r m h =
    let rest = (or_both (is_removed u) _ h).1 in
    let parts = or_both (repeats t u) _ (or_both (is_nonspacing u && may_repeat t) _ rest).1 in
    ap (λ b. (b && may_repeat t) || (repeats t u || (is_space u && (is_space t || is_directed d t)))) m
    ∙ ap (λ b. b || (is_space u && (is_space t || is_directed d t))) parts.0
    ∙ spaced (is_space u) (is_sign u) (is_space t || is_directed d t) parts.1 where
      spaced : (a b c : Bool) → ((a || b) && c) ≡ false → (a && c) ≡ false
      spaced true b c h = h
      spaced false b c h = refl

pub unjoined : (d : Class) (top u : BidiUnit) → is_removed u.class ≡ false → is_nonspacing u.class ≡ false →
    (passes_after d top u.class && is_bare u.bracket) ≡ false → joins d top u ≡ false
unjoined d top u r m h =
    let plain : Bool = repeats top.class u.class || (is_space u.class && (is_space top.class || is_directed d top.class)) in
    ap (λ b. (b && may_repeat top.class) || ((is_bare u.bracket && is_bare top.bracket) && plain)) m
    ∙ by_bare (is_bare u.bracket) (is_bare top.bracket) h where
      by_bare : (a b : Bool) → ((if b then passes d top.class u.class else is_removed u.class) && a) ≡ false →
          ((a && b) && (repeats top.class u.class || (is_space u.class && (is_space top.class || is_directed d top.class)))) ≡ false
      by_bare true true h =
          let p : passes d top.class u.class ≡ false = and_true_first (passes d top.class u.class) h in
          let j : joins_class d top.class u.class ≡ false = unjoined_class d top.class u.class r m p in
          (or_both (is_nonspacing u.class && may_repeat top.class) _ j).1
      by_bare true false h = refl
      by_bare false true h = refl
      by_bare false false h = refl

-- X9: what is removed is passed
pub removed_passes : (d : Class) (top : BidiUnit) (c : Class) → is_removed c ≡ true → passes_after d top c ≡ true
removed_passes d top c t =
    elim (cases_Bool (is_bare top.bracket)) [
      | inl b ↦ cond-true (is_bare top.bracket) (passes d top.class c) (is_removed c) b ∙ or_first (is_removed c) _ t
      | inr f ↦ cond-false (is_bare top.bracket) (passes d top.class c) (is_removed c) f ∙ t
    ]

-- a letter is no mark
pub strong_unmarked : (u : Class) → is_strong u ≡ true → is_nonspacing u ≡ false
strong_unmarked NSM h = cc
strong_unmarked u h = refl

-- a letter is no number and no sign
pub strong_plain : (u : Class) → is_strong u ≡ true → is_number_or_sign u ≡ false
strong_plain L h = refl
strong_plain R h = refl
strong_plain AL h = refl
strong_plain u h = cc

-- only a letter lets the one before it be dropped
pub popped_weak : (stack : Stack) (u : BidiUnit) → is_strong u.class ≡ false → stack ≡ popped stack u
popped_weak [] u h = refl
popped_weak (d ∷ []) u h = refl
popped_weak (d ∷ c ∷ back) u h =
    let less : Stack = (c.0, c.1 + d.1) ∷ back in
    let all : Stack = d ∷ c ∷ back in
    sym (cond-false (is_between c.0 d.0 u) less all
    (and_false (is_bare d.0.bracket && is_bare c.0.bracket) _ (and_false (is_space d.0.class) _ (weak_one_way c.0.class u.class h))))

-- what is passed after a letter without a bracket, but no white space: neutrals after it depend on what comes after them
open_unless_spaced : (d t : Class) → is_strong t ≡ true → passes d t WS ≡ false → (is_strong t && not (is_directed d t)) ≡ true
open_unless_spaced d t s h = ap (λ b. b && not (is_directed d t)) s ∙ undirected (is_directed d t) (or_both (is_space t) _ (or_both (repeats t WS) _ h).1).1 where
  undirected : (b : Bool) → b ≡ false → not b ≡ true
  undirected true f = cc
  undirected false f = refl

pub open_letter : (d : Class) (top : BidiUnit) → is_bare top.bracket ≡ true → is_strong top.class ≡ true → passes_after d top WS ≡ false →
    is_open_letter d top ≡ true
open_letter d top bare strong h =
    join_parts (is_bare top.bracket) (is_strong top.class && not (is_directed d top.class)) bare
    (open_unless_spaced d top.class strong (sym (cond-true (is_bare top.bracket) (passes d top.class WS) (is_removed WS) bare) ∙ h))

or_none : (b r : Bool) → r ≡ false → (b || r) ≡ b
or_none true r f = refl
or_none false r f = f

-- where a run of passed units stops
pub apart_at_stop : (d : Class) (chosen : List BidiUnit) (m : ℕ) (has : Bool) (u : BidiUnit) → 0 < m →
    ((k : ℕ) → m ≡ suc k → has ≡ passes_after d (at chosen k) u.class) → (has && (is_bare u.bracket || is_removed u.class)) ≡ false → IsApart d chosen m u
apart_at_stop d chosen zero has u some h stop = absurd (omega arith)
apart_at_stop d chosen (suc k) has u some h stop =
    elim (cases_Bool (is_removed u.class)) [
      | inl t ↦
          (let x = join_parts has (is_bare u.bracket || is_removed u.class) (h k refl ∙ removed_passes d (at chosen k) u.class t) (or_second (is_bare u.bracket) _ t) in
          absurd (both_ways (has && (is_bare u.bracket || is_removed u.class)) stop x))
      | inr f ↦ record {
        remains = f;
        stopped = λ j e. sym (ap (λ b. b && is_bare u.bracket) (h j e)) ∙ sym (ap (λ b. has && b) (or_none (is_bare u.bracket) (is_removed u.class) f)) ∙ stop;
      }
    ]

-- the same of the last chosen one and the classes that are passed after it
pub stop_apart : (d : Class) (chosen : List BidiUnit) (k : ℕ) (top u : BidiUnit) (has : Class → Bool) → top ≡ at chosen k →
    ((c : Class) → has c ≡ passes_after d top c) → (has u.class && (is_bare u.bracket || is_removed u.class)) ≡ false → IsApart d chosen (suc k) u
stop_apart d chosen k top u has same set stop =
    apart_at_stop d chosen (suc k) (has u.class) u (omega arith)
    (λ j i. let last : k ≡ j = omega arith in
    set u.class ∙ ap (λ t. passes_after d t u.class) same ∙ ap (λ t. passes_after d (at chosen t) u.class) last)
    stop

-- no number, sign or separator needs the next class, whatever the last strong class is
plain_needs-none : (s u : Class) → is_number_or_sign u ≡ false → needs_next s u ≡ false
plain_needs-none s EN h = cc
plain_needs-none s u h = h

no_letter : (a b : Bool) → ((a && false) && b) ≡ false
no_letter true b = refl
no_letter false b = refl

-- what needs no next class is not replaced
class_for-unchanged : (s c u n : Class) → needs_next s u ≡ false → class_for s c u n ≡ u
class_for-unchanged s c EN n h =
    cond-false ((is_quiet c && is_directed L s) && is_apart n) L EN (ap (λ b. (is_quiet c && b) && is_apart n) h ∙ no_letter (is_quiet c) (is_apart n))
class_for-unchanged s c ES n h = cc
class_for-unchanged s c ET n h = cc
class_for-unchanged s c CS n h = cc
class_for-unchanged s c u n h = refl

unit_for-unchanged : (s : Class) (c u : BidiUnit) (n : Class) → needs_next s u.class ≡ false → unit_for s c u n ≡ u
unit_for-unchanged s c u n h =
    let v : BidiUnit = record { class = class_for s c.class u.class n; bracket = u.bracket } in
    elim (cases_Bool (is_bare u.bracket)) [
      | inl t ↦ cond-true (is_bare u.bracket) v u t ∙ ap (λ (k : Class). record { class = k; bracket = u.bracket }) (class_for-unchanged s c.class u.class n h)
      | inr f ↦ cond-false (is_bare u.bracket) v u f
    ]

pub next_for-unchanged : (sos : Class) (stack : Stack) (u : BidiUnit) (n s : Class) → s ≡ (known_after sos stack).strong → needs_next s u.class ≡ false → u ≡ next_for sos stack u n
next_for-unchanged sos [] u n s e h = refl
next_for-unchanged sos (c ∷ back) u n s e h =
    sym (unit_for-unchanged (known_after sos (c ∷ back)).strong c.0 u n (ap (λ t. needs_next t u.class) (sym e) ∙ h))

pub next_for-plain : (sos : Class) (stack : Stack) (u : BidiUnit) (n : Class) → is_number_or_sign u.class ≡ false → u ≡ next_for sos stack u n
next_for-plain sos stack u n h = next_for-unchanged sos stack u n (known_after sos stack).strong refl (plain_needs-none (known_after sos stack).strong u.class h)

-- the same of a run of units without brackets, whose classes are in a set
pub run_leads : (d : Class) (us chosen starts : List BidiUnit) (k p e : ℕ) (top : BidiUnit) (has : Class → Bool) → top ≡ at chosen k →
    ((c : Class) → has c ≡ passes_after d top c) → p ≤ e → e ≤ length us →
    ((q : ℕ) → p ≤ q → q < e → has (at us q).class ≡ true) →
    ((q : ℕ) → p ≤ q → q < e → (is_bare (at us q).bracket || is_removed (at us q).class) ≡ true) → IsLaid us starts (suc k) p →
    LeadsOn d us (stack_of us chosen starts (suc k) p) p → LeadsOn d us (stack_of us chosen starts (suc k) e) e
run_leads d us chosen starts k p e top has same set le within passed bare laid way =
    leads_past_run d us chosen starts (suc k) p e (omega arith) le within (λ q a b. record {
      passes = λ j i. let last : k ≡ j = omega arith in
          ap (λ t. passes_after d (at chosen t) (at us q).class) (sym last) ∙ sym (ap (λ t. passes_after d t (at us q).class) same)
          ∙ sym (set (at us q).class) ∙ passed q a b;
      some = omega arith;
      bare = bare q a b;
    }) laid way
