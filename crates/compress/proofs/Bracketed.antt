-- W1 to I2 over the units of a sequence, brackets among them: which unit may be dropped after the one at k.
use Rattle.std.specs.Prelude.{Option, Some, None, ℕ, zero, suc, ◌<◌, ◌≤◌, Bool, true, false, ◌≡◌, List, [], ◌∷◌, length, map, if◌then◌else◌, refl}
use Rattle.std.specs.Option.{option_map}
use Rattle.std.proofs.Common.{arith, ap, sym, ◌∙◌, ◌⊎◌, inl, inr}
use Rattle.std.proofs.lemmas.Bool.{cond-false, false≢true}
use Rattle.units.specs.Brackets.{strong_as, acting_bracket, acting_brackets, is_open, bracket_at, bracket_pairs_of, closer_of, given_to, after_pair, after_paired, follows_bracket}
use Rattle.units.specs.Classes.{class_at, classes_of, is_nonspacing}
use Rattle.units.specs.Implicit.{implicit_level}
use Rattle.units.specs.Layout.{levels_of_sequence, units_at}
use Rattle.units.specs.Neutral.{after_neutral}
use Rattle.units.specs.Runs.{SequenceView, direction_of}
use Rattle.units.specs.Weak.{by_w3, by_w6, by_w7, after_weak}
use Rattle.units.specs.declared.bracket.Bracket.{Bracket}
use Rattle.units.specs.declared.bracket.Bracket.TheVariants.{No}
use Rattle.units.specs.declared.bracket.Unit.{Unit as BidiUnit}
use Rattle.units.specs.declared.class.Class.{Class}
use Rattle.units.specs.declared.class.Class.TheVariants.{L, R, AL, NSM, ON, WS, S}
use Rattle.units.proofs.Lengths.{length-after_weak, length-classes_of}
use Rattle.resolve.specs.Contexts.{context_at_start, context_past, by_context}
use Rattle.resolve.specs.declared.weak.Context.{Context}
use Rattle.compress.specs.Spread.{put, twice, may_repeat, is_space, is_quiet}
use Rattle.resolve.specs.ThroughW3.{preceding_past}
use Rattle.compress.proofs.Given.{Counts, follows-plain, follows-plain-put, follows-mark, follows-mark-k, given_to-moved, given_at}
use Rattle.compress.proofs.Marks.{after_weak-mark}
use Rattle.compress.proofs.Neutrals.{Gives, after_neutral-put}
use Rattle.compress.proofs.Paired.{pair_keeps, apart_from, after_paired-moved, turn_stays, paired_stays}
use Rattle.compress.proofs.Pairs.{moved, bracket_pairs-moved, closer-moved, closer-never}
use Rattle.compress.proofs.Repeats.{decided_plain, after_weak-twice, after_neutral-twice}
use Rattle.compress.proofs.Skip.{skip}
use Rattle.compress.proofs.Sound.{IsPairOf, pairs_sound, no_pair_at, acting_at}
use Rattle.compress.proofs.Spaces.{quiet_plain, w7_stays, after_weak-space}
use Rattle.compress.proofs.Spreading.{Drops, map-twice, map-put}
use Rattle.compress.proofs.Unbracketed.{put-twice, space_neutral}
use Rattle.resolve.proofs.StatePasses.{after_state_pass}
use Rattle.resolve.proofs.WeakPasses.{after_weak-after_state_pass}

-- N0 over the units of a sequence, by their classes after W7
abbrev pub after_n0 : ℕ → SequenceView → List BidiUnit → List Class → List Class
after_n0 most s us weak =
    after_paired (direction_of s.level) s.sos (classes_of us) (closer_of (bracket_pairs_of most (acting_brackets us weak))) weak

-- W1 to I2 over the units of a sequence, where no override gives a class
abbrev pub unit_levels : ℕ → SequenceView → List BidiUnit → List ℕ
unit_levels most s us =
    map (implicit_level s.level) (after_neutral (direction_of s.level) s.sos s.eos (after_n0 most s us (after_weak s.sos (classes_of us))))

-- those are the levels of the sequence
pub unit_levels-are : (most : ℕ) (s : SequenceView) (us : List BidiUnit) → levels_of_sequence most s us (classes_of (units_at us s.positions)) ≡ unit_levels most s (units_at us s.positions)
unit_levels-are most s us = refl

pub acting_no : (c own : Class) → acting_bracket c own No ≡ No
acting_no ON NSM = refl
acting_no ON own = refl
acting_no c own = refl

acting_mark : (c : Class) (b : Bracket) → acting_bracket c NSM b ≡ No
acting_mark ON b = refl
acting_mark c b = refl

acting-put : (k : ℕ) (u : BidiUnit) (x : Class) (us : List BidiUnit) (cs : List Class) → acting_bracket x u.class u.bracket ≡ No →
    acting_brackets (put k u us) (put k x cs) ≡ put k No (acting_brackets us cs)
acting-put k u x [] cs e = refl
acting-put zero u x (v ∷ us) [] e = refl
acting-put (suc k) u x (v ∷ us) [] e = refl
acting-put zero u x (v ∷ us) (c ∷ cs) e = ap (λ (b : Bracket). acting_bracket c v.class v.bracket ∷ b ∷ acting_brackets us cs) e
acting-put (suc k) u x (v ∷ us) (c ∷ cs) e = ap (λ (bs : List Bracket). acting_bracket c v.class v.bracket ∷ bs) (acting-put k u x us cs e)

-- what W1 to W7 make of a letter or a neutral
quiet_w6 : (strong c : Class) → is_quiet c ≡ true → by_w7 strong (by_w6 (by_w3 c)) ≡ by_w3 c
quiet_w6 strong L h = w7_stays strong L refl
quiet_w6 strong R h = w7_stays strong R refl
quiet_w6 strong AL h = w7_stays strong R refl
quiet_w6 strong S h = w7_stays strong S refl
quiet_w6 strong WS h = w7_stays strong WS refl
quiet_w6 strong ON h = w7_stays strong ON refl
quiet_w6 strong c h = cc

passed_quiet : (x : Context) (cs : List Class) (k : ℕ) → is_quiet (class_at cs k) ≡ true → class_at (after_state_pass by_context context_past x cs) k ≡ by_w3 (class_at cs k)
passed_quiet x [] k h = refl
passed_quiet x (c ∷ cs) zero h =
    ap (λ (s : Class). by_w7 (preceding_past x.preceding c).strong (by_w6 s)) (decided_plain x c cs (quiet_plain c h)) ∙ quiet_w6 (preceding_past x.preceding c).strong c h
passed_quiet x (c ∷ cs) (suc k) h = passed_quiet (context_past x c cs) cs k h

pub weak_quiet : (sos : Class) (cs : List Class) (k : ℕ) → is_quiet (class_at cs k) ≡ true → class_at (after_weak sos cs) k ≡ by_w3 (class_at cs k)
weak_quiet sos cs k h = ap (λ (ds : List Class). class_at ds k) (after_weak-after_state_pass sos cs) ∙ passed_quiet (context_at_start sos) cs k h

quiet_base : (c : Class) → is_quiet c ≡ true → is_nonspacing c ≡ false
quiet_base NSM h = cc
quiet_base c h = refl

space_no_strong : (c : Class) → is_space c ≡ true → strong_as c ≡ None
space_no_strong S h = refl
space_no_strong WS h = refl
space_no_strong ON h = refl
space_no_strong c h = cc

repeat_base : (c : Class) → may_repeat c ≡ true → is_nonspacing c ≡ false
repeat_base NSM h = cc
repeat_base c h = refl

module _ (most : ℕ) (s : SequenceView) (us : List BidiUnit) (k : ℕ) (inside : k < length us) where
  abbrev before : List Class
  before = classes_of us

  abbrev weak : List Class
  weak = after_weak s.sos before

  abbrev brackets : List Bracket
  brackets = acting_brackets us weak

  abbrev closer : ℕ → Option ℕ
  closer = closer_of (bracket_pairs_of most brackets)

  long : length weak ≡ length before
  long = length-after_weak s.sos before

  within : k < length before
  within = omega (arith, length-classes_of us)

  sound : (o c : ℕ) → closer o ≡ Some c → IsPairOf us weak o c
  sound o c e = pairs_sound most us weak o c e

  -- no bracket acts where the class after W7 is no ON
  pub apart_on : (j : ℕ) → (class_at weak j ≡ ON → ⊥) → (o c : ℕ) → closer o ≡ Some c → (o ≡ j → ⊥) × (c ≡ j → ⊥)
  apart_on j h o c e =
      let p : IsPairOf us weak o c = sound o c e in (
        λ f. h (sym (ap (class_at weak) f) ∙ p.o_neutral),
        λ f. h (sym (ap (class_at weak) f) ∙ (acting_at us weak c p.c_acts).0),
      )

  module _ (u : BidiUnit) (x : Class) (weak_is : after_weak s.sos (put k u.class before) ≡ put k x weak) (no_bracket : acting_bracket x u.class u.bracket ≡ No) where
    abbrev units : List BidiUnit
    units = put k u us

    abbrev now : ℕ → Option ℕ
    now = closer_of (bracket_pairs_of most (acting_brackets units (put k x weak)))

    classes_are : classes_of units ≡ put k u.class before
    classes_are = map-put (λ (v : BidiUnit). v.class) k u us

    now_is : (o : ℕ) → now o ≡ closer_of (map (moved k) (bracket_pairs_of most brackets)) o
    now_is o =
        ap (λ (bs : List Bracket). closer_of (bracket_pairs_of most bs) o) (acting-put k u x us weak no_bracket)
        ∙ ap (λ (ps : List (ℕ × ℕ)). closer_of ps o) (bracket_pairs-moved k brackets most)

    now_moves : (o : ℕ) → now (skip k o) ≡ option_map (skip k) (closer o)
    now_moves o = now_is (skip k o) ∙ closer-moved k (bracket_pairs_of most brackets) o

    now_never : now (suc k) ≡ None
    now_never = now_is (suc k) ∙ closer-never k (bracket_pairs_of most brackets)

    -- N0 with the unit that was put in
    n0_with : (y : Class) → after_paired (direction_of s.level) s.sos (put k u.class before) now (put k x weak) ≡ put k y (after_n0 most s us weak) →
        after_n0 most s units (after_weak s.sos (classes_of units)) ≡ put k y (after_n0 most s us weak)
    n0_with y e =
        ap (λ (cs : List Class). after_n0 most s units (after_weak s.sos cs)) classes_are
        ∙ ap (after_n0 most s units) weak_is
        ∙ ap (λ (cs : List Class). after_paired (direction_of s.level) s.sos cs now (put k x weak)) classes_are
        ∙ e

  -- after what is no mark and no bracket, something that is no mark
  module _ (u : BidiUnit) (x : Class) (weak_is : after_weak s.sos (put k u.class before) ≡ put k x weak) (no_bracket : acting_bracket x u.class u.bracket ≡ No)
      (u_base : is_nonspacing u.class ≡ false) (base : is_nonspacing (class_at before k) ≡ false)
      (apart : (o c : ℕ) → closer o ≡ Some c → (o ≡ k → ⊥) × (c ≡ k → ⊥)) (counts : (strong_as x ≡ None) ⊎ (x ≡ class_at weak k)) where
    plain_gives : (o c b : ℕ) → closer o ≡ Some c → (b ≡ o) ⊎ (b ≡ c) → (d : Class) (cs : List Class) → length cs ≡ length before →
        given_to (put k u.class before) (skip k b) d (put k x cs) ≡ put k x (given_to before b d cs)
    plain_gives o c b e which d cs n =
        let other : b ≡ k → ⊥ = elim which [
          | inl f ↦ (λ g. (apart o c e).0 (sym f ∙ g))
          | inr f ↦ (λ g. (apart o c e).1 (sym f ∙ g))
        ] in
        given_to-moved k x before (put k u.class before) b (skip k b) d cs (omega (arith, within)) (follows-plain k u.class before within u_base base b other)
        ∙ ap (λ (y : Class). put k y (given_to before b d cs))
        (cond-false (follows_bracket (put k u.class before) (skip k b) (suc k)) d x (follows-plain-put k u.class before within u_base base b other))

    counts_still : (cs : List Class) → class_at cs k ≡ class_at weak k → Counts k x cs
    counts_still cs e = elim counts [
      | inl none ↦ inl none
      | inr f ↦ inr (f ∙ sym e)
    ]

    pub plain_n0 : after_n0 most s (put k u us) (after_weak s.sos (classes_of (put k u us))) ≡ put k x (after_n0 most s us weak)
    plain_n0 =
        n0_with u x weak_is no_bracket x
        (after_paired-moved (direction_of s.level) s.sos before (put k u.class before) closer (now u x weak_is no_bracket) k (length before) within
        (λ cs. x) (λ o cs. class_at cs k ≡ class_at weak k) plain_gives
        (λ o cs e. counts_still cs e) (λ o c cs e f g. absurd ((apart o c f).0 g))
        (λ o cs e. turn_stays (direction_of s.level) s.sos before closer k base apart cs o ∙ e)
        (now_moves u x weak_is no_bracket) (now_never u x weak_is no_bracket) weak refl long)

    pub chosen_n0 : class_at (after_n0 most s us weak) k ≡ class_at weak k
    chosen_n0 = paired_stays (direction_of s.level) s.sos before closer k base apart weak

  levels_by : (new : List BidiUnit) → after_neutral (direction_of s.level) s.sos s.eos (after_n0 most s new (after_weak s.sos (classes_of new))) ≡ twice k (after_neutral (direction_of s.level) s.sos s.eos (after_n0 most s us weak)) →
      unit_levels most s new ≡ twice k (unit_levels most s us)
  levels_by new e = ap (map (implicit_level s.level)) e ∙ map-twice (implicit_level s.level) k (after_neutral (direction_of s.level) s.sos s.eos (after_n0 most s us weak))

  -- THE LEMMAS
  -- a unit of the class of the one before it, where neither is a bracket
  pub unit_repeat_drops : (u : BidiUnit) → u.class ≡ class_at before k → may_repeat u.class ≡ true → bracket_at brackets k ≡ No → u.bracket ≡ No → Drops (unit_levels most s) k u us
  unit_repeat_drops u e h none bare =
      let x : Class = class_at weak k in
      let here : may_repeat (class_at before k) ≡ true = ap may_repeat (sym e) ∙ h in
      let weak_is : after_weak s.sos (put k u.class before) ≡ put k (class_at weak k) weak =
      ap (λ (c : Class). after_weak s.sos (put k c before)) e ∙ ap (after_weak s.sos) (put-twice k before) ∙ after_weak-twice s.sos k before here ∙ sym (put-twice k weak) in
      let no_bracket : acting_bracket (class_at weak k) u.class u.bracket ≡ No = ap (acting_bracket (class_at weak k) u.class) bare ∙ acting_no (class_at weak k) u.class in
      let base : is_nonspacing (class_at before k) ≡ false = repeat_base (class_at before k) here in
      let apart : (o c : ℕ) → closer o ≡ Some c → (o ≡ k → ⊥) × (c ≡ k → ⊥) = λ o c f. no_pair_at us weak k none o c (sound o c f) in
      let n0 = plain_n0 u (class_at weak k) weak_is no_bracket (repeat_base u.class h) base apart (inr refl) in
      let chosen = chosen_n0 u (class_at weak k) weak_is no_bracket (repeat_base u.class h) base apart (inr refl) in
      levels_by (put k u us)
      (ap (after_neutral (direction_of s.level) s.sos s.eos) (n0 ∙ ap (λ (y : Class). put k y (after_n0 most s us weak)) (sym chosen) ∙ put-twice k (after_n0 most s us weak))
      ∙ after_neutral-twice s k (after_n0 most s us weak))

  -- a neutral that is no bracket, after a letter or neutral that gives it its own direction, where no mark follows
  pub unit_space_drops : (u : BidiUnit) → is_space u.class ≡ true → u.bracket ≡ No → is_quiet (class_at before k) ≡ true → bracket_at brackets k ≡ No →
      is_nonspacing (class_at before (suc k)) ≡ false → Gives (direction_of s.level) k (after_n0 most s us weak) → Drops (unit_levels most s) k u us
  unit_space_drops u space bare quiet none next gives =
      let weak_is = after_weak-space s.sos k u.class before quiet space next in
      let no_bracket : acting_bracket u.class u.class u.bracket ≡ No = ap (acting_bracket u.class u.class) bare ∙ acting_no u.class u.class in
      let base : is_nonspacing (class_at before k) ≡ false = quiet_base (class_at before k) quiet in
      let u_quiet : is_nonspacing u.class ≡ false = space_base u.class space in
      let apart : (o c : ℕ) → closer o ≡ Some c → (o ≡ k → ⊥) × (c ≡ k → ⊥) = λ o c f. no_pair_at us weak k none o c (sound o c f) in
      let n0 = plain_n0 u u.class weak_is no_bracket u_quiet base apart (inl (space_no_strong u.class space)) in
      levels_by (put k u us)
      (ap (after_neutral (direction_of s.level) s.sos s.eos) n0 ∙ after_neutral-put s u.class (space_neutral u.class space) k (after_n0 most s us weak) gives) where
        space_base : (c : Class) → is_space c ≡ true → is_nonspacing c ≡ false
        space_base NSM h = cc
        space_base c h = refl

  -- a mark after a class that it takes, brackets among them
  module _ (u : BidiUnit) (is_mark : u.class ≡ NSM) (takes : may_repeat (class_at before k) ≡ true) where
    mark_weak : after_weak s.sos (put k u.class before) ≡ put k (class_at weak k) weak
    mark_weak = ap (λ (c : Class). after_weak s.sos (put k c before)) is_mark ∙ after_weak-mark s.sos k before takes ∙ sym (put-twice k weak)

    mark_no_bracket : acting_bracket (class_at weak k) u.class u.bracket ≡ No
    mark_no_bracket = ap (λ (c : Class). acting_bracket (class_at weak k) c u.bracket) is_mark ∙ acting_mark (class_at weak k) u.bracket

    mark_is : is_nonspacing u.class ≡ true
    mark_is = ap is_nonspacing is_mark

    -- the openers to come are still neutral
    abbrev Unresolved : ℕ → List Class → Type 0
    Unresolved o cs = (p c : ℕ) → o ≤ p → closer p ≡ Some c → class_at cs p ≡ ON

    mark_gives : (o c b : ℕ) → closer o ≡ Some c → (b ≡ o) ⊎ (b ≡ c) → (d : Class) (cs : List Class) → length cs ≡ length before →
        given_to (put k u.class before) (skip k b) d (put k (class_at cs k) cs) ≡ put k (class_at (given_to before b d cs) k) (given_to before b d cs)
    mark_gives o c b e which d cs n =
        let new : List Class = put k u.class before in
        let at_k : k < length cs = omega (arith, within) in
        given_to-moved k (class_at cs k) before new b (skip k b) d cs at_k (follows-mark k u.class before within mark_is b)
        ∙ ap (λ (t : Bool). put k (if t then d else class_at cs k) (given_to before b d cs)) (follows-mark-k k u.class before within mark_is b)
        ∙ ap (λ (y : Class). put k y (given_to before b d cs)) (sym (given_at before b d cs k at_k))

    mark_goes_on : (o : ℕ) (cs : List Class) → Unresolved o cs → Unresolved (suc o) (after_pair (direction_of s.level) s.sos before cs o (closer o))
    mark_goes_on o cs un p c le e =
        let q : IsPairOf us weak p c = sound p c e in
        pair_keeps (direction_of s.level) s.sos before cs o (closer o) p
        (apart_from before o p (λ f. absurd (omega arith)) q.o_base)
        (λ d f. apart_from before d p
        (λ g. false≢true (sym (sound o d f).closer ∙ ap (λ (i : ℕ). is_open (bracket_at brackets i)) g ∙ q.opens)) q.o_base)
        ∙ un p c (omega arith) e

    pub unit_mark_drops : Drops (unit_levels most s) k u us
    unit_mark_drops =
        let n0 = n0_with u (class_at weak k) mark_weak mark_no_bracket (class_at (after_n0 most s us weak) k)
        (after_paired-moved (direction_of s.level) s.sos before (put k u.class before) closer (now u (class_at weak k) mark_weak mark_no_bracket) k (length before) within
        (λ cs. class_at cs k) Unresolved mark_gives (λ o cs un. inr refl)
        (λ o c cs un e f. ap strong_as (sym (ap (class_at cs) f) ∙ un o c (omega arith) e))
        mark_goes_on (now_moves u (class_at weak k) mark_weak mark_no_bracket) (now_never u (class_at weak k) mark_weak mark_no_bracket) weak
        (λ p c le e. (sound p c e).o_neutral) long) in
        levels_by (put k u us)
        (ap (after_neutral (direction_of s.level) s.sos s.eos) (n0 ∙ put-twice k (after_n0 most s us weak)) ∙ after_neutral-twice s k (after_n0 most s us weak))
