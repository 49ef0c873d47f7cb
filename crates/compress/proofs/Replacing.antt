-- W1 to W7 where one class may replace another after a letter, a number or a neutral.
use Rattle.std.specs.Prelude.{ℕ, zero, suc, Bool, true, false, ◌≡◌, List, [], ◌∷◌, if◌then◌else◌, refl}
use Rattle.std.proofs.Common.{ap, sym, ◌∙◌}
use Rattle.std.proofs.lemmas.Bool.{cond-true}
use Rattle.units.specs.Classes.{class_at, is_nonspacing, is_strong}
use Rattle.units.specs.Weak.{by_w1, by_w2, by_w3, by_w4, by_w5, by_w6, by_w7, is_any, after_weak}
use Rattle.units.specs.declared.class.Class.{Class}
use Rattle.units.specs.declared.class.Class.TheVariants.{L, R, AL, EN, ES, CS, ET, AN, WS, ON, S, NSM}
use Rattle.resolve.specs.Ahead.{first_class}
use Rattle.resolve.specs.Contexts.{context_at_start, by_w5_after, by_w4_w5, by_w1_to_w5, context_past, by_context}
use Rattle.resolve.specs.declared.preceding.Preceding.{Preceding}
use Rattle.resolve.specs.declared.weak.Context.{Context}
use Rattle.compress.specs.Spread.{put, is_quiet, is_firm, is_still, is_apart, is_no_number}
use Rattle.resolve.specs.ThroughW3.{preceding_of, by_w1_to_w3, preceding_past, all_by_w1_to_w3, is_no_terminator}
use Rattle.compress.proofs.Repeats.{w2_stays, decided_plain, weak_given, weak_past}
use Rattle.compress.proofs.Spaces.{quiet_w3, quiet_by_w3, w7_stays, past_no_mark, w3_no_mark}
use Rattle.resolve.proofs.StatePasses.{after_state_pass}
use Rattle.resolve.proofs.WeakPasses.{after_weak-after_state_pass}

abbrev pub W : Context → List Class → List Class
W x cs = after_state_pass by_context context_past x cs

firm_decided : (x : Context) (c : Class) (cs : List Class) → is_firm c ≡ true → by_w1_to_w5 x c cs ≡ by_w1_to_w3 x.preceding c
firm_decided x EN cs h = number x.preceding.strong where
  number : (strong : Class) → by_w4_w5 x.before x.decided (by_w3 (by_w2 strong EN)) (first_class is_any (all_by_w1_to_w3 (preceding_past x.preceding EN) cs) ON)
      (first_class is_no_terminator (all_by_w1_to_w3 (preceding_past x.preceding EN) cs) ON) ≡ by_w3 (by_w2 strong EN)
  number AL = refl
  number strong = refl
firm_decided x AN cs h = decided_plain x AN cs refl ∙ sym (ap by_w3 (w2_stays x.preceding.strong AN refl))
firm_decided x L cs h = decided_plain x L cs refl ∙ sym (quiet_w3 x.preceding L refl)
firm_decided x R cs h = decided_plain x R cs refl ∙ sym (quiet_w3 x.preceding R refl)
firm_decided x AL cs h = decided_plain x AL cs refl ∙ sym (quiet_w3 x.preceding AL refl)
firm_decided x S cs h = decided_plain x S cs refl ∙ sym (quiet_w3 x.preceding S refl)
firm_decided x WS cs h = decided_plain x WS cs refl ∙ sym (quiet_w3 x.preceding WS refl)
firm_decided x ON cs h = decided_plain x ON cs refl ∙ sym (quiet_w3 x.preceding ON refl)
firm_decided x c cs h = cc

en_no_terminator : (strong : Class) → is_no_terminator (by_w3 (by_w2 strong EN)) ≡ true
en_no_terminator AL = refl
en_no_terminator strong = refl

firm_no_terminator : (f : Preceding) (c : Class) → is_firm c ≡ true → is_no_terminator (by_w1_to_w3 f c) ≡ true
firm_no_terminator f EN h = en_no_terminator f.strong
firm_no_terminator f AN h = ap (λ (d : Class). is_no_terminator (by_w3 d)) (w2_stays f.strong AN refl)
firm_no_terminator f L h = ap is_no_terminator (quiet_w3 f L refl)
firm_no_terminator f R h = ap is_no_terminator (quiet_w3 f R refl)
firm_no_terminator f AL h = ap is_no_terminator (quiet_w3 f AL refl)
firm_no_terminator f S h = ap is_no_terminator (quiet_w3 f S refl)
firm_no_terminator f WS h = ap is_no_terminator (quiet_w3 f WS refl)
firm_no_terminator f ON h = ap is_no_terminator (quiet_w3 f ON refl)
firm_no_terminator f c h = cc

ahead_firm : (test : Class → Bool) (f : Preceding) (k : ℕ) (d e : Class) (cs : List Class) → ((f : Preceding) (c : Class) → is_firm c ≡ true → test (by_w1_to_w3 f c) ≡ true) →
    is_firm (class_at cs k) ≡ true → first_class test (all_by_w1_to_w3 f (put k d cs)) ON ≡ first_class test (all_by_w1_to_w3 f (put k e cs)) ON
ahead_firm test f k d e [] sees h = refl
ahead_firm test f zero d e (c ∷ cs) sees h =
    let v : Class = by_w1_to_w3 f c in
    cond-true (test (by_w1_to_w3 f c)) v (first_class test (all_by_w1_to_w3 (preceding_past f c) (d ∷ cs)) ON) (sees f c h)
    ∙ sym (cond-true (test (by_w1_to_w3 f c)) v (first_class test (all_by_w1_to_w3 (preceding_past f c) (e ∷ cs)) ON) (sees f c h))
ahead_firm test f (suc k) d e (c ∷ cs) sees h =
    ap (λ (a : Class). if test (by_w1_to_w3 f c) then by_w1_to_w3 f c else a) (ahead_firm test (preceding_past f c) k d e cs sees h)

decided_firm : (x : Context) (p : Class) (k : ℕ) (d e : Class) (cs : List Class) → is_firm (class_at cs k) ≡ true → by_w1_to_w5 x p (put k d cs) ≡ by_w1_to_w5 x p (put k e cs)
decided_firm x p k d e cs h =
    let f : Preceding = preceding_past x.preceding p in
    ap (λ (n : Class). by_w4_w5 x.before x.decided (by_w1_to_w3 x.preceding p) n (first_class is_no_terminator (all_by_w1_to_w3 f (put k d cs)) ON)) (ahead_firm is_any f k d e cs (λ f c h. refl) h)
    ∙ ap (λ (a : Class). by_w4_w5 x.before x.decided (by_w1_to_w3 x.preceding p) (first_class is_any (all_by_w1_to_w3 f (put k e cs)) ON) a) (ahead_firm is_no_terminator f k d e cs firm_no_terminator h)

-- what W1 to W7 know after the item at k
abbrev pub known_past : Preceding → ℕ → List Class → Preceding
known_past f k [] = f
known_past f zero (c ∷ cs) = preceding_past f c
known_past f (suc k) (c ∷ cs) = known_past (preceding_past f c) k cs

-- after c, in what is known there, d is as good as e before these classes
abbrev pub AsGood : Class → Class → Class → Preceding → List Class → Type 0
AsGood c d e f cs =
    (y : Context) → y.preceding ≡ f → y.before ≡ y.decided → ((g : Preceding) × ((y.before ≡ by_w1_to_w3 g c) × (f ≡ preceding_past g c)))
    → (by_context y d cs ≡ by_context y e cs) × (W (context_past y d cs) cs ≡ W (context_past y e cs) cs)

-- the classes after the item at k
abbrev pub rest_at : ℕ → List Class → List Class
rest_at k [] = []
rest_at zero (c ∷ cs) = cs
rest_at (suc k) (c ∷ cs) = rest_at k cs

replaced_here : (x : Context) (c d e : Class) (cs : List Class) → is_firm c ≡ true → AsGood c d e (preceding_past x.preceding c) cs → W x (c ∷ d ∷ cs) ≡ W x (c ∷ e ∷ cs)
replaced_here x c d e cs h good =
    let same : by_w1_to_w5 x c (d ∷ cs) ≡ by_w1_to_w5 x c (e ∷ cs) = firm_decided x c (d ∷ cs) h ∙ sym (firm_decided x c (e ∷ cs) h) in
    let y : Context = context_past x c (e ∷ cs) in
    let both = good y refl (sym (firm_decided x c (e ∷ cs) h)) (x.preceding, (refl, refl)) in
    ap (λ (v : Class). v ∷ W (context_past x c (d ∷ cs)) (d ∷ cs)) (weak_given x c (d ∷ cs) (e ∷ cs) same)
    ∙ ap (λ (z : Context). by_context x c (e ∷ cs) ∷ W z (d ∷ cs)) (weak_past x c (d ∷ cs) (e ∷ cs) same)
    ∙ ap (λ (v : Class). by_context x c (e ∷ cs) ∷ v ∷ W (context_past y d cs) cs) both.0
    ∙ ap (λ (ds : List Class). by_context x c (e ∷ cs) ∷ by_context y e cs ∷ ds) both.1

replaced_passed : (x : Context) (k : ℕ) (d e : Class) (cs : List Class) → is_firm (class_at cs k) ≡ true →
    AsGood (class_at cs k) d e (known_past x.preceding k cs) (rest_at k cs) → W x (put k d cs) ≡ W x (put k e cs)
replaced_passed x k d e [] h good = refl
replaced_passed x zero d e (c ∷ cs) h good = replaced_here x c d e cs h good
replaced_passed x (suc k) d e (c ∷ cs) h good =
    let same : by_w1_to_w5 x c (put k d cs) ≡ by_w1_to_w5 x c (put k e cs) = decided_firm x c k d e cs h in
    ap (λ (v : Class). v ∷ W (context_past x c (put k d cs)) (put k d cs)) (weak_given x c (put k d cs) (put k e cs) same)
    ∙ ap (λ (z : Context). by_context x c (put k e cs) ∷ W z (put k d cs)) (weak_past x c (put k d cs) (put k e cs) same)
    ∙ ap (λ (ds : List Class). by_context x c (put k e cs) ∷ ds) (replaced_passed (context_past x c (put k e cs)) k d e cs h good)

pub after_weak-replaced : (sos : Class) (k : ℕ) (d e : Class) (cs : List Class) → is_firm (class_at cs k) ≡ true →
    AsGood (class_at cs k) d e (known_past (preceding_of sos) k cs) (rest_at k cs) → after_weak sos (put k d cs) ≡ after_weak sos (put k e cs)
after_weak-replaced sos k d e cs h good =
    after_weak-after_state_pass sos (put k d cs) ∙ replaced_passed (context_at_start sos) k d e cs h good ∙ sym (after_weak-after_state_pass sos (put k e cs))

apart_base : (c : Class) → is_apart c ≡ true → is_nonspacing c ≡ false
apart_base NSM h = cc
apart_base c h = refl

apart_w4 : (b s b' s' strong c n a : Class) → is_apart c ≡ true → by_w4_w5 b s (by_w3 (by_w2 strong c)) n a ≡ by_w4_w5 b' s' (by_w3 (by_w2 strong c)) n a
apart_w4 b s b' s' AL EN n a h = refl
apart_w4 b s b' s' strong EN n a h = refl
apart_w4 b s b' s' strong NSM n a h = cc
apart_w4 b s b' s' strong ES n a h = cc
apart_w4 b s b' s' strong CS n a h = cc
apart_w4 b s b' s' strong ET n a h = cc
apart_w4 b s b' s' strong c n a h =
    ap (λ (d : Class). by_w4_w5 b s (by_w3 d) n a) (w2_stays strong c refl) ∙ sym (ap (λ (d : Class). by_w4_w5 b' s' (by_w3 d) n a) (w2_stays strong c refl))

-- letters, neutrals and separators: what lies after one knows of no number
abbrev pub is_calm : Class → Bool
is_calm ES = true
is_calm CS = true
is_calm c = is_quiet c

w4_calm : (before c next : Class) → is_calm before ≡ true → by_w4 before c next ≡ c
w4_calm EN c next h = cc
w4_calm AN c next h = cc
w4_calm before c next h = refl

w5_calm : (decided ahead : Class) → is_calm decided ≡ true → by_w5_after decided ahead ≡ by_w5_after ON ahead
w5_calm EN ahead h = cc
w5_calm ET ahead h = cc
w5_calm decided ahead h = refl

calm_w4 : (b s c n a : Class) → is_calm b ≡ true → is_calm s ≡ true → by_w4_w5 b s c n a ≡ by_w4_w5 ON ON c n a
calm_w4 b s ES n a h g = w4_calm b ES n h
calm_w4 b s CS n a h g = w4_calm b CS n h
calm_w4 b s ET n a h g = w5_calm s a g
calm_w4 b s c n a h g = refl

quiet_calm : (c : Class) → is_quiet c ≡ true → is_calm c ≡ true
quiet_calm ES h = refl
quiet_calm CS h = refl
quiet_calm c h = h

-- what two settle alike at the next class
abbrev SettleAlike : Context → Context → Class → Type 0
SettleAlike x z c =
    (n a : Class) → by_w4_w5 x.before x.decided (by_w3 (by_w2 x.preceding.strong c)) n a ≡ by_w4_w5 z.before z.decided (by_w3 (by_w2 x.preceding.strong c)) n a

next_alike : (x z : Context) → x.preceding.strong ≡ z.preceding.strong → (cs : List Class) → is_nonspacing (class_at cs 0) ≡ false → SettleAlike x z (class_at cs 0) → W x cs ≡ W z cs
next_alike x z strong [] mark settle = refl
next_alike x z strong (c ∷ cs) mark settle =
    let fx : Preceding = preceding_past x.preceding c in
    let fz : Preceding = preceding_past z.preceding c in
    let known : preceding_past x.preceding c ≡ preceding_past z.preceding c =
    past_no_mark x.preceding c mark ∙ ap (λ (s : Class). record { base = c; strong = if is_strong c then c else s }) strong ∙ sym (past_no_mark z.preceding c mark) in
    let w3x : by_w1_to_w3 x.preceding c ≡ by_w3 (by_w2 x.preceding.strong c) = w3_no_mark x.preceding c mark in
    let w3z : by_w3 (by_w2 x.preceding.strong c) ≡ by_w1_to_w3 z.preceding c = ap (λ (s : Class). by_w3 (by_w2 s c)) strong ∙ sym (w3_no_mark z.preceding c mark) in
    let next : Preceding → Class = λ f. first_class is_any (all_by_w1_to_w3 f cs) ON in
    let ahead : Preceding → Class = λ f. first_class is_no_terminator (all_by_w1_to_w3 f cs) ON in
    let same : by_w1_to_w5 x c cs ≡ by_w1_to_w5 z c cs =
    ap (λ (d : Class). by_w4_w5 x.before x.decided d (next fx) (ahead fx)) w3x
    ∙ settle (next fx) (ahead fx)
    ∙ ap (λ (d : Class). by_w4_w5 z.before z.decided d (next fx) (ahead fx)) w3z
    ∙ ap (λ (f : Preceding). by_w4_w5 z.before z.decided (by_w1_to_w3 z.preceding c) (next f) (ahead f)) known in
    let past : context_past x c cs ≡ context_past z c cs = cc (known, w3x ∙ w3z, same) in
    ap (λ (f : Preceding). by_w7 f.strong (by_w6 (by_w1_to_w5 x c cs)) ∷ W (context_past x c cs) cs) known
    ∙ ap (λ (s : Class). by_w7 fz.strong (by_w6 s) ∷ W (context_past x c cs) cs) same
    ∙ ap (λ (y : Context). by_context z c cs ∷ W y cs) past

-- a neutral after y
neutral_given : (y : Context) (cs : List Class) → by_context y ON cs ≡ ON
neutral_given y cs = ap (λ (s : Class). by_w7 y.preceding.strong (by_w6 s)) (decided_plain y ON cs refl) ∙ w7_stays y.preceding.strong ON refl

abbrev pub is_separator_class : Class → Bool
is_separator_class ES = true
is_separator_class CS = true
is_separator_class _ = false

-- a separator that W4 leaves
separator_settles : (y : Context) (d : Class) (cs : List Class) → is_separator_class d ≡ true →
    by_w4 y.before d (first_class is_any (all_by_w1_to_w3 (preceding_past y.preceding d) cs) ON) ≡ d → by_w1_to_w5 y d cs ≡ d
separator_settles y ES cs h e =
    let n : Class = first_class is_any (all_by_w1_to_w3 (preceding_past y.preceding ES) cs) ON in
    let a : Class = first_class is_no_terminator (all_by_w1_to_w3 (preceding_past y.preceding ES) cs) ON in
    ap (λ (c : Class). by_w4_w5 y.before y.decided (by_w3 c) n a) (w2_stays y.preceding.strong ES refl) ∙ e
separator_settles y CS cs h e =
    let n : Class = first_class is_any (all_by_w1_to_w3 (preceding_past y.preceding CS) cs) ON in
    let a : Class = first_class is_no_terminator (all_by_w1_to_w3 (preceding_past y.preceding CS) cs) ON in
    ap (λ (c : Class). by_w4_w5 y.before y.decided (by_w3 c) n a) (w2_stays y.preceding.strong CS refl) ∙ e
separator_settles y d cs h e = cc

separator_w3 : (f : Preceding) (d : Class) → is_separator_class d ≡ true → by_w1_to_w3 f d ≡ d
separator_w3 f ES h = ap by_w3 (w2_stays f.strong ES refl)
separator_w3 f CS h = ap by_w3 (w2_stays f.strong CS refl)
separator_w3 f d h = cc

separator_strong : (f : Preceding) (d : Class) → is_separator_class d ≡ true → (preceding_past f d).strong ≡ f.strong
separator_strong f ES h = refl
separator_strong f CS h = refl
separator_strong f d h = cc

separator_calm : (d : Class) → is_separator_class d ≡ true → is_calm d ≡ true
separator_calm ES h = refl
separator_calm CS h = refl
separator_calm d h = cc

separator_w6 : (strong d : Class) → is_separator_class d ≡ true → by_w7 strong (by_w6 d) ≡ ON
separator_w6 strong ES h = w7_stays strong ON refl
separator_w6 strong CS h = w7_stays strong ON refl
separator_w6 strong d h = cc

-- after a separator and after a neutral, marks and all that follows become the same
record MarkedAlike (x z : Context) : Type 0 where
  strong : x.preceding.strong ≡ z.preceding.strong
  base_x : is_separator_class x.preceding.base ≡ true
  base_z : z.preceding.base ≡ ON
  before_x : is_calm x.before ≡ true
  decided_x : is_calm x.decided ≡ true
  before_z : is_calm z.before ≡ true
  decided_z : is_calm z.decided ≡ true

separator_taken : (d : Class) → is_separator_class d ≡ true → by_w1 d NSM ≡ d
separator_taken ES h = refl
separator_taken CS h = refl
separator_taken d h = cc

separator_no_strong : (d : Class) → is_separator_class d ≡ true → is_strong d ≡ false
separator_no_strong ES h = refl
separator_no_strong CS h = refl
separator_no_strong d h = cc

separator_stays : (strong d : Class) → is_separator_class d ≡ true → by_w3 (by_w2 strong d) ≡ d
separator_stays strong ES h = ap by_w3 (w2_stays strong ES refl)
separator_stays strong CS h = ap by_w3 (w2_stays strong CS refl)
separator_stays strong d h = cc

separator_w4 : (b s d n a : Class) → is_separator_class d ≡ true → is_calm b ≡ true → by_w4_w5 b s d n a ≡ d
separator_w4 b s ES n a h g = w4_calm b ES n g
separator_w4 b s CS n a h g = w4_calm b CS n g
separator_w4 b s d n a h g = cc

-- a mark after a separator
module _ (x : Context) (base : is_separator_class x.preceding.base ≡ true) (calm : is_calm x.before ≡ true) (cs : List Class) where
  mark_past : preceding_past x.preceding NSM ≡ x.preceding
  mark_past =
      ap (λ (d : Class). record { base = x.preceding.base; strong = if is_strong d then d else x.preceding.strong }) (separator_taken x.preceding.base base)
      ∙ ap (λ (b : Bool). record { base = x.preceding.base; strong = if b then x.preceding.base else x.preceding.strong }) (separator_no_strong x.preceding.base base)

  mark_w3 : by_w1_to_w3 x.preceding NSM ≡ x.preceding.base
  mark_w3 = ap (λ (d : Class). by_w3 (by_w2 x.preceding.strong d)) (separator_taken x.preceding.base base) ∙ separator_stays x.preceding.strong x.preceding.base base

  mark_settles : by_w1_to_w5 x NSM cs ≡ x.preceding.base
  mark_settles =
      let n : Class = first_class is_any (all_by_w1_to_w3 (preceding_past x.preceding NSM) cs) ON in
      let a : Class = first_class is_no_terminator (all_by_w1_to_w3 (preceding_past x.preceding NSM) cs) ON in
      ap (λ (d : Class). by_w4_w5 x.before x.decided d n a) mark_w3 ∙ separator_w4 x.before x.decided x.preceding.base n a base calm

  mark_becomes : by_context x NSM cs ≡ ON
  mark_becomes =
      ap (λ (s : Class). by_w7 (preceding_past x.preceding NSM).strong (by_w6 s)) mark_settles ∙ separator_w6 (preceding_past x.preceding NSM).strong x.preceding.base base

-- a mark after a neutral
module _ (z : Context) (base : z.preceding.base ≡ ON) (cs : List Class) where
  neutral_mark_past : preceding_past z.preceding NSM ≡ z.preceding
  neutral_mark_past = ap (λ (b : Class). record { base = z.preceding.base; strong = if is_strong (by_w1 b NSM) then by_w1 b NSM else z.preceding.strong }) base

  neutral_mark_w3 : by_w1_to_w3 z.preceding NSM ≡ ON
  neutral_mark_w3 = ap (λ (b : Class). by_w3 (by_w2 z.preceding.strong (by_w1 b NSM))) base ∙ ap by_w3 (w2_stays z.preceding.strong ON refl)

  neutral_mark_settles : by_w1_to_w5 z NSM cs ≡ ON
  neutral_mark_settles =
      ap (λ (d : Class). by_w4_w5 z.before z.decided d (first_class is_any (all_by_w1_to_w3 (preceding_past z.preceding NSM) cs) ON) (first_class is_no_terminator (all_by_w1_to_w3 (preceding_past z.preceding NSM) cs) ON)) neutral_mark_w3

  neutral_mark_becomes : by_context z NSM cs ≡ ON
  neutral_mark_becomes = ap (λ (s : Class). by_w7 (preceding_past z.preceding NSM).strong (by_w6 s)) neutral_mark_settles ∙ w7_stays (preceding_past z.preceding NSM).strong ON refl

marked_alike : (x z : Context) → MarkedAlike x z → (cs : List Class) → W x cs ≡ W z cs
marked_alike x z m [] = refl
marked_alike x z m (NSM ∷ cs) =
    let px = mark_past x m.base_x m.before_x cs in
    let sx = mark_settles x m.base_x m.before_x cs in
    let wx = mark_w3 x m.base_x m.before_x cs in
    let pz = neutral_mark_past z m.base_z cs in
    let sz = neutral_mark_settles z m.base_z cs in
    let wz = neutral_mark_w3 z m.base_z cs in
    let calm_base : is_calm x.preceding.base ≡ true = separator_calm x.preceding.base m.base_x in
    let next : MarkedAlike (context_past x NSM cs) (context_past z NSM cs) = record {
      strong = ap (λ (p : Preceding). p.strong) px ∙ m.strong ∙ sym (ap (λ (p : Preceding). p.strong) pz);
      base_x = m.base_x;
      base_z = m.base_z;
      before_x = ap is_calm wx ∙ calm_base;
      decided_x = ap is_calm sx ∙ calm_base;
      before_z = ap is_calm wz;
      decided_z = ap is_calm sz;
    } in
    ap (λ (v : Class). v ∷ W (context_past x NSM cs) cs) (mark_becomes x m.base_x m.before_x cs ∙ sym (neutral_mark_becomes z m.base_z cs))
    ∙ ap (λ (ds : List Class). by_context z NSM cs ∷ ds) (marked_alike (context_past x NSM cs) (context_past z NSM cs) next cs)
marked_alike x z m (c ∷ cs) =
    next_alike x z m.strong (c ∷ cs) refl
    (λ n a. let d : Class = by_w3 (by_w2 x.preceding.strong c) in calm_w4 x.before x.decided d n a m.before_x m.decided_x ∙ sym (calm_w4 z.before z.decided d n a m.before_z m.decided_z))

separator_base : (f : Preceding) (d : Class) → is_separator_class d ≡ true → is_separator_class (preceding_past f d).base ≡ true
separator_base f ES h = refl
separator_base f CS h = refl
separator_base f d h = cc

separator_good : (y : Context) (d : Class) (cs : List Class) → is_separator_class d ≡ true →
    by_w4 y.before d (first_class is_any (all_by_w1_to_w3 (preceding_past y.preceding d) cs) ON) ≡ d →
    (by_context y d cs ≡ by_context y ON cs) × (W (context_past y d cs) cs ≡ W (context_past y ON cs) cs)
separator_good y d cs h e =
    let settles : by_w1_to_w5 y d cs ≡ d = separator_settles y d cs h e in
    let here : by_context y d cs ≡ ON = ap (λ (s : Class). by_w7 (preceding_past y.preceding d).strong (by_w6 s)) settles ∙ separator_w6 (preceding_past y.preceding d).strong d h in
    let x : Context = context_past y d cs in
    let z : Context = context_past y ON cs in
    let alike : MarkedAlike (context_past y d cs) (context_past y ON cs) = record {
      strong = separator_strong y.preceding d h;
      base_x = separator_base y.preceding d h;
      base_z = refl;
      before_x = ap is_calm (separator_w3 y.preceding d h) ∙ separator_calm d h;
      decided_x = ap is_calm settles ∙ separator_calm d h;
      before_z = ap is_calm (quiet_w3 y.preceding ON refl);
      decided_z = ap is_calm (decided_plain y ON cs refl);
    } in (here ∙ sym (neutral_given y cs), marked_alike x z alike cs)

rest-next : (k : ℕ) (cs : List Class) → class_at (rest_at k cs) 0 ≡ class_at cs (suc k)
rest-next k [] = refl
rest-next zero (c ∷ cs) = refl
rest-next (suc k) (c ∷ cs) = rest-next k cs

quiet_firm : (c : Class) → is_quiet c ≡ true → is_firm c ≡ true
quiet_firm EN h = refl
quiet_firm AN h = refl
quiet_firm c h = h

-- CS or ES after a letter or a neutral: a neutral
pub separator_is_neutral : (sos : Class) (k : ℕ) (d : Class) (cs : List Class) → is_separator_class d ≡ true → is_quiet (class_at cs k) ≡ true →
    after_weak sos (put k d cs) ≡ after_weak sos (put k ON cs)
separator_is_neutral sos k d cs h quiet =
    let c : Class = class_at cs k in
    after_weak-replaced sos k d ON cs (quiet_firm c quiet) (λ y f decided g.
    let b : is_quiet y.before ≡ true = ap is_quiet (g.1.0 ∙ quiet_w3 g.0 c quiet) ∙ quiet_by_w3 c quiet in
    separator_good y d (rest_at k cs) h
    (w4_calm y.before d (first_class is_any (all_by_w1_to_w3 (preceding_past y.preceding d) (rest_at k cs)) ON) (quiet_calm y.before b)))

no_number_w3 : (c : Class) → is_no_number c ≡ true → is_no_number (by_w3 c) ≡ true
no_number_w3 AL h = refl
no_number_w3 c h = h

no_number_past_w3 : (f : Preceding) (c : Class) → is_no_number c ≡ true → is_no_number (by_w1_to_w3 f c) ≡ true
no_number_past_w3 f EN h = cc
no_number_past_w3 f NSM h = cc
no_number_past_w3 f c h = ap (λ (d : Class). is_no_number (by_w3 d)) (w2_stays f.strong c refl) ∙ no_number_w3 c h

w4_next : (before d next : Class) → is_separator_class d ≡ true → is_no_number next ≡ true → by_w4 before d next ≡ d
w4_next EN ES EN h g = cc
w4_next EN ES next h g = refl
w4_next EN CS EN h g = cc
w4_next EN CS next h g = refl
w4_next AN CS AN h g = cc
w4_next AN CS next h g = refl
w4_next before d next h g = refl

next_no_number : (f : Preceding) (cs : List Class) → is_no_number (class_at cs 0) ≡ true → is_no_number (first_class is_any (all_by_w1_to_w3 f cs) ON) ≡ true
next_no_number f [] h = refl
next_no_number f (c ∷ cs) h = no_number_past_w3 f c h

-- CS or ES after a letter, a number or a neutral, and before no number and no mark: a neutral
pub separator_ends : (sos : Class) (k : ℕ) (d : Class) (cs : List Class) → is_separator_class d ≡ true → is_firm (class_at cs k) ≡ true → is_no_number (class_at cs (suc k)) ≡ true →
    after_weak sos (put k d cs) ≡ after_weak sos (put k ON cs)
separator_ends sos k d cs h firm next =
    let c : Class = class_at cs k in
    let none : is_no_number (class_at (rest_at k cs) 0) ≡ true = ap is_no_number (rest-next k cs) ∙ next in
    after_weak-replaced sos k d ON cs firm (λ y f decided g.
    separator_good y d (rest_at k cs) h
    (w4_next y.before d (first_class is_any (all_by_w1_to_w3 (preceding_past y.preceding d) (rest_at k cs)) ON) h (next_no_number (preceding_past y.preceding d) (rest_at k cs) none)))

still_apart : (c : Class) → is_still c ≡ true → is_apart c ≡ true
still_apart NSM h = cc
still_apart ES h = cc
still_apart CS h = cc
still_apart ET h = cc
still_apart c h = refl

still_ahead : (f : Preceding) (c d : Class) → is_still c ≡ true → by_w5 ON (if is_no_terminator (by_w1_to_w3 f c) then by_w1_to_w3 f c else d) ≡ ET
still_ahead f AN d h = ap (λ (v : Class). by_w5 ON (if is_no_terminator (by_w3 v) then by_w3 v else d)) (w2_stays f.strong AN refl)
still_ahead f L d h = ap (λ (v : Class). by_w5 ON (if is_no_terminator v then v else d)) (quiet_w3 f L refl)
still_ahead f R d h = ap (λ (v : Class). by_w5 ON (if is_no_terminator v then v else d)) (quiet_w3 f R refl)
still_ahead f AL d h = ap (λ (v : Class). by_w5 ON (if is_no_terminator v then v else d)) (quiet_w3 f AL refl)
still_ahead f S d h = ap (λ (v : Class). by_w5 ON (if is_no_terminator v then v else d)) (quiet_w3 f S refl)
still_ahead f WS d h = ap (λ (v : Class). by_w5 ON (if is_no_terminator v then v else d)) (quiet_w3 f WS refl)
still_ahead f ON d h = ap (λ (v : Class). by_w5 ON (if is_no_terminator v then v else d)) (quiet_w3 f ON refl)
still_ahead f c d h = cc

still_terminator : (f : Preceding) (cs : List Class) → is_still (class_at cs 0) ≡ true → by_w5 ON (first_class is_no_terminator (all_by_w1_to_w3 f cs) ON) ≡ ET
still_terminator f [] h = refl
still_terminator f (c ∷ cs) h = still_ahead f c (first_class is_no_terminator (all_by_w1_to_w3 (preceding_past f c) cs) ON) h

terminator_good : (y : Context) (cs : List Class) → is_quiet y.decided ≡ true → is_still (class_at cs 0) ≡ true →
    (by_context y ET cs ≡ by_context y ON cs) × (W (context_past y ET cs) cs ≡ W (context_past y ON cs) cs)
terminator_good y cs quiet still =
    let f : Preceding = preceding_past y.preceding ET in
    let n : Class = first_class is_any (all_by_w1_to_w3 f cs) ON in
    let a : Class = first_class is_no_terminator (all_by_w1_to_w3 f cs) ON in
    let settles : by_w1_to_w5 y ET cs ≡ ET =
    ap (λ (c : Class). by_w4_w5 y.before y.decided (by_w3 c) n a) (w2_stays y.preceding.strong ET refl) ∙ w5_calm y.decided a (quiet_calm y.decided quiet) ∙ still_terminator f cs still in
    let here : by_context y ET cs ≡ ON = ap (λ (s : Class). by_w7 y.preceding.strong (by_w6 s)) settles ∙ w7_stays y.preceding.strong ON refl in
    let x : Context = context_past y ET cs in
    let z : Context = context_past y ON cs in
    let apart : is_apart (class_at cs 0) ≡ true = still_apart (class_at cs 0) still in (
      here ∙ sym (neutral_given y cs),
      next_alike x z refl cs (apart_base (class_at cs 0) apart) (λ n a. apart_w4 x.before x.decided z.before z.decided x.preceding.strong (class_at cs 0) n a apart),
    )

pub terminator_is_neutral : (sos : Class) (k : ℕ) (cs : List Class) → is_quiet (class_at cs k) ≡ true → is_still (class_at cs (suc k)) ≡ true →
    after_weak sos (put k ET cs) ≡ after_weak sos (put k ON cs)
terminator_is_neutral sos k cs quiet still =
    let c : Class = class_at cs k in
    after_weak-replaced sos k ET ON cs (quiet_firm c quiet) (λ y f decided g.
    terminator_good y (rest_at k cs) (ap is_quiet (sym decided ∙ g.1.0 ∙ quiet_w3 g.0 c quiet) ∙ quiet_by_w3 c quiet) (ap is_still (rest-next k cs) ∙ still))

-- EN after a letter or a neutral where the last strong class is L, and before no mark, separator or terminator: an L
number_given : (y : Context) (cs : List Class) → y.preceding.strong ≡ L → by_context y EN cs ≡ L
number_given y cs e =
    let n : Class = first_class is_any (all_by_w1_to_w3 (preceding_past y.preceding EN) cs) ON in
    let a : Class = first_class is_no_terminator (all_by_w1_to_w3 (preceding_past y.preceding EN) cs) ON in
    ap (λ (s : Class). by_w7 s (by_w6 (by_w4_w5 y.before y.decided (by_w3 (by_w2 s EN)) n a))) e

letter_given : (y : Context) (cs : List Class) → by_context y L cs ≡ L
letter_given y cs = ap (λ (s : Class). by_w7 L (by_w6 s)) (decided_plain y L cs refl)

pub number_is_letter : (sos : Class) (k : ℕ) (cs : List Class) → is_quiet (class_at cs k) ≡ true → (known_past (preceding_of sos) k cs).strong ≡ L → is_apart (class_at cs (suc k)) ≡ true →
    after_weak sos (put k EN cs) ≡ after_weak sos (put k L cs)
number_is_letter sos k cs quiet strong next =
    let c : Class = class_at cs k in
    let ds : List Class = rest_at k cs in
    let apart : is_apart (class_at (rest_at k cs) 0) ≡ true = ap is_apart (rest-next k cs) ∙ next in
    after_weak-replaced sos k EN L cs (quiet_firm c quiet) (λ y f decided g.
    let s : y.preceding.strong ≡ L = ap (λ (p : Preceding). p.strong) f ∙ strong in
    let x : Context = context_past y EN ds in
    let z : Context = context_past y L ds in (
      number_given y ds s ∙ sym (letter_given y ds),
      next_alike x z s ds (apart_base (class_at ds 0) apart) (λ n a. apart_w4 x.before x.decided z.before z.decided x.preceding.strong (class_at ds 0) n a apart),
    ))

-- one CS between two EN: an EN; between two AN: an AN
cs_en : (strong : Class) → by_w4 (by_w3 (by_w2 strong EN)) CS (by_w3 (by_w2 strong EN)) ≡ by_w3 (by_w2 strong EN)
cs_en AL = refl
cs_en strong = refl

between_en : (y : Context) (g : Preceding) (ds : List Class) → class_at ds 0 ≡ EN → y.before ≡ by_w1_to_w3 g EN → y.preceding ≡ preceding_past g EN →
    (by_context y CS ds ≡ by_context y EN ds) × (W (context_past y CS ds) ds ≡ W (context_past y EN ds) ds)
between_en y g [] h before known = cc
between_en y g (EN ∷ ds) h before known =
    let strong : y.preceding.strong ≡ g.strong = ap (λ (p : Preceding). p.strong) known in
    let v : Class = by_w3 (by_w2 y.preceding.strong EN) in
    let b : y.before ≡ by_w3 (by_w2 y.preceding.strong EN) = before ∙ ap (λ (s : Class). by_w3 (by_w2 s EN)) (sym strong) in
    let a : Class = first_class is_no_terminator (all_by_w1_to_w3 (preceding_past y.preceding CS) (EN ∷ ds)) ON in
    let settles : by_w1_to_w5 y CS (EN ∷ ds) ≡ by_w3 (by_w2 y.preceding.strong EN) =
    ap (λ (c : Class). by_w4_w5 y.before y.decided (by_w3 c) v a) (w2_stays y.preceding.strong CS refl)
    ∙ ap (λ (c : Class). by_w4 c CS v) b ∙ cs_en y.preceding.strong in
    let same : by_w1_to_w5 y CS (EN ∷ ds) ≡ by_w1_to_w5 y EN (EN ∷ ds) = settles ∙ sym (firm_decided y EN (EN ∷ ds) refl) in
    let x : Context = context_past y CS (EN ∷ ds) in
    let z : Context = context_past y EN (EN ∷ ds) in (
      ap (λ (s : Class). by_w7 y.preceding.strong (by_w6 s)) same,
      next_alike x z refl (EN ∷ ds) refl (λ n a. apart_w4 x.before x.decided z.before z.decided x.preceding.strong EN n a refl),
    )
between_en y g (d ∷ ds) h before known = cc

between_an : (y : Context) (g : Preceding) (ds : List Class) → class_at ds 0 ≡ AN → y.before ≡ by_w1_to_w3 g AN → y.preceding ≡ preceding_past g AN →
    (by_context y CS ds ≡ by_context y AN ds) × (W (context_past y CS ds) ds ≡ W (context_past y AN ds) ds)
between_an y g [] h before known = cc
between_an y g (AN ∷ ds) h before known =
    let an : (s : Class) → by_w3 (by_w2 s AN) ≡ AN = λ s. ap by_w3 (w2_stays s AN refl) in
    let b : y.before ≡ AN = before ∙ an g.strong in
    let a : Class = first_class is_no_terminator (all_by_w1_to_w3 (preceding_past y.preceding CS) (AN ∷ ds)) ON in
    let settles : by_w1_to_w5 y CS (AN ∷ ds) ≡ AN =
    ap (λ (c : Class). by_w4_w5 y.before y.decided (by_w3 c) (by_w3 (by_w2 y.preceding.strong AN)) a) (w2_stays y.preceding.strong CS refl)
    ∙ ap (λ (c : Class). by_w4 y.before CS c) (an y.preceding.strong) ∙ ap (λ (c : Class). by_w4 c CS AN) b in
    let same : by_w1_to_w5 y CS (AN ∷ ds) ≡ by_w1_to_w5 y AN (AN ∷ ds) = settles ∙ sym (firm_decided y AN (AN ∷ ds) refl ∙ an y.preceding.strong) in
    let x : Context = context_past y CS (AN ∷ ds) in
    let z : Context = context_past y AN (AN ∷ ds) in (
      ap (λ (s : Class). by_w7 y.preceding.strong (by_w6 s)) same,
      next_alike x z refl (AN ∷ ds) refl (λ n a. apart_w4 x.before x.decided z.before z.decided x.preceding.strong AN n a refl),
    )
between_an y g (d ∷ ds) h before known = cc

-- the class at k and the next one are this number
pub record AreBoth (n : Class) (k : ℕ) (cs : List Class) : Type 0 where
  pub here : class_at cs k ≡ n
  pub next : class_at cs (suc k) ≡ n

pub separator_joins_en : (sos : Class) (k : ℕ) (cs : List Class) → AreBoth EN k cs → after_weak sos (put k CS cs) ≡ after_weak sos (put k EN cs)
separator_joins_en sos k cs both =
    after_weak-replaced sos k CS EN cs (ap is_firm both.here) (λ y f decided g.
    between_en y g.0 (rest_at k cs) (rest-next k cs ∙ both.next) (g.1.0 ∙ ap (by_w1_to_w3 g.0) both.here) (f ∙ g.1.1 ∙ ap (preceding_past g.0) both.here))

pub separator_joins_an : (sos : Class) (k : ℕ) (cs : List Class) → AreBoth AN k cs → after_weak sos (put k CS cs) ≡ after_weak sos (put k AN cs)
separator_joins_an sos k cs both =
    after_weak-replaced sos k CS AN cs (ap is_firm both.here) (λ y f decided g.
    between_an y g.0 (rest_at k cs) (rest-next k cs ∙ both.next) (g.1.0 ∙ ap (by_w1_to_w3 g.0) both.here) (f ∙ g.1.1 ∙ ap (preceding_past g.0) both.here))

-- ET after an EN that W2 leaves, and before no mark and no separator: an EN
abbrev pub is_close : Class → Bool
is_close NSM = false
is_close ES = false
is_close CS = false
is_close c = true

close_base : (c : Class) → is_close c ≡ true → is_nonspacing c ≡ false
close_base NSM h = cc
close_base c h = refl

close_w4 : (b b' s s' strong c n a : Class) → s ≡ s' → is_close c ≡ true → by_w4_w5 b s (by_w3 (by_w2 strong c)) n a ≡ by_w4_w5 b' s' (by_w3 (by_w2 strong c)) n a
close_w4 b b' s s' strong ET n a e h =
    ap (λ (d : Class). by_w4_w5 b s (by_w3 d) n a) (w2_stays strong ET refl) ∙ ap (λ (t : Class). by_w5_after t a) e ∙ sym (ap (λ (d : Class). by_w4_w5 b' s' (by_w3 d) n a) (w2_stays strong ET refl))
close_w4 b b' s s' strong NSM n a e h = cc
close_w4 b b' s s' strong ES n a e h = cc
close_w4 b b' s s' strong CS n a e h = cc
close_w4 b b' s s' strong c n a e h = apart_w4 b s b' s' strong c n a refl

pub terminator_joins : (sos : Class) (k : ℕ) (cs : List Class) → class_at cs k ≡ EN → by_w2 (known_past (preceding_of sos) k cs).strong EN ≡ EN → is_close (class_at cs (suc k)) ≡ true →
    after_weak sos (put k ET cs) ≡ after_weak sos (put k EN cs)
terminator_joins sos k cs here stays next =
    let ds : List Class = rest_at k cs in
    let close : is_close (class_at (rest_at k cs) 0) ≡ true = ap is_close (rest-next k cs) ∙ next in
    after_weak-replaced sos k ET EN cs (ap is_firm here) (λ y f decided g.
    let s : by_w2 y.preceding.strong EN ≡ EN = ap (λ (p : Preceding). by_w2 p.strong EN) f ∙ stays in
    let same_strong : y.preceding.strong ≡ g.0.strong = ap (λ (p : Preceding). p.strong) (f ∙ g.1.1 ∙ ap (preceding_past g.0) here) in
    let known : y.decided ≡ EN =
    sym decided ∙ g.1.0 ∙ ap (by_w1_to_w3 g.0) here ∙ ap (λ (t : Class). by_w3 (by_w2 t EN)) (sym same_strong) ∙ ap by_w3 s in
    let n : Class = first_class is_any (all_by_w1_to_w3 (preceding_past y.preceding ET) ds) ON in
    let a : Class = first_class is_no_terminator (all_by_w1_to_w3 (preceding_past y.preceding ET) ds) ON in
    let settles : by_w1_to_w5 y ET ds ≡ EN =
    ap (λ (c : Class). by_w4_w5 y.before y.decided (by_w3 c) n a) (w2_stays y.preceding.strong ET refl) ∙ ap (λ (t : Class). by_w5_after t a) known in
    let other : by_w1_to_w5 y EN ds ≡ EN = firm_decided y EN ds refl ∙ ap by_w3 s in
    let x : Context = context_past y ET ds in
    let z : Context = context_past y EN ds in (
      ap (λ (v : Class). by_w7 y.preceding.strong (by_w6 v)) (settles ∙ sym other),
      next_alike x z refl ds (close_base (class_at ds 0) close)
          (λ n a. close_w4 x.before z.before x.decided z.decided x.preceding.strong (class_at ds 0) n a (settles ∙ sym other) close),
    ))
