-- W1 to W7 where a neutral occurs after a letter or a neutral, and no mark after it: they make of all others what they
-- make of them without it.
use Rattle.std.specs.Prelude.{ℕ, zero, suc, Bool, true, false, ◌≡◌, List, [], ◌∷◌, if◌then◌else◌, refl}
use Rattle.std.proofs.Common.{ap, sym, ◌∙◌}
use Rattle.std.proofs.lemmas.Bool.{cond-true}
use Rattle.units.specs.Classes.{class_at, is_nonspacing, is_strong}
use Rattle.units.specs.Weak.{by_w2, by_w3, by_w4, by_w6, by_w7, is_any, after_weak}
use Rattle.units.specs.declared.class.Class.{Class}
use Rattle.units.specs.declared.class.Class.TheVariants.{L, R, AL, EN, ES, CS, ET, AN, WS, ON, S, NSM}
use Rattle.resolve.specs.Ahead.{first_class}
use Rattle.resolve.specs.Contexts.{context_at_start, by_w5_after, by_w4_w5, by_w1_to_w5, context_past, by_context}
use Rattle.resolve.specs.declared.preceding.Preceding.{Preceding}
use Rattle.resolve.specs.declared.weak.Context.{Context}
use Rattle.compress.specs.Spread.{put, is_space, is_quiet}
use Rattle.resolve.specs.Repeats.{is_plain}
use Rattle.resolve.specs.ThroughW3.{by_w1_to_w3, preceding_past, all_by_w1_to_w3, is_no_terminator}
use Rattle.compress.proofs.Repeats.{is_en, w2_stays, decided_plain, weak_given, weak_past}
use Rattle.resolve.proofs.StatePasses.{after_state_pass}
use Rattle.resolve.proofs.WeakPasses.{after_weak-after_state_pass}

pub quiet_plain : (c : Class) → is_quiet c ≡ true → is_plain c ≡ true
quiet_plain L h = refl
quiet_plain R h = refl
quiet_plain AL h = refl
quiet_plain S h = refl
quiet_plain WS h = refl
quiet_plain ON h = refl
quiet_plain c h = cc

space_quiet : (c : Class) → is_space c ≡ true → is_quiet c ≡ true
space_quiet S h = refl
space_quiet WS h = refl
space_quiet ON h = refl
space_quiet c h = cc

pub w7_stays : (strong c : Class) → is_en c ≡ false → by_w7 strong c ≡ c
w7_stays L EN h = cc
w7_stays L c h = refl
w7_stays strong c h = refl

-- what W3 makes of a letter or a neutral
pub quiet_w3 : (f : Preceding) (c : Class) → is_quiet c ≡ true → by_w1_to_w3 f c ≡ by_w3 c
quiet_w3 f L h = ap by_w3 (w2_stays f.strong L refl)
quiet_w3 f R h = ap by_w3 (w2_stays f.strong R refl)
quiet_w3 f AL h = ap by_w3 (w2_stays f.strong AL refl)
quiet_w3 f S h = ap by_w3 (w2_stays f.strong S refl)
quiet_w3 f WS h = ap by_w3 (w2_stays f.strong WS refl)
quiet_w3 f ON h = ap by_w3 (w2_stays f.strong ON refl)
quiet_w3 f c h = cc

pub quiet_by_w3 : (c : Class) → is_quiet c ≡ true → is_quiet (by_w3 c) ≡ true
quiet_by_w3 L h = refl
quiet_by_w3 R h = refl
quiet_by_w3 AL h = refl
quiet_by_w3 S h = refl
quiet_by_w3 WS h = refl
quiet_by_w3 ON h = refl
quiet_by_w3 c h = cc

quiet_no_terminator : (c : Class) → is_quiet c ≡ true → is_no_terminator c ≡ true
quiet_no_terminator ET h = cc
quiet_no_terminator c h = refl

space_stays : (strong d : Class) → is_space d ≡ true → by_w7 strong (by_w6 (by_w3 d)) ≡ d
space_stays strong S h = w7_stays strong S refl
space_stays strong WS h = w7_stays strong WS refl
space_stays strong ON h = w7_stays strong ON refl
space_stays strong d h = cc

-- a look ahead sees nothing after a letter or a neutral
ahead-put : (test : Class → Bool) (f : Preceding) (k : ℕ) (d : Class) (cs : List Class) → ((c : Class) → is_quiet c ≡ true → test c ≡ true) →
    is_quiet (class_at cs k) ≡ true → first_class test (all_by_w1_to_w3 f (put k d cs)) ON ≡ first_class test (all_by_w1_to_w3 f cs) ON
ahead-put test f k d [] sees h = refl
ahead-put test f zero d (c ∷ cs) sees h =
    let t : test (by_w1_to_w3 f c) ≡ true = ap test (quiet_w3 f c h) ∙ sees (by_w3 c) (quiet_by_w3 c h) in
    let v : Class = by_w1_to_w3 f c in
    cond-true (test (by_w1_to_w3 f c)) v (first_class test (all_by_w1_to_w3 (preceding_past f c) (d ∷ cs)) ON) t
    ∙ sym (cond-true (test (by_w1_to_w3 f c)) v (first_class test (all_by_w1_to_w3 (preceding_past f c) cs) ON) t)
ahead-put test f (suc k) d (c ∷ cs) sees h =
    ap (λ (a : Class). if test (by_w1_to_w3 f c) then by_w1_to_w3 f c else a) (ahead-put test (preceding_past f c) k d cs sees h)

decided-put : (x : Context) (p : Class) (k : ℕ) (d : Class) (cs : List Class) → is_quiet (class_at cs k) ≡ true → by_w1_to_w5 x p (put k d cs) ≡ by_w1_to_w5 x p cs
decided-put x p k d cs h =
    let f : Preceding = preceding_past x.preceding p in
    ap (λ (n : Class). by_w4_w5 x.before x.decided (by_w1_to_w3 x.preceding p) n (first_class is_no_terminator (all_by_w1_to_w3 f (put k d cs)) ON)) (ahead-put is_any f k d cs (λ c h. refl) h)
    ∙ ap (λ (a : Class). by_w4_w5 x.before x.decided (by_w1_to_w3 x.preceding p) (first_class is_any (all_by_w1_to_w3 f cs) ON) a) (ahead-put is_no_terminator f k d cs quiet_no_terminator h)

-- after letters and neutrals W4 and W5 do alike
w4_quiet : (before c next : Class) → is_quiet before ≡ true → by_w4 before c next ≡ c
w4_quiet EN c next h = cc
w4_quiet AN c next h = cc
w4_quiet before c next h = refl

w5_quiet : (decided ahead : Class) → is_quiet decided ≡ true → by_w5_after decided ahead ≡ by_w5_after ON ahead
w5_quiet EN ahead h = cc
w5_quiet ET ahead h = cc
w5_quiet decided ahead h = refl

w4_w5_quiet : (before decided c next ahead : Class) → is_quiet before ≡ true → is_quiet decided ≡ true → by_w4_w5 before decided c next ahead ≡ by_w4_w5 ON ON c next ahead
w4_w5_quiet before decided ES next ahead h g = w4_quiet before ES next h
w4_w5_quiet before decided CS next ahead h g = w4_quiet before CS next h
w4_w5_quiet before decided ET next ahead h g = w5_quiet decided ahead g
w4_w5_quiet before decided c next ahead h g = refl

-- what is known after a class that is no mark
pub past_no_mark : (f : Preceding) (c : Class) → is_nonspacing c ≡ false → preceding_past f c ≡ record { base = c; strong = if is_strong c then c else f.strong }
past_no_mark f NSM h = cc
past_no_mark f c h = refl

pub w3_no_mark : (f : Preceding) (c : Class) → is_nonspacing c ≡ false → by_w1_to_w3 f c ≡ by_w3 (by_w2 f.strong c)
w3_no_mark f NSM h = cc
w3_no_mark f c h = refl

-- two that know the same strong class, and no number before
pub record Alike (x y : Context) : Type 0 where
  pub strong : x.preceding.strong ≡ y.preceding.strong
  pub before_x : is_quiet x.before ≡ true
  pub decided_x : is_quiet x.decided ≡ true
  pub before_y : is_quiet y.before ≡ true
  pub decided_y : is_quiet y.decided ≡ true

module _ (x y : Context) (a : Alike x y) (c : Class) (cs : List Class) (h : is_nonspacing c ≡ false) where
  alike_preceding : preceding_past x.preceding c ≡ preceding_past y.preceding c
  alike_preceding = past_no_mark x.preceding c h ∙ ap (λ (s : Class). record { base = c; strong = if is_strong c then c else s }) a.strong ∙ sym (past_no_mark y.preceding c h)

  alike_w3 : by_w1_to_w3 x.preceding c ≡ by_w1_to_w3 y.preceding c
  alike_w3 = w3_no_mark x.preceding c h ∙ ap (λ (s : Class). by_w3 (by_w2 s c)) a.strong ∙ sym (w3_no_mark y.preceding c h)

  abbrev decided_from : Class → Class → Class → Preceding → Class
  decided_from before decided d f =
      by_w4_w5 before decided d (first_class is_any (all_by_w1_to_w3 f cs) ON) (first_class is_no_terminator (all_by_w1_to_w3 f cs) ON)

  alike_decided : by_w1_to_w5 x c cs ≡ by_w1_to_w5 y c cs
  alike_decided =
      let fx : Preceding = preceding_past x.preceding c in
      let fy : Preceding = preceding_past y.preceding c in
      w4_w5_quiet x.before x.decided (by_w1_to_w3 x.preceding c) (first_class is_any (all_by_w1_to_w3 fx cs) ON) (first_class is_no_terminator (all_by_w1_to_w3 fx cs) ON) a.before_x a.decided_x
      ∙ ap (λ (d : Class). decided_from ON ON d fx) alike_w3
      ∙ ap (decided_from ON ON (by_w1_to_w3 y.preceding c)) alike_preceding
      ∙ sym (w4_w5_quiet y.before y.decided (by_w1_to_w3 y.preceding c) (first_class is_any (all_by_w1_to_w3 fy cs) ON) (first_class is_no_terminator (all_by_w1_to_w3 fy cs) ON) a.before_y a.decided_y)

  alike_past : context_past x c cs ≡ context_past y c cs
  alike_past = cc (alike_preceding, alike_w3, alike_decided)

  alike_given : by_context x c cs ≡ by_context y c cs
  alike_given =
      ap (λ (f : Preceding). by_w7 f.strong (by_w6 (by_w1_to_w5 x c cs))) alike_preceding
      ∙ ap (λ (s : Class). by_w7 (preceding_past y.preceding c).strong (by_w6 s)) alike_decided

alike_passed : (x y : Context) → Alike x y → (cs : List Class) → is_nonspacing (class_at cs 0) ≡ false → after_state_pass by_context context_past x cs ≡ after_state_pass by_context context_past y cs
alike_passed x y a [] h = refl
alike_passed x y a (c ∷ cs) h =
    ap (λ (v : Class). v ∷ after_state_pass by_context context_past (context_past x c cs) cs) (alike_given x y a c cs h)
    ∙ ap (λ (z : Context). by_context y c cs ∷ after_state_pass by_context context_past z cs) (alike_past x y a c cs h)

-- what is known after a letter or a neutral
quiet_before : (x : Context) (c : Class) (cs : List Class) → is_quiet c ≡ true → is_quiet (context_past x c cs).before ≡ true
quiet_before x c cs h = ap is_quiet (quiet_w3 x.preceding c h) ∙ quiet_by_w3 c h

quiet_decided : (x : Context) (c : Class) (cs : List Class) → is_quiet c ≡ true → is_quiet (context_past x c cs).decided ≡ true
quiet_decided x c cs h = ap is_quiet (decided_plain x c cs (quiet_plain c h)) ∙ quiet_by_w3 c h

space_strong : (f : Preceding) (d : Class) → is_space d ≡ true → (preceding_past f d).strong ≡ f.strong
space_strong f S h = refl
space_strong f WS h = refl
space_strong f ON h = refl
space_strong f d h = cc

space_local : (x : Context) (c d : Class) (cs : List Class) → is_quiet c ≡ true → is_space d ≡ true → is_nonspacing (class_at cs 0) ≡ false →
    after_state_pass by_context context_past x (c ∷ d ∷ cs) ≡ put 0 d (after_state_pass by_context context_past x (c ∷ cs))
space_local x c d cs quiet space mark =
    let same : by_w1_to_w5 x c (d ∷ cs) ≡ by_w1_to_w5 x c cs = decided_plain x c (d ∷ cs) (quiet_plain c quiet) ∙ sym (decided_plain x c cs (quiet_plain c quiet)) in
    let y : Context = context_past x c cs in
    let q : is_quiet d ≡ true = space_quiet d space in
    let here : by_context y d cs ≡ d =
    ap (λ (s : Class). by_w7 (preceding_past y.preceding d).strong (by_w6 s)) (decided_plain y d cs (quiet_plain d q)) ∙ space_stays (preceding_past y.preceding d).strong d space in
    let a : Alike (context_past y d cs) y = record {
      strong = space_strong y.preceding d space;
      before_x = quiet_before y d cs q;
      decided_x = quiet_decided y d cs q;
      before_y = quiet_before x c cs quiet;
      decided_y = quiet_decided x c cs quiet;
    } in
    ap (λ (v : Class). v ∷ after_state_pass by_context context_past (context_past x c (d ∷ cs)) (d ∷ cs)) (weak_given x c (d ∷ cs) cs same)
    ∙ ap (λ (z : Context). by_context x c cs ∷ after_state_pass by_context context_past z (d ∷ cs)) (weak_past x c (d ∷ cs) cs same)
    ∙ ap (λ (v : Class). by_context x c cs ∷ v ∷ after_state_pass by_context context_past (context_past y d cs) cs) here
    ∙ ap (λ (ds : List Class). by_context x c cs ∷ d ∷ ds) (alike_passed (context_past y d cs) y a cs mark)

space_passed : (x : Context) (k : ℕ) (d : Class) (cs : List Class) → is_quiet (class_at cs k) ≡ true → is_space d ≡ true → is_nonspacing (class_at cs (suc k)) ≡ false →
    after_state_pass by_context context_past x (put k d cs) ≡ put k d (after_state_pass by_context context_past x cs)
space_passed x k d [] quiet space mark = refl
space_passed x zero d (c ∷ cs) quiet space mark = space_local x c d cs quiet space mark
space_passed x (suc k) d (c ∷ cs) quiet space mark =
    let same : by_w1_to_w5 x c (put k d cs) ≡ by_w1_to_w5 x c cs = decided-put x c k d cs quiet in
    ap (λ (v : Class). v ∷ after_state_pass by_context context_past (context_past x c (put k d cs)) (put k d cs)) (weak_given x c (put k d cs) cs same)
    ∙ ap (λ (z : Context). by_context x c cs ∷ after_state_pass by_context context_past z (put k d cs)) (weak_past x c (put k d cs) cs same)
    ∙ ap (λ (ds : List Class). by_context x c cs ∷ ds) (space_passed (context_past x c cs) k d cs quiet space mark)

-- W1 to W7
pub after_weak-space : (sos : Class) (k : ℕ) (d : Class) (cs : List Class) → is_quiet (class_at cs k) ≡ true → is_space d ≡ true → is_nonspacing (class_at cs (suc k)) ≡ false →
    after_weak sos (put k d cs) ≡ put k d (after_weak sos cs)
after_weak-space sos k d cs quiet space mark =
    after_weak-after_state_pass sos (put k d cs) ∙ space_passed (context_at_start sos) k d cs quiet space mark ∙ ap (put k d) (sym (after_weak-after_state_pass sos cs))
