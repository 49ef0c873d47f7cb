-- W1 to W7 change nothing if no class is one that they can change.
use Rattle.std.specs.Prelude.{ℕ, true, false, ◌<◌, ◌≡◌, List, [], ◌∷◌, length, slice_index, refl}
use Rattle.std.specs.List.{list_any}
use Rattle.std.proofs.Common.{arith, ap, ◌∙◌, inl, inr}
use Rattle.std.proofs.lemmas.Bool.{cases_Bool, or_parts}
use Rattle.std.proofs.lemmas.List.{get_or-map, get_or_past}
use Rattle.std.proofs.lemmas.List.Folds.{list_any_at, list_any_none}
use Rattle.units.specs.Classes.{class_at, classes_at, classes_of}
use Rattle.units.specs.Weak.{by_w1, by_w2, by_w3, by_w6, by_w7, after_weak}
use Rattle.units.specs.declared.bracket.Unit.{Unit as BidiUnit}
use Rattle.units.specs.declared.class.Class.{Class}
use Rattle.units.specs.declared.class.Class.TheVariants.{L, R, AL, EN, ES, ET, CS, NSM, BN}
use Rattle.resolve.specs.Contexts.{context_at_start, by_w4_w5, context_past, by_context}
use Rattle.resolve.specs.Wanted.{may_weaken, is_imposed, AreOwn}
use Rattle.resolve.specs.declared.weak.Context.{Context}
use Rattle.resolve.proofs.Gathered.{contains_index, length-classes_at}
use Rattle.resolve.proofs.StatePasses.{after_state_pass}
use Rattle.resolve.proofs.WeakPasses.{after_weak-after_state_pass}

pub by_w1-idle : (base c : Class) → may_weaken c ≡ false → by_w1 base c ≡ c
by_w1-idle base NSM h = cc
by_w1-idle base c h = refl

pub by_w2-idle : (strong c : Class) → may_weaken c ≡ false → by_w2 strong c ≡ c
by_w2-idle AL EN h = cc
by_w2-idle AL c h = refl
by_w2-idle strong c h = refl

pub by_w3-idle : (c : Class) → may_weaken c ≡ false → by_w3 c ≡ c
by_w3-idle AL h = cc
by_w3-idle c h = refl

pub by_w4_w5-idle : (before decided c next ahead : Class) → may_weaken c ≡ false →
    by_w4_w5 before decided c next ahead ≡ c
by_w4_w5-idle before decided ES next ahead h = cc
by_w4_w5-idle before decided CS next ahead h = cc
by_w4_w5-idle before decided ET next ahead h = cc
by_w4_w5-idle before decided c next ahead h = refl

by_w6-idle : (c : Class) → may_weaken c ≡ false → by_w6 c ≡ c
by_w6-idle ES h = cc
by_w6-idle ET h = cc
by_w6-idle CS h = cc
by_w6-idle c h = refl

by_w7-idle : (strong c : Class) → may_weaken c ≡ false → by_w7 strong c ≡ c
by_w7-idle L EN h = cc
by_w7-idle L c h = refl
by_w7-idle strong c h = refl

pub by_context-idle : (x : Context) (c : Class) (cs : List Class) → may_weaken c ≡ false → by_context x c cs ≡ c
by_context-idle x c cs h = grind (arith, by_w1-idle, by_w2-idle, by_w3-idle, by_w4_w5-idle, by_w6-idle, by_w7-idle)

after_state_pass-idle : (x : Context) (cs : List Class) → list_any may_weaken cs ≡ false →
    after_state_pass by_context context_past x cs ≡ cs
after_state_pass-idle x [] none = refl
after_state_pass-idle x (c ∷ cs) none =
    grind (arith, or_parts, by_context-idle, after_state_pass-idle (context_past x c cs) cs)

-- W1 to W7 over such classes
pub after_weak-idle : (sos : Class) (cs : List Class) → list_any may_weaken cs ≡ false → after_weak sos cs ≡ cs
after_weak-idle sos cs none = after_weak-after_state_pass sos cs ∙ after_state_pass-idle (context_at_start sos) cs none

-- a class that replaces own ones is no such class
imposed-idle : (c : Class) → is_imposed c ≡ true → may_weaken c ≡ false
imposed-idle L h = refl
imposed-idle R h = refl
imposed-idle BN h = refl
imposed-idle c h = cc

own-idle : (cs : List Class) (p : ℕ) → list_any may_weaken cs ≡ false → may_weaken (class_at cs p) ≡ false
own-idle cs p none = grind (arith, list_any_at, get_or_past)

-- the current classes at a sequence's positions, if no own class of the paragraph is such a class
pub current-idle : (us : List BidiUnit) (before : List Class) (ps : List ℕ) → AreOwn ps us before →
    list_any may_weaken (classes_of us) ≡ false →
    list_any may_weaken (classes_at before ps) ≡ false
current-idle us before ps own none = list_any_none may_weaken (classes_at before ps) (λ k d lt.
    let h : k < length ps = omega (arith, length-classes_at before ps) in
    let p : ℕ = slice_index ps k in
    let here : may_weaken (class_at before p) ≡ false = elim (cases_Bool (is_imposed (class_at before p))) [
      | inl imposed ↦ imposed-idle (class_at before p) imposed
      | inr not_imposed ↦ ap may_weaken (own p (contains_index ps k h) not_imposed) ∙ own-idle (classes_of us) p none
    ] in
    ap may_weaken (get_or-map (class_at before) ps k 0 d h) ∙ here)
