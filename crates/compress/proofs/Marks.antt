-- W1 to W7 where a mark occurs after a class that it takes.
use Rattle.std.specs.Prelude.{ℕ, zero, suc, true, ◌≡◌, List, [], ◌∷◌, if◌then◌else◌, refl}
use Rattle.std.proofs.Common.{ap, sym, ◌∙◌}
use Rattle.units.specs.Classes.{class_at, is_base}
use Rattle.units.specs.Weak.{by_w1, is_any, after_w1, after_w2, after_w3, after_w4, after_w5, after_w6, after_w7, after_weak}
use Rattle.units.specs.declared.class.Class.{Class}
use Rattle.units.specs.declared.class.Class.TheVariants.{L, R, AL, EN, ET, AN, WS, ON, S, NSM}
use Rattle.compress.specs.Spread.{put, twice, may_repeat}
use Rattle.compress.proofs.Repeats.{after_weak-twice}
use Rattle.resolve.proofs.Sides.{along, sides-is}

-- the mark becomes what it follows
mark_local : (base c : Class) (cs : List Class) → may_repeat c ≡ true → along by_w1 is_base base (c ∷ NSM ∷ cs) ≡ along by_w1 is_base base (c ∷ c ∷ cs)
mark_local base L cs h = refl
mark_local base R cs h = refl
mark_local base AL cs h = refl
mark_local base EN cs h = refl
mark_local base ET cs h = refl
mark_local base AN cs h = refl
mark_local base S cs h = refl
mark_local base WS cs h = refl
mark_local base ON cs h = refl
mark_local base c cs h = cc

along-mark : (base : Class) (k : ℕ) (cs : List Class) → may_repeat (class_at cs k) ≡ true → along by_w1 is_base base (put k NSM cs) ≡ along by_w1 is_base base (twice k cs)
along-mark base k [] h = refl
along-mark base zero (c ∷ cs) h = mark_local base c cs h
along-mark base (suc k) (c ∷ cs) h = ap (λ (ds : List Class). by_w1 base c ∷ ds) (along-mark (if is_base c then c else base) k cs h)

after_w1-mark : (sos : Class) (k : ℕ) (cs : List Class) → may_repeat (class_at cs k) ≡ true → after_w1 sos (put k NSM cs) ≡ after_w1 sos (twice k cs)
after_w1-mark sos k cs h =
    sides-is (λ b c a. by_w1 b c) is_base is_any sos ON (put k NSM cs) ∙ along-mark sos k cs h ∙ sym (sides-is (λ b c a. by_w1 b c) is_base is_any sos ON (twice k cs))

-- W1 to W7
pub after_weak-mark : (sos : Class) (k : ℕ) (cs : List Class) → may_repeat (class_at cs k) ≡ true → after_weak sos (put k NSM cs) ≡ twice k (after_weak sos cs)
unfolding after_weak
after_weak-mark sos k cs h =
    ap (λ (xs : List Class). after_w7 sos (after_w6 (after_w5 (after_w4 (after_w3 (after_w2 sos xs)))))) (after_w1-mark sos k cs h)
    ∙ after_weak-twice sos k cs h
