-- Passes of rules that read the class alone, or the nearest earlier class too.
use Rattle.std.specs.Prelude.{Bool, true, false, if◌then◌else◌, ℕ, ◌+◌, ◌<◌, ◌≡◌, List, length, map, slice_index, refl}
use Rattle.std.proofs.Common.{arith, ap, sym, ◌∙◌, set, subst, add-one}
use Rattle.std.proofs.lemmas.List.{get_or-map, set-get_or, length-map}
use Rattle.std.proofs.lemmas.Bool.{cond-true, cond-false}
use Rattle.units.specs.Positions.{last_below}
use Rattle.units.specs.Classes.{class_at, classes_at}
use Rattle.units.specs.Weak.{at_each, nearest_before}
use Rattle.units.specs.declared.class.Class.{Class}
use Rattle.units.specs.declared.class.Class.TheVariants.{L}
use Rattle.sequences.specs.Links.{ArePositions}
use Rattle.resolve.specs.Rewritten.{Rewrites}
use Rattle.resolve.proofs.Ahead.{class_or-if}
use Rattle.units.proofs.Lengths.{length-at_each}
use Rattle.resolve.proofs.AtEach.{class_at-at_each}
use Rattle.resolve.proofs.Gathered.{length-classes_at}
use Rattle.resolve.proofs.Passes.{Pass, pass_start, pass_reads, pass_within, pass_write}

class_at-map : (f : Class → Class) (cs : List Class) (k : ℕ) → k < length cs → class_at (map f cs) k ≡ f (class_at cs k)
class_at-map f cs k h = get_or-map f cs k L L h

-- the nearest earlier class, for the next index
nearest_before-more : (cs : List Class) (test : Class → Bool) (k : ℕ) (sos : Class) →
    nearest_before cs test (k + 1) sos ≡ (if test (class_at cs k) then class_at cs k else nearest_before cs test k sos)
nearest_before-more cs test k sos =
    rw add-one (class_or-if cs k (test (class_at cs k)) (last_below (λ j. test (class_at cs j)) k) sos)

module _ {ps : List ℕ} {to start now : List Class} {k : ℕ} (w : Pass ps to start now k) (inside : k < length ps) where
  -- the pass leaves the class at its index unchanged
  pub pass_keep : class_at now (slice_index ps k) ≡ class_at to k → Pass ps to start now (k + 1)
  pass_keep is =
      let P : List Class → Type 0 = λ cs. Pass ps to start cs (k + 1) in
      subst P (set-get_or now (slice_index ps k) L) (pass_write w inside (class_at now (slice_index ps k)) is)

  -- the pass writes the class that the rule gives at its index
  pub pass_each : (g : ℕ → Class) → to ≡ at_each g (classes_at start ps) → (v : Class) → v ≡ g k →
      Pass ps to start (set now (slice_index ps k) v) (k + 1)
  pass_each g shape v is =
      pass_write w inside v (is ∙ sym (ap (λ (cs : List Class). class_at cs k) shape ∙
      class_at-at_each g (classes_at start ps) k (pass_within w inside)))

  -- the nearest earlier class, at the next index
  pub pass_nearest_here : (test : Class → Bool) (sos : Class) → test (class_at now (slice_index ps k)) ≡ true →
      class_at now (slice_index ps k) ≡ nearest_before (classes_at start ps) test (k + 1) sos
  pass_nearest_here test sos t =
      let t : test (class_at (classes_at start ps) k) ≡ true = (ap test (sym (pass_reads w inside)) ∙ t) in
      pass_reads w inside ∙ sym (nearest_before-more (classes_at start ps) test k sos ∙ cond-true _ _ _ t)

  pub pass_nearest_same : (test : Class → Bool) (sos nearest : Class) → test (class_at now (slice_index ps k)) ≡ false →
      nearest ≡ nearest_before (classes_at start ps) test k sos →
      nearest ≡ nearest_before (classes_at start ps) test (k + 1) sos
  pass_nearest_same test sos nearest t same =
      let t : test (class_at (classes_at start ps) k) ≡ false = (ap test (sym (pass_reads w inside)) ∙ t) in
      same ∙ sym (nearest_before-more (classes_at start ps) test k sos ∙ cond-false _ _ _ t)

-- a pass whose rule reads the nearest earlier class that passes the test
abbrev pub by_nearest : (Class → Class → Class) → (Class → Bool) → Class → List Class → List Class
by_nearest rule test sos from = at_each (λ k. rule (nearest_before from test k sos) (class_at from k)) from

pub record NearestPass (rule : Class → Class → Class) (test : Class →
    Bool) (sos : Class) (ps : List ℕ) (start now : List Class) (nearest : Class) (k : ℕ) : Type 0 where
  pub pass : Pass ps (by_nearest rule test sos (classes_at start ps)) start now k
  pub nearest_is : nearest ≡ nearest_before (classes_at start ps) test k sos

pub nearest_pass_start : (rule : Class → Class → Class) (test : Class → Bool) (sos nearest : Class) → nearest ≡ sos →
    (ps : List ℕ) (start : List Class) →
    ArePositions ps (length start) → NearestPass rule test sos ps start start nearest 0
nearest_pass_start rule test sos nearest same ps start p =
    record {
      pass = pass_start ps _ start p (length-at_each _ (classes_at start ps) ∙ length-classes_at start ps);
      nearest_is = same;
    }

module _ {rule : Class → Class → Class} {test : Class →
    Bool} {sos : Class} {ps : List ℕ} {start now : List Class} {nearest : Class} {k : ℕ}
    (w : NearestPass rule test sos ps start now nearest k) (inside : k < length ps) (v : Class) (is : v ≡
    rule nearest (class_at now (slice_index ps k))) where
  nearest_pass_write : Pass ps (by_nearest rule test sos (classes_at start ps)) start (set now (slice_index ps k) v)
      (k + 1)
  nearest_pass_write =
      pass_each w.pass inside _ refl v (is ∙ ap (λ (c : Class). rule nearest c) (pass_reads w.pass inside)
      ∙ ap (λ (c : Class). rule c (class_at (classes_at start ps) k)) w.nearest_is)

  pub nearest_pass_here : test (class_at now (slice_index ps k)) ≡ true →
      NearestPass rule test sos ps start (set now (slice_index ps k) v) (class_at now (slice_index ps k)) (k + 1)
  nearest_pass_here t = record { pass = nearest_pass_write; nearest_is = pass_nearest_here w.pass inside test sos t }

  pub nearest_pass_same : test (class_at now (slice_index ps k)) ≡ false →
      NearestPass rule test sos ps start (set now (slice_index ps k) v) nearest (k + 1)
  nearest_pass_same t = record {
    pass = nearest_pass_write;
    nearest_is =
        pass_nearest_same w.pass inside test sos nearest t w.nearest_is;
  }

-- a pass whose rule reads the class alone
abbrev pub EachPass : (Class → Class) → List ℕ → List Class → List Class → ℕ → Type 0
EachPass f ps start now k = Pass ps (map f (classes_at start ps)) start now k

pub each_pass_start : (f : Class → Class) (ps : List ℕ) (start : List Class) → ArePositions ps (length start) →
    EachPass f ps start start 0
each_pass_start f ps start p = pass_start ps _ start p (length-map (classes_at start ps) f ∙ length-classes_at start ps)

pub each_pass_write : (f : Class → Class) {ps : List ℕ} {start now : List Class} {k : ℕ} →
    Pass ps (map f (classes_at start ps)) start now k → k < length ps →
    (v : Class) → v ≡ f (class_at now (slice_index ps k)) → EachPass f ps start (set now (slice_index ps k) v) (k + 1)
each_pass_write f {ps} {start} {now} {k} w inside v is =
    pass_write w inside v (is ∙ ap f (pass_reads w inside) ∙
    sym (class_at-map f (classes_at start ps) k (pass_within w inside)))

-- one rewriting after another
pub Rewrites-then : {f g : List Class → List Class} {ps : List ℕ} {a b c : List Class} → Rewrites f ps a b →
    Rewrites g ps b c → Rewrites (λ cs. g (f cs)) ps a c
Rewrites-then {f} {g} x y = grind arith
