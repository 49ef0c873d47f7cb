-- N0 asks of the classes before W1 only which are marks; so where one class may replace another in W1 to W7, it may in
-- all rules.
use Rattle.std.specs.Prelude.{Option, Some, None, ℕ, zero, suc, ◌+◌, ◌-◌, Bool, ◌&&◌, ◌||◌, ◌==◌, nat_lt, ◌≡◌, List, [], ◌∷◌, map, fold, if◌then◌else◌, slice_range, refl}
use Rattle.std.specs.List.{list_all}
use Rattle.std.proofs.Common.{ap, sym, ◌∙◌}
use Rattle.units.specs.Brackets.{acting_bracket, acting_brackets, context_before, direction_of_pair, follows_bracket, given_to, with_direction, after_pair, after_paired, bracket_pairs_of, closer_of}
use Rattle.units.specs.Classes.{class_at, classes_of, is_nonspacing}
use Rattle.units.specs.Implicit.{implicit_level}
use Rattle.units.specs.Neutral.{after_neutral}
use Rattle.units.specs.Positions.{positions_from, positions_of}
use Rattle.units.specs.Runs.{SequenceView, direction_of}
use Rattle.units.specs.Weak.{after_weak}
use Rattle.units.specs.declared.bracket.Bracket.{Bracket}
use Rattle.units.specs.declared.bracket.Bracket.TheVariants.{No}
use Rattle.units.specs.declared.bracket.Unit.{Unit as BidiUnit}
use Rattle.units.specs.declared.class.Class.{Class}
use Rattle.compress.specs.Spread.{put}
use Rattle.compress.proofs.Bracketed.{unit_levels, after_n0, acting_no}
use Rattle.compress.proofs.Spreading.{map-put}

all_same : (f g : ℕ → Bool) → ((i : ℕ) → f i ≡ g i) → (ps : List ℕ) → list_all f ps ≡ list_all g ps
all_same f g e [] = refl
all_same f g e (p ∷ ps) = ap (λ (b : Bool). b && list_all f ps) (e p) ∙ ap (λ (b : Bool). g p && b) (all_same f g e ps)

map_same : (f g : ℕ → Class) → ((i : ℕ) → f i ≡ g i) → (ps : List ℕ) → map f ps ≡ map g ps
map_same f g e [] = refl
map_same f g e (p ∷ ps) = ap (λ (c : Class). c ∷ map f ps) (e p) ∙ ap (λ (cs : List Class). g p ∷ cs) (map_same f g e ps)

module _ (old new : List Class) (same : (i : ℕ) → is_nonspacing (class_at old i) ≡ is_nonspacing (class_at new i)) where
  follows-same : (b k : ℕ) → follows_bracket old b k ≡ follows_bracket new b k
  follows-same b k =
      ap (λ (t : Bool). (k == b) || (nat_lt b k && t)) (all_same (λ i. is_nonspacing (class_at old i)) (λ i. is_nonspacing (class_at new i)) same (positions_from (b + 1) (k - b)))

  given-same : (b : ℕ) (d : Class) (cs : List Class) → given_to old b d cs ≡ given_to new b d cs
  given-same b d cs =
      map_same (λ k. if follows_bracket old b k then d else class_at cs k) (λ k. if follows_bracket new b k then d else class_at cs k)
      (λ i. ap (λ (t : Bool). if t then d else class_at cs i) (follows-same b i)) (positions_of cs)

  with-same : (cs : List Class) (o c : ℕ) (m : Option Class) → with_direction old cs o c m ≡ with_direction new cs o c m
  with-same cs o c None = refl
  with-same cs o c (Some d) = ap (given_to old c d) (given-same o d cs) ∙ given-same c d (given_to new o d cs)

  pair-same : (e sos : Class) (cs : List Class) (o : ℕ) (r : Option ℕ) → after_pair e sos old cs o r ≡ after_pair e sos new cs o r
  pair-same e sos cs o None = refl
  pair-same e sos cs o (Some c) = with-same cs o c (direction_of_pair e (context_before cs sos o) (slice_range cs (o + 1) c))

  turns-same : (e sos : Class) (closer : ℕ → Option ℕ) (os : List ℕ) (cs : List Class) →
      fold (λ now o. after_pair e sos old now o (closer o)) cs os ≡ fold (λ now o. after_pair e sos new now o (closer o)) cs os
  turns-same e sos closer [] cs = refl
  turns-same e sos closer (o ∷ os) cs =
      ap (λ (now : List Class). fold (λ now o. after_pair e sos old now o (closer o)) now os) (pair-same e sos cs o (closer o))
      ∙ turns-same e sos closer os (after_pair e sos new cs o (closer o))

  pub paired-same : (e sos : Class) (closer : ℕ → Option ℕ) (cs : List Class) → after_paired e sos old closer cs ≡ after_paired e sos new closer cs
  unfolding after_paired
  paired-same e sos closer cs = turns-same e sos closer (positions_of cs) cs

marks-put : (k : ℕ) (c d : Class) (cs : List Class) → is_nonspacing c ≡ is_nonspacing d → (i : ℕ) → is_nonspacing (class_at (put k c cs) i) ≡ is_nonspacing (class_at (put k d cs) i)
marks-put k c d [] e i = refl
marks-put zero c d (a ∷ cs) e zero = refl
marks-put zero c d (a ∷ cs) e (suc zero) = e
marks-put zero c d (a ∷ cs) e (suc (suc i)) = refl
marks-put (suc k) c d (a ∷ cs) e zero = refl
marks-put (suc k) c d (a ∷ cs) e (suc i) = marks-put k c d cs e i

acting-swap : (k : ℕ) (u v : BidiUnit) (us : List BidiUnit) (cs : List Class) → u.bracket ≡ No → v.bracket ≡ No → acting_brackets (put k u us) cs ≡ acting_brackets (put k v us) cs
acting-swap k u v [] cs e f = refl
acting-swap zero u v (a ∷ us) [] e f = refl
acting-swap zero u v (a ∷ us) (c ∷ []) e f = refl
acting-swap zero u v (a ∷ us) (c ∷ d ∷ cs) e f =
    let one : acting_bracket d u.class u.bracket ≡ No = ap (acting_bracket d u.class) e ∙ acting_no d u.class in
    let other : acting_bracket d v.class v.bracket ≡ No = ap (acting_bracket d v.class) f ∙ acting_no d v.class in
    ap (λ (b : Bracket). acting_bracket c a.class a.bracket ∷ b ∷ acting_brackets us cs) (one ∙ sym other)
acting-swap (suc k) u v (a ∷ us) [] e f = refl
acting-swap (suc k) u v (a ∷ us) (c ∷ cs) e f = ap (λ (bs : List Bracket). acting_bracket c a.class a.bracket ∷ bs) (acting-swap k u v us cs e f)

-- one unit may replace another after the one at k, if W1 to W7 make the same of both
pub unit_swaps : (most : ℕ) (s : SequenceView) (us : List BidiUnit) (k : ℕ) (u v : BidiUnit) → u.bracket ≡ No → v.bracket ≡ No → is_nonspacing u.class ≡ is_nonspacing v.class →
    after_weak s.sos (put k u.class (classes_of us)) ≡ after_weak s.sos (put k v.class (classes_of us)) → unit_levels most s (put k u us) ≡ unit_levels most s (put k v us)
unit_swaps most s us k u v bare bare' marks weak =
    let e : Class = direction_of s.level in
    let cs : List Class = classes_of us in
    let is_u : classes_of (put k u us) ≡ put k u.class cs = map-put (λ (w : BidiUnit). w.class) k u us in
    let is_v : classes_of (put k v us) ≡ put k v.class cs = map-put (λ (w : BidiUnit). w.class) k v us in
    let tail : List Class = after_weak s.sos (put k v.class cs) in
    let closer : List BidiUnit → ℕ → Option ℕ = λ ws. closer_of (bracket_pairs_of most (acting_brackets ws (after_weak s.sos (put k v.class (classes_of us))))) in
    let n0 : after_n0 most s (put k u us) (after_weak s.sos (classes_of (put k u us))) ≡ after_n0 most s (put k v us) (after_weak s.sos (classes_of (put k v us))) =
    ap (λ (ds : List Class). after_n0 most s (put k u us) (after_weak s.sos ds)) is_u
    ∙ ap (after_n0 most s (put k u us)) weak
    ∙ ap (λ (bs : List Bracket). after_paired e s.sos (classes_of (put k u us)) (closer_of (bracket_pairs_of most bs)) tail) (acting-swap k u v us tail bare bare')
    ∙ ap (λ (before : List Class). after_paired e s.sos before (closer (put k v us)) tail) is_u
    ∙ paired-same (put k u.class cs) (put k v.class cs) (marks-put k u.class v.class cs marks) e s.sos (closer (put k v us)) tail
    ∙ ap (λ (before : List Class). after_paired e s.sos before (closer (put k v us)) tail) (sym is_v)
    ∙ ap (λ (ds : List Class). after_n0 most s (put k v us) (after_weak s.sos ds)) (sym is_v) in
    ap (λ (ds : List Class). map (implicit_level s.level) (after_neutral e s.sos s.eos ds)) n0
