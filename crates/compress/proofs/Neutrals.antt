-- N1 and N2 where a neutral occurs after a class that gives it its own direction, or after a neutral.
use Rattle.std.specs.Prelude.{ℕ, zero, suc, true, false, not, ◌≡◌, ◌<◌, List, [], ◌∷◌, length, unwrap_or, if◌then◌else◌, refl}
use Rattle.std.proofs.Common.{arith, ap, sym, subst, ◌∙◌, ◌⊎◌, inl, inr}
use Rattle.std.proofs.lemmas.Bool.{cases_Bool, cond-true, cond-false}
use Rattle.units.specs.Classes.{class_at, is_neutral}
use Rattle.units.specs.Neutral.{side_of, agreed, by_sides, after_neutral}
use Rattle.units.specs.Runs.{SequenceView, direction_of}
use Rattle.units.specs.declared.class.Class.{Class}
use Rattle.units.specs.declared.class.Class.TheVariants.{L, R}
use Rattle.resolve.specs.Ahead.{first_class}
use Rattle.resolve.specs.declared.neutral.Sides.{Sides}
use Rattle.resolve.specs.Neutrals.{is_no_neutral, sides_of, taken_before, by_run, sides_past}
use Rattle.compress.specs.Spread.{put, twice}
use Rattle.resolve.proofs.NeutralPasses.{after_neutral-after_state_pass}
use Rattle.compress.proofs.Repeats.{neutral_given, neutral_past, inside_run, outside_runs}
use Rattle.resolve.proofs.StatePasses.{after_state_pass}

-- c and b are letters or numbers of one direction, and c replaces it
pub record OneSide (c b : Class) : Type 0 where
  pub own : side_of c ≡ c
  pub letter : is_neutral c ≡ false
  pub next : is_neutral b ≡ false
  pub agrees : side_of b ≡ c

-- what occurs at k gives its own direction to neutrals after it: it is a neutral itself, or L or R before a letter or number of
-- its direction, or the embedding direction
abbrev pub Gives : Class → ℕ → List Class → Type 0
Gives embedding k cs =
    (is_neutral (class_at cs k) ≡ true) ⊎ (((suc k < length cs) × OneSide (class_at cs k) (class_at cs (suc k))) ⊎ ((class_at cs k ≡ embedding) × ((side_of embedding ≡ embedding) × (is_neutral embedding ≡ false))))

first-put : (d : Class) → is_neutral d ≡ true → (k : ℕ) (cs : List Class) (end : Class) → first_class is_no_neutral (put k d cs) end ≡ first_class is_no_neutral cs end
first-put d t k [] end = refl
first-put d t zero (c ∷ cs) end =
    ap (λ (a : Class). if is_no_neutral c then c else a) (cond-false (is_no_neutral d) d (first_class is_no_neutral cs end) (ap not t))
first-put d t (suc k) (c ∷ cs) end = ap (λ (a : Class). if is_no_neutral c then c else a) (first-put d t k cs end)

taken-put : (x : Sides) (d : Class) → is_neutral d ≡ true → (k : ℕ) (cs : List Class) → taken_before x (put k d cs) ≡ taken_before x cs
taken-put x d t k cs = ap (λ (a : Class). unwrap_or x.taken (by_sides x.embedding x.before a)) (first-put d t k cs x.end)

taken-first : (x : Sides) (d : Class) → is_neutral d ≡ true → (cs : List Class) → taken_before x (d ∷ cs) ≡ taken_before x cs
taken-first x d t cs = ap (λ (a : Class). unwrap_or x.taken (by_sides x.embedding x.before a)) (cond-false (is_no_neutral d) d (first_class is_no_neutral cs x.end) (ap not t))

abbrev N : Sides → List Class → List Class
N x cs = after_state_pass by_run sides_past x cs

-- at a neutral, and at another class
at_neutral : (x : Sides) (c : Class) (cs : List Class) → is_neutral c ≡ true → N x (c ∷ cs) ≡ taken_before x cs ∷ N (inside_run x (taken_before x cs)) cs
at_neutral x c cs t =
    ap (λ (v : Class). v ∷ N (sides_past x c cs) cs) (cond-true (is_neutral c) (taken_before x cs) c t)
    ∙ ap (λ (y : Sides). taken_before x cs ∷ N y cs) (cond-true (is_neutral c) (inside_run x (taken_before x cs)) (outside_runs x c) t)

at_letter : (x : Sides) (c : Class) (cs : List Class) → is_neutral c ≡ false → N x (c ∷ cs) ≡ c ∷ N (outside_runs x c) cs
at_letter x c cs f =
    ap (λ (v : Class). v ∷ N (sides_past x c cs) cs) (cond-false (is_neutral c) (taken_before x cs) c f)
    ∙ ap (λ (y : Sides). c ∷ N y cs) (cond-false (is_neutral c) (inside_run x (taken_before x cs)) (outside_runs x c) f)

agreed_same : (d after : Class) → agreed d after d ≡ d
agreed_same L L = refl
agreed_same L after = refl
agreed_same R R = refl
agreed_same R after = refl
agreed_same d after = refl

agreed_both : (c embedding : Class) → side_of c ≡ c → agreed c c embedding ≡ c
agreed_both L e h = refl
agreed_both R e h = refl
agreed_both c e h = let s : R ≡ c = h in subst (λ (b : Class). agreed b b e ≡ b) s refl

by_sides_both : (e c b : Class) → OneSide c b → by_sides e c b ≡ c
by_sides_both e c b s = ap (λ (x : Class). agreed x (side_of b) e) s.own ∙ ap (λ (x : Class). agreed c x e) s.agrees ∙ agreed_both c e s.own

by_sides_same : (d after : Class) → side_of d ≡ d → by_sides d d after ≡ d
by_sides_same d after side = ap (λ (b : Class). agreed b (side_of after) d) side ∙ agreed_same d (side_of after)

-- after the embedding direction a run that takes it is as good as none
directed_alike : (x : Sides) (c : Class) → x.embedding ≡ c → side_of c ≡ c → (cs : List Class) → N (inside_run (outside_runs x c) c) cs ≡ N (outside_runs x c) cs
directed_alike x c e side [] = refl
directed_alike x c e side (b ∷ cs) =
    let y : Sides = outside_runs x c in
    let z : Sides = inside_run (outside_runs x c) c in
    let took : taken_before y cs ≡ c =
    ap (λ (f : Class). by_sides f c (first_class is_no_neutral cs x.end)) e ∙ by_sides_same c (first_class is_no_neutral cs x.end) side in
    elim (cases_Bool (is_neutral b)) [
      | inl t ↦ at_neutral z b cs t ∙ sym (at_neutral y b cs t ∙ ap (λ (v : Class). v ∷ N (inside_run y v) cs) took)
      | inr f ↦ at_letter z b cs f ∙ sym (at_letter y b cs f)
    ]

gives_here : (x : Sides) (d : Class) → is_neutral d ≡ true → (c : Class) (cs : List Class) → Gives x.embedding 0 (c ∷ cs) → N x (c ∷ d ∷ cs) ≡ twice 0 (N x (c ∷ cs))
gives_here x d t c cs (inl n) =
    let v : Class = taken_before x cs in
    at_neutral x c (d ∷ cs) n
    ∙ ap (λ (w : Class). w ∷ N (inside_run x w) (d ∷ cs)) (taken-first x d t cs)
    ∙ ap (λ (ds : List Class). v ∷ ds) (at_neutral (inside_run x v) d cs t)
    ∙ sym (ap (twice 0) (at_neutral x c cs n))
gives_here x d t c [] (inr (inl (inside, s))) = absurd (omega arith)
gives_here x d t c (b ∷ cs) (inr (inl (inside, s))) =
    let y : Sides = outside_runs x c in
    let took : taken_before y (b ∷ cs) ≡ c =
    ap (by_sides x.embedding c) (cond-true (is_no_neutral b) b (first_class is_no_neutral cs x.end) (ap not s.next)) ∙ by_sides_both x.embedding c b s in
    at_letter x c (d ∷ b ∷ cs) s.letter
    ∙ ap (λ (ds : List Class). c ∷ ds) (at_neutral y d (b ∷ cs) t)
    ∙ ap (λ (w : Class). c ∷ w ∷ N (inside_run y w) (b ∷ cs)) took
    ∙ ap (λ (ds : List Class). c ∷ c ∷ ds) (at_letter (inside_run y c) b cs s.next ∙ sym (at_letter y b cs s.next))
    ∙ sym (ap (twice 0) (at_letter x c (b ∷ cs) s.letter))
gives_here x d t c cs (inr (inr (is, (side, letter)))) =
    let y : Sides = outside_runs x c in
    let s : side_of c ≡ c = rw is side in
    let l : is_neutral c ≡ false = rw is letter in
    let took : taken_before y cs ≡ c =
    ap (λ (f : Class). by_sides f c (first_class is_no_neutral cs x.end)) (sym is) ∙ by_sides_same c (first_class is_no_neutral cs x.end) s in
    at_letter x c (d ∷ cs) l
    ∙ ap (λ (ds : List Class). c ∷ ds) (at_neutral y d cs t)
    ∙ ap (λ (w : Class). c ∷ w ∷ N (inside_run y w) cs) took
    ∙ ap (λ (ds : List Class). c ∷ c ∷ ds) (directed_alike x c (sym is) s cs)
    ∙ sym (ap (twice 0) (at_letter x c cs l))

past_embedding : (x : Sides) (c : Class) (cs : List Class) → (sides_past x c cs).embedding ≡ x.embedding
past_embedding x c cs =
    elim (cases_Bool (is_neutral c)) [
      | inl t ↦ ap (λ (y : Sides). y.embedding) (cond-true (is_neutral c) (inside_run x (taken_before x cs)) (outside_runs x c) t)
      | inr f ↦ ap (λ (y : Sides). y.embedding) (cond-false (is_neutral c) (inside_run x (taken_before x cs)) (outside_runs x c) f)
    ]

gives_later : (e : Class) (k : ℕ) (c : Class) (cs : List Class) → Gives e (suc k) (c ∷ cs) → Gives e k cs
gives_later e k c cs (inl n) = inl n
gives_later e k c cs (inr (inl (inside, s))) = inr (inl (omega arith, s))
gives_later e k c cs (inr (inr h)) = inr (inr h)

pub gives_passed : (x : Sides) (d : Class) → is_neutral d ≡ true → (k : ℕ) (cs : List Class) → Gives x.embedding k cs → N x (put k d cs) ≡ twice k (N x cs)
gives_passed x d t k [] g = refl
gives_passed x d t zero (c ∷ cs) g = gives_here x d t c cs g
gives_passed x d t (suc k) (c ∷ cs) g =
    let same : is_neutral c ≡ true → taken_before x (put k d cs) ≡ taken_before x cs = λ h. taken-put x d t k cs in
    let later : Gives (sides_past x c cs).embedding k cs = subst (λ (e : Class). Gives e k cs) (sym (past_embedding x c cs)) (gives_later x.embedding k c cs g) in
    ap (λ (v : Class). v ∷ N (sides_past x c (put k d cs)) (put k d cs)) (neutral_given x c (put k d cs) cs same)
    ∙ ap (λ (y : Sides). by_run x c cs ∷ N y (put k d cs)) (neutral_past x c (put k d cs) cs same)
    ∙ ap (λ (ds : List Class). by_run x c cs ∷ ds) (gives_passed (sides_past x c cs) d t k cs later)

-- N1, N2
pub after_neutral-put : (s : SequenceView) (d : Class) → is_neutral d ≡ true → (k : ℕ) (cs : List Class) → Gives (direction_of s.level) k cs →
    after_neutral (direction_of s.level) s.sos s.eos (put k d cs) ≡ twice k (after_neutral (direction_of s.level) s.sos s.eos cs)
after_neutral-put s d t k cs g =
    after_neutral-after_state_pass s (put k d cs) ∙ gives_passed (sides_of s) d t k cs g ∙ ap (twice k) (sym (after_neutral-after_state_pass s cs))
