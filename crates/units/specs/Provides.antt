-- What a source over a reader returns.
use Rattle.std.specs.Prelude.{◌≡◌, ℕ, ◌+◌, ◌<◌, List, [], ◌++◌, Option, None, Some, length, refl}
use Rattle.std.specs.Io.KnownBytes.{Consumes, IsAtEnd}
use Rattle.std.proofs.Common.{arith, length-append, append-nil, append_assoc, sym, ap, subst, ◌∙◌}
use Rattle.units.specs.declared.reader_source.State.{State}
use Rattle.units.specs.declared.reader_source.State.TheVariants.{Open, Ended, Failed}
use Rattle.units.specs.declared.unread.Unread.{Unread}
use Rattle.units.specs.declared.unread.Unread.TheVariants.{TooLarge, Other}
use Rattle.units.specs.Joined.{splits_joined}

-- a source over a reader: the bytes that the reader still gives, if they are known, how many bytes may still come, and
-- the state of the source
pub record Reading : Type 0 where
  pub remaining : Option (List ℕ)
  pub limit : ℕ
  pub state : State

-- a read found the end, and the reader gives no more
pub record ReaderHasEnded (source : Reading) : Type 0 where
  pub state_is : source.state ≡ Ended
  pub no_more : IsAtEnd source.remaining

-- how many reads have failed
abbrev pub failures_of : State → ℕ
failures_of Open = 0
failures_of Ended = 0
failures_of (Failed unread) = 1

-- why a read has failed
abbrev pub unread_of : State → Unread
unread_of Open = Other
unread_of Ended = Other
unread_of (Failed unread) = unread

-- these bytes are the first of what a reader gives
abbrev pub Begins : Option (List ℕ) → List ℕ → Type 0
Begins known bytes = (rest : Option (List ℕ)) × Consumes known rest bytes

-- after these bytes a reader gives more than this number of bytes
abbrev pub GivesTooMany : Option (List ℕ) → List ℕ → ℕ → Type 0
GivesTooMany known bytes limit = (more : List ℕ) × Begins known (bytes ++ more) × (limit < length more)

-- a source returned these bytes, the first of those that its reader gives, and took no others unless it has failed.
-- After a failure it returns nothing, stays unchanged and does not call its reader. If it fails with `TooLarge`, the
-- reader does give too many bytes.
pub record Provides (before after : Option (List ℕ)) (limit limit' : ℕ) (state state' : State)
    (bytes : List ℕ) : Type 0 where
  pub first : Begins before bytes
  pub consumed : failures_of state' ≡ 0 → Consumes before after bytes
  pub falls : limit' + length bytes ≡ limit
  pub stays : failures_of state ≡ 1 → state' ≡ state
  pub passes : failures_of state ≡ 0 → state' ≡ Failed TooLarge → GivesTooMany before bytes limit'
  pub asks_no_more : failures_of state ≡ 1 → after ≡ before
  pub gives_no_more : failures_of state ≡ 1 → bytes ≡ []

pub Consumes-nothing : (known : Option (List ℕ)) → Consumes known known []
Consumes-nothing None = tt
Consumes-nothing (Some xs) = refl

Consumes-joined : (a b c : Option (List ℕ)) (xs ys : List ℕ) → Consumes a b xs → Consumes b c ys
    → Consumes a c (xs ++ ys)
Consumes-joined None b c xs ys f g = tt
Consumes-joined (Some s) None c xs ys f g = absurd f
Consumes-joined (Some s) (Some t) None xs ys f g = absurd g
Consumes-joined (Some s) (Some t) (Some u) xs ys f g = splits_joined s t u xs ys f g

failures-cases : (s t : State) → failures_of t ≡ 0 → (failures_of s ≡ 1 → t ≡ s) → failures_of s ≡ 0
failures-cases Open t z f = refl
failures-cases Ended t z f = refl
failures-cases (Failed unread) t z f =
    absurd (let k : failures_of t ≡ 1 = ap failures_of (f refl) in let bad : ⊥ = omega (arith, k, z) in bad)

first-joined : (a b : Option (List ℕ)) (t : State) (xs ys : List ℕ) → Begins a xs → Begins b ys
    → (failures_of t ≡ 0 → Consumes a b xs) → (failures_of t ≡ 1 → ys ≡ [])
    → Begins a (xs ++ ys)
first-joined a b Open xs ys f g c n = (g.0, Consumes-joined a b g.0 xs ys (c refl) g.1)
first-joined a b Ended xs ys f g c n = (g.0, Consumes-joined a b g.0 xs ys (c refl) g.1)
first-joined a b (Failed unread) xs ys f g c n =
    let all : xs ≡ xs ++ ys = sym (append-nil xs) ∙ ap (λ zs. xs ++ zs) (sym (n refl)) in
    subst (Begins a) all f

joined-nothing : (xs ys : List ℕ) → xs ≡ [] → ys ≡ [] → xs ++ ys ≡ []
joined-nothing xs ys e f = rw (e, f) refl

-- after both byte lists the reader gives more than this number of bytes
too_many-following : (a b : Option (List ℕ)) (xs ys : List ℕ) (n : ℕ) → Consumes a b xs → GivesTooMany b ys n
    → GivesTooMany a (xs ++ ys) n
too_many-following a b xs ys n f g = (
  g.0,
  (g.1.0, subst (Consumes a g.1.0) (sym (append_assoc xs ys g.0)) (Consumes-joined a b g.1.0 xs (ys ++ g.0) f g.1.1)),
  g.2,
)

passes-joined : (a b : Option (List ℕ)) (m n : ℕ) (s t u : State) (xs ys : List ℕ)
    → (failures_of s ≡ 0 → t ≡ Failed TooLarge → GivesTooMany a xs m)
    → (failures_of t ≡ 0 → u ≡ Failed TooLarge → GivesTooMany b ys n)
    → (failures_of t ≡ 0 → Consumes a b xs) → (failures_of t ≡ 1 → u ≡ t) → (failures_of t ≡ 1 → ys ≡ [])
    → n + length ys ≡ m → failures_of s ≡ 0 → u ≡ Failed TooLarge → GivesTooMany a (xs ++ ys) n
passes-joined a b m n s Open u xs ys p q c stays no_more falls z e = too_many-following a b xs ys n (c refl) (q refl e)
passes-joined a b m n s Ended u xs ys p q c stays no_more falls z e = too_many-following a b xs ys n (c refl) (q refl e)
passes-joined a b m n s (Failed unread) u xs ys p q c stays no_more falls z e =
    let early : GivesTooMany a xs m = p z (sym (stays refl) ∙ e) in
    let all : xs ≡ xs ++ ys = sym (append-nil xs) ∙ ap (λ zs. xs ++ zs) (sym (no_more refl)) in
    let none : length ys ≡ 0 = ap length (no_more refl) in
    let same : m ≡ n = omega (arith, falls, none) in
    subst (λ zs. GivesTooMany a zs n) all (subst (GivesTooMany a xs) same early)

failed-once : (s : State) → failures_of s ≡ 0 → s ≡ Failed TooLarge → ⊥
failed-once s z e = let k : failures_of s ≡ 1 = ap failures_of e in let bad : ⊥ = omega (arith, k, z) in bad

pub Provides-nothing : (known : Option (List ℕ)) (limit : ℕ) (state : State)
    → Provides known known limit limit state state []
Provides-nothing known limit state = record {
  first = (known, Consumes-nothing known);
  consumed = λ _. Consumes-nothing known;
  falls = omega arith;
  stays = λ _. refl;
  passes = λ z e. absurd (failed-once state z e);
  asks_no_more = λ _. refl;
  gives_no_more = λ _. refl;
}

pub Provides-joined : (a b c : Option (List ℕ)) (l m n : ℕ) (s t u : State) (xs ys : List ℕ)
    → Provides a b l m s t xs → Provides b c m n t u ys → Provides a c l n s u (xs ++ ys)
Provides-joined a b c l m n s t u xs ys f g = record {
  first = first-joined a b t xs ys f.first g.first f.consumed g.gives_no_more;
  consumed = λ z. Consumes-joined a b c xs ys (f.consumed (failures-cases t u z g.stays)) (g.consumed z);
  falls = omega (arith, f.falls, g.falls, length-append xs ys);
  stays = λ h. g.stays (ap failures_of (f.stays h) ∙ h) ∙ f.stays h;
  passes = passes-joined a b m n s t u xs ys f.passes g.passes f.consumed g.stays g.gives_no_more g.falls;
  asks_no_more = λ h. g.asks_no_more (ap failures_of (f.stays h) ∙ h) ∙ f.asks_no_more h;
  gives_no_more = λ h. joined-nothing xs ys (f.gives_no_more h) (g.gives_no_more (ap failures_of (f.stays h) ∙ h));
}
