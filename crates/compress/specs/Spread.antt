-- Lists in which an item occurs after another, and lists of which each item counts for several.
use Rattle.std.specs.Prelude.{ℕ, zero, suc, ◌+◌, Bool, true, false, List, [], ◌∷◌, ◌++◌}
use Rattle.units.specs.declared.class.Class.{Class}
use Rattle.units.specs.declared.class.Class.TheVariants.{L, R, AL, EN, ES, ET, AN, CS, NSM, S, WS, ON}

-- after the item at k occurs this one too
abbrev pub put : {A : Type 0} → ℕ → A → List A → List A
put k x [] = []
put zero x (y ∷ ys) = y ∷ x ∷ ys
put (suc k) x (y ∷ ys) = y ∷ put k x ys

-- the item at k occurs twice
abbrev pub twice : {A : Type 0} → ℕ → List A → List A
twice k [] = []
twice zero (x ∷ xs) = x ∷ x ∷ xs
twice (suc k) (x ∷ xs) = x ∷ twice k xs

-- so many of one item
abbrev pub copies : {A : Type 0} → ℕ → A → List A
copies zero x = []
copies (suc n) x = x ∷ copies n x

-- each item as often as it counts
abbrev pub spread : {A : Type 0} → List ℕ → List A → List A
spread [] xs = []
spread (w ∷ ws) [] = []
spread (w ∷ ws) (x ∷ xs) = copies w x ++ spread ws xs

-- the item at k counts for the next one too
abbrev pub merged : ℕ → List ℕ → List ℕ
merged k [] = []
merged zero (v ∷ []) = v ∷ []
merged zero (v ∷ w ∷ ws) = (v + w) ∷ ws
merged (suc k) (w ∷ ws) = w ∷ merged k ws

-- each item counts for itself
abbrev pub ones : {A : Type 0} → List A → List ℕ
ones [] = []
ones (x ∷ xs) = 1 ∷ ones xs

-- classes that may occur twice: letters, numbers, terminators and spaces
abbrev pub may_repeat : Class → Bool
may_repeat L = true
may_repeat R = true
may_repeat AL = true
may_repeat EN = true
may_repeat ET = true
may_repeat AN = true
may_repeat S = true
may_repeat WS = true
may_repeat ON = true
may_repeat _ = false

-- spaces and other neutrals that occur alone
abbrev pub is_space : Class → Bool
is_space S = true
is_space WS = true
is_space ON = true
is_space _ = false

-- letters and such neutrals: classes after which W1 to W7 know of no number
abbrev pub is_quiet : Class → Bool
is_quiet L = true
is_quiet R = true
is_quiet AL = true
is_quiet S = true
is_quiet WS = true
is_quiet ON = true
is_quiet _ = false

-- letters, numbers and neutrals: what W3 makes of one stays through W5, whatever comes after it
abbrev pub is_firm : Class → Bool
is_firm EN = true
is_firm AN = true
is_firm c = is_quiet c

-- ET after a letter or a neutral, and before a letter, a neutral or an Arabic number: a neutral
abbrev pub is_still : Class → Bool
is_still AN = true
is_still c = is_quiet c

-- two that know the same strong class, before a class that is no mark and no separator, and no terminator unless they
-- have decided alike
abbrev pub is_apart : Class → Bool
is_apart NSM = false
is_apart ES = false
is_apart CS = false
is_apart ET = false
is_apart c = true

-- no mark and no number
abbrev pub is_no_number : Class → Bool
is_no_number EN = false
is_no_number AN = false
is_no_number NSM = false
is_no_number _ = true
