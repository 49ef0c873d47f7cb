-- A pass from left to right that leaves out units whose level is that of the one before them.
use Rattle.std.specs.Prelude.{ℕ, not, ◌+◌, Bool, true, false, ◌&&◌, ◌||◌, if◌then◌else◌, List, [], ◌∷◌}
use Rattle.units.specs.Classes.{is_nonspacing, is_removed, is_strong}
use Rattle.units.specs.Layout.{no_unit}
use Rattle.units.specs.declared.bracket.Bracket.{Bracket}
use Rattle.units.specs.declared.bracket.Bracket.TheVariants.{No}
use Rattle.units.specs.declared.bracket.Unit.{Unit as BidiUnit}
use Rattle.units.specs.declared.class.Class.{Class}
use Rattle.units.specs.declared.class.Class.TheVariants.{L, R, AL, EN, ES, ET, AN, CS, ON}
use Rattle.resolve.specs.declared.preceding.Preceding.{Preceding}
use Rattle.compress.specs.Spread.{may_repeat, is_space, is_quiet, is_firm, is_still, is_apart, is_no_number}
use Rattle.resolve.specs.ThroughW3.{preceding_of, preceding_past}

-- the units that were chosen, the last one first, and for how many each counts
abbrev pub Stack : Type 0
Stack = List (BidiUnit × ℕ)

-- no bracket
abbrev pub is_bare : Bracket → Bool
is_bare No = true
is_bare _ = false

-- the same letter, number or terminator again
abbrev pub repeats : Class → Class → Bool
repeats L L = true
repeats R R = true
repeats AL AL = true
repeats EN EN = true
repeats AN AN = true
repeats ET ET = true
repeats _ _ = false

-- a letter of this direction
abbrev pub is_directed : Class → Class → Bool
is_directed L L = true
is_directed R R = true
is_directed R AL = true
is_directed _ _ = false

-- letters of one direction
abbrev pub is_one_way : Class → Class → Bool
is_one_way L L = true
is_one_way R R = true
is_one_way R AL = true
is_one_way AL R = true
is_one_way AL AL = true
is_one_way _ _ = false

-- u has the level of c, the one before it
abbrev pub joins : Class → BidiUnit → BidiUnit → Bool
joins direction c u =
    (is_nonspacing u.class && may_repeat c.class)
    || ((is_bare u.bracket && is_bare c.bracket)
    && (repeats c.class u.class || (is_space u.class && (is_space c.class || is_directed direction c.class))))

-- d, between c and u, has their level
abbrev pub is_between : BidiUnit → BidiUnit → BidiUnit → Bool
is_between c d u = (is_bare d.bracket && is_bare c.bracket) && (is_space d.class && is_one_way c.class u.class)

-- a CS between these
abbrev pub comma_between : Class → Class → Class
comma_between EN EN = EN
comma_between AN AN = AN
comma_between c n = CS

-- what replaces class u after c and before n, where this is the last strong class
abbrev pub class_for : Class → Class → Class → Class → Class
class_for strong c CS n = if is_quiet c || (is_firm c && is_no_number n) then ON else comma_between c n
class_for strong c ES n = if is_quiet c || (is_firm c && is_no_number n) then ON else ES
class_for strong c ET n = if is_quiet c && is_still n then ON else ET
class_for strong c EN n = if (is_quiet c && is_directed L strong) && is_apart n then L else EN
class_for strong c u n = u

-- the classes that another one may replace
abbrev pub is_number_or_sign : Class → Bool
is_number_or_sign EN = true
is_number_or_sign ES = true
is_number_or_sign ET = true
is_number_or_sign CS = true
is_number_or_sign c = false

-- the same, if this is the last strong class: a number stays what it is after others than L
abbrev pub needs_next : Class → Class → Bool
needs_next strong EN = is_directed L strong
needs_next strong u = is_number_or_sign u

-- a bracket stays what it is
abbrev pub unit_for : Class → BidiUnit → BidiUnit → Class → BidiUnit
unit_for strong c u n = if is_bare u.bracket then record { class = class_for strong c.class u.class n; bracket = u.bracket } else u

-- a sign that joins what it follows as a neutral does
abbrev pub is_sign : Class → Bool
is_sign ES = true
is_sign CS = true
is_sign _ = false

-- a unit without a bracket and of class u is dropped after class c, without a bracket too, whatever comes next
abbrev pub passes : Class → Class → Class → Bool
passes direction c u =
    is_removed u || ((is_nonspacing u && may_repeat c)
    || (repeats c u || ((is_space u || is_sign u) && (is_space c || is_directed direction c))))

-- the same after a unit that may have a bracket
abbrev pub passes_after : Class → BidiUnit → Class → Bool
passes_after direction c u = if is_bare c.bracket then passes direction c.class u else is_removed u

-- a neutral or a separator, without a bracket: between letters it is neutral
abbrev pub is_neutral_unit : BidiUnit → Bool
is_neutral_unit u = is_bare u.bracket && (is_space u.class || is_sign u.class)

abbrev pub is_terminator : Class → Bool
is_terminator ET = true
is_terminator c = false

-- a terminator, without a bracket: between letters it is neutral
abbrev pub is_terminator_unit : BidiUnit → Bool
is_terminator_unit u = is_bare u.bracket && is_terminator u.class

-- the same letter
abbrev pub is_same_letter : Class → Class → Bool
is_same_letter L L = true
is_same_letter R R = true
is_same_letter AL AL = true
is_same_letter _ _ = false

-- this letter again, without a bracket
abbrev pub is_letter_again : Class → BidiUnit → Bool
is_letter_again letter u = is_bare u.bracket && is_same_letter letter u.class

-- a letter without a bracket, not of this direction: neutrals after it depend on what comes after them
abbrev pub is_open_letter : Class → BidiUnit → Bool
is_open_letter direction u = is_bare u.bracket && (is_strong u.class && not (is_directed direction u.class))

-- what is known after these units
abbrev pub known_after : Class → Stack → Preceding
known_after sos [] = preceding_of sos
known_after sos (top ∷ back) = preceding_past (known_after sos back) top.0.class

-- the one between two letters of one direction is dropped after all
abbrev pub popped : Stack → BidiUnit → Stack
popped [] u = []
popped (d ∷ []) u = d ∷ []
popped (d ∷ c ∷ back) u = if is_between c.0 d.0 u then (c.0, c.1 + d.1) ∷ back else d ∷ c ∷ back

-- the next one is dropped or chosen
abbrev pub added : Class → Stack → BidiUnit → Stack
added direction [] u = (u, 1) ∷ []
added direction (c ∷ back) u = if joins direction c.0 u then (c.0, c.1 + 1) ∷ back else (u, 1) ∷ c ∷ back

-- what replaces the next one
abbrev pub next_for : Class → Stack → BidiUnit → Class → BidiUnit
next_for sos [] u n = u
next_for sos (c ∷ back) u n = unit_for (known_after sos (c ∷ back)).strong c.0 u n

-- one turn
abbrev pub turned : Class → Class → Stack → BidiUnit → Class → Stack
turned direction sos stack u n = added direction (popped stack (next_for sos stack u n)) (next_for sos stack u n)

abbrev pub first_unit : List BidiUnit → BidiUnit
first_unit [] = no_unit
first_unit (u ∷ us) = u

-- all turns
abbrev pub squeezed : Class → Class → Stack → List BidiUnit → Stack
squeezed direction sos stack [] = stack
squeezed direction sos stack (u ∷ tail) = squeezed direction sos (turned direction sos stack u (first_unit tail).class) tail

-- the units of a stack before others, and their counts before others
abbrev pub units_onto : Stack → List BidiUnit → List BidiUnit
units_onto [] us = us
units_onto (top ∷ back) us = units_onto back (top.0 ∷ us)

abbrev pub counts_onto : Stack → List ℕ → List ℕ
counts_onto [] ws = ws
counts_onto (top ∷ back) ws = counts_onto back (top.1 ∷ ws)
