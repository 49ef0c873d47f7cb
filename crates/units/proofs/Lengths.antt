-- Each rule over a sequence gives as many classes as there were (W1 to I2), and all of them a level or none for each
-- unit.
use Rattle.std.specs.Prelude.{Option, ℕ, Some, None, ◌≡◌, List, [], ◌∷◌, length, fold, refl}
use Rattle.std.proofs.Common.{arith, ◌∙◌}
use Rattle.std.proofs.lemmas.List.{length-map}
use Rattle.units.specs.Positions.{positions_of}
use Rattle.units.specs.Runs.{SequenceView}
use Rattle.units.specs.Weak.{at_each, after_w1, after_w2, after_w4, after_w5, after_w7, after_weak}
use Rattle.units.specs.Brackets.{given_to, with_direction, after_pair, after_paired}
use Rattle.units.specs.Neutral.{after_neutral}
use Rattle.units.specs.Classes.{classes_of}
use Rattle.units.specs.Layout.{levels_of_sequence, resolved_levels}
use Rattle.units.specs.Limits.{LimitsOf}
use Rattle.units.specs.declared.bracket.Unit.{Unit as BidiUnit}
use Rattle.units.specs.declared.class.Class.{Class}
use Rattle.units.proofs.Positions.{length-positions_from}

pub length-at_each : (f : ℕ → Class) (cs : List Class) → length (at_each f cs) ≡ length cs
length-at_each f cs = length-map (positions_of cs) f ∙ length-positions_from 0 (length cs)

length-after_w1 : (sos : Class) (cs : List Class) → length (after_w1 sos cs) ≡ length cs
length-after_w1 sos cs = length-at_each _ cs

length-after_w2 : (sos : Class) (cs : List Class) → length (after_w2 sos cs) ≡ length cs
length-after_w2 sos cs = length-at_each _ cs

length-after_w4 : (cs : List Class) → length (after_w4 cs) ≡ length cs
length-after_w4 cs = length-at_each _ cs

length-after_w5 : (cs : List Class) → length (after_w5 cs) ≡ length cs
length-after_w5 cs = length-at_each _ cs

length-after_w7 : (sos : Class) (cs : List Class) → length (after_w7 sos cs) ≡ length cs
length-after_w7 sos cs = length-at_each _ cs

pub length-after_weak : (sos : Class) (cs : List Class) → length (after_weak sos cs) ≡ length cs
unfolding after_weak
length-after_weak sos cs =
    grind (arith, length-after_w7, length-map, length-after_w5, length-after_w4, length-after_w2, length-after_w1)

length-with_direction : (before cs : List Class) (o c : ℕ) (direction : Option Class) →
    length (with_direction before cs o c direction) ≡ length cs
length-with_direction before cs o c None = refl
length-with_direction before cs o c (Some d) = length-at_each _ (given_to before o d cs) ∙ length-at_each _ cs

pub length-after_pair : (embedding sos : Class) (before cs : List Class) (o : ℕ) (closer : Option ℕ) →
    length (after_pair embedding sos before cs o closer) ≡ length cs
length-after_pair embedding sos before cs o None = refl
length-after_pair embedding sos before cs o (Some c) = length-with_direction before cs o c _

length-pairs : (embedding sos : Class) (before : List Class) (closer : ℕ → Option ℕ) (cs : List Class) (os : List ℕ) →
    length (fold (λ now o. after_pair embedding sos before now o (closer o)) cs os) ≡ length cs
length-pairs embedding sos before closer cs [] = refl
length-pairs embedding sos before closer cs (o ∷ os) =
    length-pairs embedding sos before closer (after_pair embedding sos before cs o (closer o)) os ∙
    length-after_pair embedding sos before cs o (closer o)

pub length-after_paired : (embedding sos : Class) (before : List Class) (closer : ℕ → Option ℕ) (cs : List Class) →
    length (after_paired embedding sos before closer cs) ≡ length cs
unfolding after_paired
length-after_paired embedding sos before closer cs = length-pairs embedding sos before closer cs (positions_of cs)

pub length-after_neutral : (embedding sos eos : Class) (cs : List Class) →
    length (after_neutral embedding sos eos cs) ≡ length cs
unfolding after_neutral
length-after_neutral embedding sos eos cs = length-at_each _ cs

pub length-levels_of_sequence : (room : ℕ) (s : SequenceView) (us : List BidiUnit) (before : List Class) →
    length (levels_of_sequence room s us before) ≡ length before
length-levels_of_sequence room s us before =
    grind (arith, length-map, length-after_neutral, length-after_paired, length-after_weak)

pub length-classes_of : (us : List BidiUnit) → length (classes_of us) ≡ length us
length-classes_of us = length-map us (λ (u : BidiUnit). u.class)

pub length-resolved_levels : (limits : LimitsOf) (us : List BidiUnit) (para_level : ℕ) →
    length (resolved_levels limits us para_level) ≡ length us
unfolding resolved_levels
length-resolved_levels limits us para_level = length-map (positions_of us) _ ∙ length-positions_from 0 (length us)
